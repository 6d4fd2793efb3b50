-- The answer of an exercise.
use Rattle.std.specs.Prelude.{ℕ, List, ◌++◌, codes, Ok}
use Rattle.exercise.specs.declared.outcome.Exercise.{Exercise}
use Rattle.exercise.specs.Exercises.{exercise_of}
use Rattle.poet_text.specs.declared.printed.Printed.TheVariants.{Done}
use Rattle.poet_text.specs.Endings.{Ending}
use Rattle.poet_text.specs.Printing.{counted}

-- exercise seed S tasks N points P greatest R jobs J done M worst W
unfoldable pub exercise_line : ℕ → ℕ → Exercise → List ℕ
exercise_line seed tasks e =
    counted (codes "exercise seed ") seed ++
    (counted (codes " tasks ") tasks ++ (counted (codes " points ") e.points ++ (counted (codes " greatest ") e.greatest
    ++ (counted (codes " jobs ") e.jobs ++ (counted (codes " done ") e.done ++ (counted (codes " worst ") e.worst ++ codes "\n"))))))

-- the answer of `exercise`
abbrev pub exercise_answer : ℕ → ℕ → Ending
exercise_answer seed tasks = Ok (Done (exercise_line seed tasks (exercise_of seed tasks)))
