-- What is printed of a promise.
use Rattle.std.specs.Prelude.{ℕ, List, [], ◌∷◌, ◌++◌, codes}
use Rattle.task_sheet.specs.declared.tasks.SupplySpec.{SupplySpec}
use Rattle.task_sheet.specs.declared.tasks.SupplySpec.TheVariants.{Unit as Whole, Promised}
use Rattle.poet_text.specs.Printing.{counted}

-- the times, each after a space
abbrev pub times_text : List ℕ → List ℕ
times_text [] = []
times_text (t ∷ times) = counted (codes " ") t ++ times_text times

-- unit, or the horizon and the times
unfoldable pub promise_text : SupplySpec → List ℕ
promise_text Whole = codes "unit\n"
promise_text (Promised horizon times) =
    counted (codes "horizon ") horizon ++ (codes " times" ++ (times_text times ++ codes "\n"))
