-- What is printed of a curve.
use Rattle.std.specs.Prelude.{List, [], ◌∷◌, ◌++◌, ℕ, codes}
use Rattle.std.specs.List.{flat_map}
use Rattle.curve.specs.declared.prefix.Step.{Step}
use Rattle.curve.specs.CurveValue.{Curve}
use Rattle.poet_text.specs.Printing.{counted}

-- [TIME, VALUE]
abbrev pub step_text : Step → List ℕ
step_text step = counted (codes "[") step.time ++ (counted (codes ", ") step.value ++ codes "]")

-- a step that is not the first
abbrev pub next_text : Step → List ℕ
next_text step = codes ", " ++ step_text step

-- the steps, with a comma and a space between each two
abbrev pub steps_text : List Step → List ℕ
steps_text [] = []
steps_text (step ∷ steps) = step_text step ++ flat_map next_text steps

-- curve = { horizon = H, steps = [[1, 2], [5, 3]] }
unfoldable pub curve_line : Curve → List ℕ
curve_line c = counted (codes "curve = { horizon = ") c.horizon ++ (codes ", steps = [" ++ (steps_text c.steps ++ codes "] }\n"))
