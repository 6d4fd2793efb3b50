use Rattle.std.specs.Prelude.{ℕ, List, [], ◌∷◌, codes, Option, Some, None, Result, Ok, Err}
use Rattle.lists.specs.Limits.{greatest_number}
use Rattle.toml.specs.Data.{Data, array, no_items, item}
use Rattle.curve.specs.declared.prefix.Step.{Step}
use Rattle.curve.specs.declared.checking.CurveRefusal.{CurveRefusal}
use Rattle.curve.specs.declared.checking.CurveRefusal.TheVariants.{Horizon, Limit, First, Order as Falls, Past}
use Rattle.curve.specs.CurveValue.{Curve}
use Rattle.curve.specs.Curves.{periodic}
use Rattle.curve.specs.Validity.{prefix_check_of}
use Rattle.task_sheet.specs.declared.refusal.Place.{Place}
use Rattle.task_sheet.specs.declared.refusal.Place.TheVariants as places
use Rattle.task_sheet.specs.declared.refusal.Field.TheVariants as fields
use Rattle.task_sheet.specs.declared.refusal.SheetRefusal.{SheetRefusal}
use Rattle.task_sheet.specs.declared.refusal.SheetRefusal.TheVariants.{Missing, Kind, Range, Order, Both}
use Rattle.task_sheet.specs.Refusing.{◌>>=◌, present}
use Rattle.sheet_text.specs.Documents.{keys_rule, needed_rule, table_rule, whole_rule, positive_rule, number_of, all_in}

-- the step of a time and a value
abbrev pub step_from : Option ℕ → Option ℕ → Option Step
step_from (Some time) (Some value) = Some (record { time = time; value = value })
step_from _ _ = None

-- a step is an array of exactly two integers
abbrev pub step_of : Data → Option Step
step_of (array (item time (item value no_items))) = step_from (number_of time) (number_of value)
step_of _ = None

-- the sheet's refusal of a curve that fails a test
abbrev pub curve_refusal : Place → CurveRefusal → SheetRefusal
curve_refusal place Horizon = Range place fields.CurveHorizon
curve_refusal place Limit = Range place fields.CurveSteps
curve_refusal place First = Order place fields.CurveSteps
curve_refusal place Falls = Order place fields.CurveSteps
curve_refusal place Past = Order place fields.CurveSteps

-- the curve, or the sheet's refusal of it
abbrev pub curve_or_refusal : Place → Result Curve CurveRefusal → Result Curve SheetRefusal
curve_or_refusal place (Ok c) = Ok c
curve_or_refusal place (Err e) = Err (curve_refusal place e)

-- the steps are an array of steps that make a curve of this horizon
abbrev pub steps_rule : Place → ℕ → Data → Result Curve SheetRefusal
steps_rule place horizon d =
    present (all_in step_of d) (Kind place fields.CurveSteps)
    >>= (λ steps. curve_or_refusal place (prefix_check_of horizon steps))

-- the keys of a curve
abbrev pub curve_keys : List (List ℕ)
curve_keys = codes "horizon" ∷ codes "steps" ∷ []

-- a curve: a table of a horizon and of steps
unfoldable pub curve_rule : Place → Data → Result Curve SheetRefusal
curve_rule place d = do
  kind ← table_rule place fields.Curve d
  known ← keys_rule curve_keys place d
  horizon ← positive_rule (codes "horizon") place fields.CurveHorizon d
  steps ← needed_rule (codes "steps") place fields.CurveSteps d
  steps_rule place horizon steps

-- a period is the curve of one job in each
abbrev pub period_rule : Place → Data → Result Curve SheetRefusal
period_rule place d = whole_rule place fields.Period 1 greatest_number d >>= (λ period. Ok (periodic period))

-- task n has a period or a curve, and not both
abbrev pub arrivals_rule : ℕ → Option Data → Option Data → Result Curve SheetRefusal
arrivals_rule n (Some period) (Some curve) = Err (Both n)
arrivals_rule n None None = Err (Missing (places.Task n) fields.Curve)
arrivals_rule n (Some period) None = period_rule (places.Task n) period
arrivals_rule n None (Some curve) = curve_rule (places.Task n) curve
