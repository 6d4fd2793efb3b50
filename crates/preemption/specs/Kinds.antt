use Rattle.std.specs.Prelude.{ℕ, ◌&&◌, List, [], Bool, true, false}
use Rattle.lists.specs.Ranges.{is_between}
use Rattle.task_sheet.specs.declared.tasks.Cut.{Cut}
use Rattle.task_sheet.specs.declared.tasks.Cut.TheVariants.{Full, Never, Fixed, Floating}
use Rattle.task_sheet.specs.declared.tasks.Task.{Task}
use Rattle.preemption.specs.CutMeaning.{CutMeaning}
use Rattle.preemption.specs.Cuts.{cuttable_by, longest_by, threshold_by, segments_fit}

abbrev pub is_full : Cut → Bool
is_full Full = true
is_full Never = false
is_full (Fixed segments) = false
is_full (Floating bound) = false

abbrev pub is_never : Cut → Bool
is_never Full = false
is_never Never = true
is_never (Fixed segments) = false
is_never (Floating bound) = false

abbrev pub is_fixed : Cut → Bool
is_fixed Full = false
is_fixed Never = false
is_fixed (Fixed segments) = true
is_fixed (Floating bound) = false

abbrev pub is_floating : Cut → Bool
is_floating Full = false
is_floating Never = false
is_floating (Fixed segments) = false
is_floating (Floating bound) = true

-- the fixed segments of a cut that has them
abbrev pub segments_of : Cut → List ℕ
segments_of Full = []
segments_of Never = []
segments_of (Fixed segments) = segments
segments_of (Floating bound) = []

-- the greatest segment of a cut whose segments float
abbrev pub bound_of : Cut → ℕ
bound_of Full = 0
bound_of Never = 0
bound_of (Fixed segments) = 0
bound_of (Floating bound) = bound

-- the kind that cuts each task in its own way, for the tasks that it serves
abbrev pub by_cut : (Task → Cut) → (Task → Bool) → CutMeaning
by_cut own serves = record {
  cuttable = λ task j s. cuttable_by (own task) j s;
  longest = λ task. longest_by (own task) task.cost;
  threshold = λ task. threshold_by (own task) task.cost;
  fits = λ task j. is_between 1 task.cost j.cost && segments_fit (own task) j;
  serves = serves;
}

abbrev pub full_meaning : CutMeaning
full_meaning = by_cut (λ task. Full) (λ task. is_full task.cut)

abbrev pub never_meaning : CutMeaning
never_meaning = by_cut (λ task. Never) (λ task. is_never task.cut)

abbrev pub fixed_meaning : CutMeaning
fixed_meaning = by_cut (λ task. Fixed (segments_of task.cut)) (λ task. is_fixed task.cut)

abbrev pub floating_meaning : CutMeaning
floating_meaning = by_cut (λ task. Floating (bound_of task.cut)) (λ task. is_floating task.cut)

-- each task by the cut that its sheet gives it
abbrev pub per_task_meaning : CutMeaning
per_task_meaning = by_cut (λ task. task.cut) (λ task. true)
