use Rattle.std.specs.Prelude.{◌≡◌, ℕ, ◌+◌, ◌<◌, ◌≤◌, List, length, slice_index_or}
use Rattle.task_sheet.specs.SheetParts.{SheetParts}
use Rattle.policy.specs.PolicyMeaning.{PolicyMeaning}
use Rattle.preemption.specs.CutMeaning.{CutMeaning}
use Rattle.run_model.specs.declared.run.Run.{Run}
use Rattle.run_model.specs.Runs.{job_at, IsDone}
use Rattle.schedule_laws.specs.Compliance.{IsCompliant}

-- in every compliant run, every job of task i whose arrival plus the bound lies within the run is done by then
abbrev pub IsBounded : PolicyMeaning → CutMeaning → (ℕ → ℕ) → SheetParts → ℕ → ℕ → Type 0
IsBounded p m sbf sheet i bound =
    (run : Run) → IsCompliant p m sbf sheet run → (j : ℕ) → j < length run.jobs → (job_at run j).task ≡ i → (job_at run j).arrival + bound ≤ length run.ticks →
    IsDone run j ((job_at run j).arrival + bound)

-- the response times of every task are bounded, by its number in the list
abbrev pub AreBounded : PolicyMeaning → CutMeaning → (ℕ → ℕ) → SheetParts → List ℕ → Type 0
AreBounded p m sbf sheet bounds = (i : ℕ) → i < length sheet.tasks → IsBounded p m sbf sheet i (slice_index_or bounds i 0)
