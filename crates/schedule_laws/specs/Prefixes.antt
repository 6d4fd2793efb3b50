-- what holds of every prefix of a valid run, as the laws say it
use Rattle.std.specs.Prelude.{◌≡◌, ℕ, ◌<◌, ◌≤◌, false, length}
use Rattle.task_sheet.specs.SheetParts.{SheetParts}
use Rattle.task_sheet.specs.Sheets.{IsValidSheet}
use Rattle.preemption.specs.CutMeaning.{CutMeaning}
use Rattle.preemption.specs.CutLaws.{Serves}
use Rattle.run_model.specs.declared.run.Run.{Run}
use Rattle.run_model.specs.Runs.{job_at, service_of}
use Rattle.schedule_laws.specs.Compliance.{can_cut, IsValidRun}

-- before each tick a job has had at most its cost of service
abbrev pub ServedWithinCost : CutMeaning → Type 0
ServedWithinCost m =
    (sheet : SheetParts) (run : Run) → IsValidRun m sheet run → (k t : ℕ) → t ≤ length run.ticks →
    service_of run k t ≤ (job_at run k).cost

-- a job that has had service before a tick was released before that tick
abbrev pub ServedSinceRelease : CutMeaning → Type 0
ServedSinceRelease m =
    (sheet : SheetParts) (run : Run) → IsValidRun m sheet run → (k t : ℕ) → t ≤ length run.ticks →
    0 < service_of run k t → (job_at run k).release < t

-- a job that cannot be cut at a tick has had service before it, where the kind of preemption serves the sheet
abbrev pub BegunWhereUncut : CutMeaning → Type 0
BegunWhereUncut m =
    (sheet : SheetParts) → IsValidSheet sheet → Serves m sheet → (run : Run) → IsValidRun m sheet run →
    (k t : ℕ) → k < length run.jobs → can_cut m sheet run k t ≡ false → 0 < service_of run k t
