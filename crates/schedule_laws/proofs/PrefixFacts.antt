-- What holds of every prefix of a valid run: the lemmas of the laws on prefixes.
use Rattle.std.proofs.Common.{◌≡◌, ℕ, ◌<◌, ◌≤◌, true, false, length, ap, inl, inr, arith}
use Rattle.std.proofs.lemmas.Bool.{cases_lt}
use Rattle.task_sheet.specs.SheetParts.{SheetParts}
use Rattle.task_sheet.specs.Sheets.{task_at}
use Rattle.preemption.specs.CutLaws.{IsLawfulCut}
use Rattle.preemption.specs.CutMeaning.{CutMeaning}
use Rattle.run_model.specs.declared.run.Run.{Run}
use Rattle.run_model.specs.Runs.{job_at, service_of}
use Rattle.run_model.proofs.ServiceFacts.{RunsPending, service_le_cost, served_released}
use Rattle.schedule_laws.specs.Compliance.{can_cut, IsValidRun}

-- in a valid run what runs is pending
pub valid_pending : (m : CutMeaning) (sheet : SheetParts) (run : Run) → IsValidRun m sheet run → RunsPending run
valid_pending m sheet run valid = record { pending = λ t k h r. (valid.ticks t k h r).pending }

-- the service before a tick is at most the cost
pub within_cost : (m : CutMeaning) (sheet : SheetParts) (run : Run) → IsValidRun m sheet run → (k t : ℕ) →
    t ≤ length run.ticks →
    service_of run k t ≤ (job_at run k).cost
within_cost m sheet run valid = service_le_cost run (valid_pending m sheet run valid)

-- what has run before a tick was released before it
pub released_before : (m : CutMeaning) (sheet : SheetParts) (run : Run) → IsValidRun m sheet run → (k t : ℕ) →
    t ≤ length run.ticks →
    0 < service_of run k t → (job_at run k).release < t
released_before m sheet run valid = served_released run (valid_pending m sheet run valid)

-- jobs of one task are released in the order of their arrivals
pub released_in_order : (m : CutMeaning) (sheet : SheetParts) (run : Run) → IsValidRun m sheet run → (n k : ℕ) →
    n < length run.jobs → k < length run.jobs → (job_at run n).task ≡ (job_at run k).task →
    (job_at run n).arrival < (job_at run k).arrival → (job_at run n).release ≤ (job_at run k).release
released_in_order m sheet run valid n k b c same earlier = (valid.releases k c).order n b same earlier

-- what cannot be cut has begun, since a job can be cut before it begins
pub begun_where_uncut : (m : CutMeaning) (sheet : SheetParts) (run : Run) (k t : ℕ) →
    IsLawfulCut m (task_at sheet (job_at run k).task) →
    m.fits (task_at sheet (job_at run k).task) (job_at run k) ≡ true → can_cut m sheet run k t ≡ false → 0 < service_of run k t
begun_where_uncut m sheet run k t laws fit uncut = elim (cases_lt 0 (service_of run k t)) [
  | inl begun ↦ begun
  | inr none ↦
      let e : service_of run k t ≡ 0 = omega arith in
      let first = laws.cut_first (job_at run k) fit in
      let same = ap (m.cuttable (task_at sheet (job_at run k).task) (job_at run k)) e in
      absurd (cc)
]
