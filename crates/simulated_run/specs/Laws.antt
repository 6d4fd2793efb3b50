-- What a simulated run has.
use Rattle.std.specs.Prelude.{ℕ, ◌+◌, ◌-◌, ◌<◌, ◌≤◌, length}
use Rattle.curve.specs.Curves.{alpha_of}
use Rattle.task_sheet.specs.SheetParts.{SheetParts}
use Rattle.task_sheet.specs.Sheets.{task_at, IsValidSheet}
use Rattle.policy.specs.PolicyMeaning.{PolicyMeaning}
use Rattle.preemption.specs.CutMeaning.{CutMeaning}
use Rattle.preemption.specs.CutLaws.{Serves}
use Rattle.run_model.specs.declared.run.Run.{Run}
use Rattle.schedule_laws.specs.Compliance.{arrivals_of, IsCompliant}
use Rattle.simulated_run.specs.declared.mode.Mode.{Mode}
use Rattle.simulated_run.specs.declared.mode.Mode.TheVariants.{Dense}
use Rattle.simulated_run.specs.SimulatedRun.{world_of, simulated_run}

-- a simulated run of any length, in any mode, complies with its sheet
abbrev pub SimulationComplies : PolicyMeaning → CutMeaning → (ℕ → ℕ) → Type 0
SimulationComplies p m sbf =
    (sheet : SheetParts) → IsValidSheet sheet → Serves m sheet → (mode : Mode) (n : ℕ) →
    IsCompliant p m sbf sheet (simulated_run (world_of p m sbf sheet mode) n)

-- with one more job of task o at t some window that ends with t has more arrivals than the curve says
pub record IsFull (sheet : SheetParts) (run : Run) (o t : ℕ) : Type 0 where
  pub start : ℕ
  pub within : start ≤ t
  pub full : alpha_of (task_at sheet o).curve (t + 1 - start) < arrivals_of run o start (t + 1) + 1

-- at each of the first n ticks as many jobs of each task arrive as the curves still admit
abbrev pub IsDense : SheetParts → ℕ → Run → Type 0
IsDense sheet n run = (o t : ℕ) → o < length sheet.tasks → t < n → IsFull sheet run o t

-- a run of any length that is simulated in mode dense is dense
abbrev pub DenseIsFull : PolicyMeaning → CutMeaning → (ℕ → ℕ) → Type 0
DenseIsFull p m sbf =
    (sheet : SheetParts) → IsValidSheet sheet → (n : ℕ) → IsDense sheet n (simulated_run (world_of p m sbf sheet Dense) n)
