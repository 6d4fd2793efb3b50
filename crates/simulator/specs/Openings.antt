-- When a task's next job may arrive, as the code keeps it. Nothing here is to be believed.
use Rattle.std.specs.Prelude.{◌≡◌, ℕ, ◌<◌, ◌≤◌, List, length, slice_index_or}
use Rattle.curve.specs.CurveValue.{Curve}
use Rattle.curve.specs.Curves.{alpha_of}
use Rattle.task_sheet.specs.SheetParts.{SheetParts}
use Rattle.task_sheet.specs.Sheets.{task_at}
use Rattle.run_model.specs.declared.run.Run.{Run}
use Rattle.simulated_run.specs.SimulatedRun.{allowance_of}
use Rattle.windows.specs.Arrivals.{allowance_in}

-- windows shorter than this admit at most n jobs
abbrev pub IsFullBelow : Curve → ℕ → ℕ → Type 0
IsFullBelow curve n length = (d : ℕ) → d < length → alpha_of curve d ≤ n

-- after these arrivals no job may arrive at a tick from t to before u
abbrev pub IsShutFor : Curve → List ℕ → ℕ → ℕ → Type 0
IsShutFor curve arrivals t u = (v : ℕ) → t ≤ v → v < u → allowance_in curve arrivals v ≡ 0

-- after this run no job of task o may
abbrev pub IsShut : SheetParts → ℕ → Run → ℕ → ℕ → Type 0
IsShut sheet o run t u = (v : ℕ) → t ≤ v → v < u → allowance_of (task_at sheet o).curve o run v ≡ 0

-- for each task a tick to which that is so from t on
pub record AreShut (sheet : SheetParts) (run : Run) (t : ℕ) (ticks : List ℕ) : Type 0 where
  pub tasks : length ticks ≡ length sheet.tasks
  pub each : (o : ℕ) → o < length sheet.tasks → IsShut sheet o run t (slice_index_or ticks o 0)
