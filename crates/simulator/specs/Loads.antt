-- What a new job needs, as the code draws it. Nothing here is to be believed.
use Rattle.std.specs.Prelude.{◌≡◌, ℕ, ◌<◌, ◌≤◌, List, length}
use Rattle.task_sheet.specs.declared.tasks.Cut.{Cut}
use Rattle.simulated_run.specs.declared.mode.Mode.{Mode}
use Rattle.simulated_run.specs.Jobs.{cost_by, segments_by}
use Rattle.simulator.specs.declared.loads.Load.{Load}
use Rattle.simulator.specs.declared.refusal.SimRefusal.{SimRefusal}
use Rattle.simulator.specs.declared.refusal.SimRefusal.TheVariants.{Jobs, Segments, Memory}

-- the load is that of a new job of a task with this cut and cost, and has at most so many segments
pub record IsLoad (mode : Mode) (cut : Cut) (most state spare : ℕ) (load : Load) : Type 0 where
  pub cost : load.cost ≡ cost_by mode cut most state
  pub segs : load.segs.items ≡ segments_by mode cut (cost_by mode cut most state) state
  pub few : length load.segs.items ≤ spare

-- a load is refused where it would have more segments than that
abbrev pub IsLoadRefusal : ℕ → List ℕ → SimRefusal → Type 0
IsLoadRefusal spare segments Jobs = ⊥
IsLoadRefusal spare segments Segments = spare < length segments
IsLoadRefusal spare segments Memory = Unit {0}
