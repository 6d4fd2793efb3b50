-- When the next job of each task may arrive, as the code keeps it. Nothing here is to be believed.
use Rattle.std.specs.Prelude.{◌≡◌, ℕ, ◌+◌, ◌*◌, ◌<◌, ◌≤◌, List, length, suc, slice_index_or}
use Rattle.task_sheet.specs.SheetParts.{SheetParts}
use Rattle.task_sheet.specs.Sheets.{task_at}
use Rattle.run_model.specs.declared.run.Run.{Run}
use Rattle.simulator.specs.declared.gaps.Gaps.{Gaps}
use Rattle.simulator.specs.declared.openings.Openings.{Openings}
use Rattle.simulator.specs.Openings.{IsShut, AreShut}
use Rattle.simulator.specs.Gaps.{IsGaps}

-- the gaps of each task
pub record HasGaps (sheet : SheetParts) (list : List Gaps) : Type 0 where
  pub tasks : length list ≡ length sheet.tasks
  pub each : (o : ℕ) (d : Gaps) → o < length sheet.tasks →
      IsGaps (task_at sheet o).curve (slice_index_or list o d)

-- number o stands in block b
pub record IsInBlock (b o : ℕ) : Type 0 where
  pub from : 16 * b ≤ o
  pub to : o < 16 * b + 16

-- for each block of the ticks one that is no later than they are
abbrev pub AreFirsts : List ℕ → List ℕ → Type 0
AreFirsts ticks firsts = (b o : ℕ) → IsInBlock b o → o < length ticks →
    slice_index_or firsts b 0 ≤ slice_index_or ticks o 0

-- each of n tasks stands in a block, whose tick is no later than its own
pub record AreBlocks (n : ℕ) (ticks firsts : List ℕ) : Type 0 where
  pub all : n < 16 * length firsts
  pub least : AreFirsts ticks firsts

-- for each task a tick before which no job of it may arrive from t on, and one that is no later than
-- these
pub record AreOpenings (sheet : SheetParts) (run : Run) (t : ℕ) (openings : Openings) : Type 0 where
  pub shut : AreShut sheet run t openings.ticks.items
  pub gaps : HasGaps sheet openings.gaps.items
  pub blocks : AreBlocks (length sheet.tasks) openings.ticks.items openings.firsts.items
  pub first : (b : ℕ) → b < length openings.firsts.items →
      openings.first ≤ slice_index_or openings.firsts.items b 0

-- at t the jobs of the first m tasks have arrived
pub record AreArriving (sheet : SheetParts) (run : Run) (t m : ℕ) (openings : Openings) : Type 0 where
  pub tasks : length openings.ticks.items ≡ length sheet.tasks
  pub come : (o : ℕ) → o < m → o < length sheet.tasks →
      IsShut sheet o run (suc t) (slice_index_or openings.ticks.items o 0)
  pub rest : (o : ℕ) → m ≤ o → o < length sheet.tasks →
      IsShut sheet o run t (slice_index_or openings.ticks.items o 0)
  pub gaps : HasGaps sheet openings.gaps.items
  pub blocks : AreBlocks (length sheet.tasks) openings.ticks.items openings.firsts.items
