use Rattle.std.specs.Prelude.{◌≡◌, ℕ, ◌≤◌, ◌<◌, List, length}
use Rattle.lists.specs.Limits.{greatest_number}
use Rattle.task_sheet.specs.SheetParts.{SheetParts}
use Rattle.task_sheet.specs.Sheets.{IsValidSheet}
use Rattle.policy.specs.PolicyMeaning.{PolicyMeaning}
use Rattle.preemption.specs.CutMeaning.{CutMeaning}
use Rattle.preemption.specs.CutLaws.{Serves}
use Rattle.demand.specs.Demand.{rest_of}
use Rattle.meter.specs.declared.blockers.Blocker.{Blocker}
use Rattle.meter.specs.declared.tracks.Tracks.{Tracks}
use Rattle.meter.specs.MeterParts.{MeterParts}
use Rattle.meter.specs.Blockers.{AreBegun, IsBlocker}
use Rattle.meter.specs.Tracking.{AreSeated}

abbrev pub meter_at : SheetParts → ℕ → ℕ → ℕ → MeterParts
meter_at sheet i a x = record { sheet = sheet; task = i; offset = a; end = x }

-- what a meter keeps that stands there
pub record IsMetering (p : PolicyMeaning) (m : CutMeaning) (sheet : SheetParts) (i a x : ℕ) (t : Tracks) (begun : List ℕ)
    (blocker : Blocker) (rest : ℕ) : Type 0 where
  pub valid : IsValidSheet sheet
  pub served : Serves m sheet
  pub in_range : i < length sheet.tasks
  pub offset_high : a < greatest_number
  pub end_high : x ≤ greatest_number
  pub seated : AreSeated p sheet i a x t
  pub begun_is : AreBegun m sheet begun
  pub blocker_is : IsBlocker p m sheet i a blocker
  pub rest_is : rest ≡ rest_of m sheet i
