-- What tells the windows of tasks apart.
use Rattle.std.specs.Prelude.{◌≡◌, ℕ}
use Rattle.task_sheet.specs.SheetParts.{SheetParts}
use Rattle.policy.specs.PolicyMeaning.{PolicyMeaning}
use Rattle.preemption.specs.CutMeaning.{CutMeaning}
use Rattle.demand.specs.Demand.{window_need_of}

-- the classes of both tasks ask for the same in every window
abbrev pub AskSame : PolicyMeaning → CutMeaning → SheetParts → ℕ → ℕ → Type 0
AskSame p m sheet i j = (l : ℕ) → window_need_of p m sheet i l ≡ window_need_of p m sheet j l
