-- K2 to K8 for one task: its window, and the ends and offsets at which its bound is judged.
use Rattle.std.specs.Prelude.{◌≡◌, ℕ, ◌+◌, ◌-◌, ◌<◌, ◌≤◌, Option, Some, None, List, [], ◌∷◌}
use Rattle.task_sheet.specs.SheetParts.{SheetParts}
use Rattle.task_sheet.specs.Sheets.{task_at}
use Rattle.policy.specs.PolicyMeaning.{PolicyMeaning}
use Rattle.preemption.specs.CutMeaning.{CutMeaning}
use Rattle.demand.specs.Demand.{need_of, rest_of, window_need_of}
use Rattle.policy.specs.Offsets.{IsSame}

-- K2: the bound covers the jitter
abbrev pub CoversJitter : SheetParts → ℕ → ℕ → Type 0
CoversJitter sheet i bound = (task_at sheet i).jitter ≤ bound

-- K3: the supply of the window covers the demand of the task's class within it
pub record IsWindow (p : PolicyMeaning) (m : CutMeaning) (sbf : ℕ → ℕ) (sheet : SheetParts) (i window : ℕ) : Type 0 where
  pub positive : 1 ≤ window
  pub enough : window_need_of p m sheet i window ≤ sbf window

-- K7: the supply up to the end x covers the demand at offset a
pub record MeetsEnd (p : PolicyMeaning) (m : CutMeaning) (sbf : ℕ → ℕ) (sheet : SheetParts) (i a x : ℕ) : Type 0 where
  pub enough : need_of p m sheet i a x ≤ sbf x

-- K6 and K8: the end lies within the bound, and the supply up to the bound covers the rest of the job too;
-- the bound counts from the arrival, the offset from the release, by the jitter later
pub record MeetsBound (p : PolicyMeaning) (m : CutMeaning) (sbf : ℕ → ℕ) (sheet : SheetParts) (i a x bound : ℕ) : Type 0 where
  pub end : x + (task_at sheet i).jitter ≤ a + bound
  pub enough : need_of p m sheet i a x + rest_of m sheet i ≤ sbf (a + bound - (task_at sheet i).jitter)

-- K2, K6 and K8
pub record BoundMeets (p : PolicyMeaning) (m : CutMeaning) (sbf : ℕ → ℕ) (sheet : SheetParts) (i a x bound : ℕ) : Type 0 where
  pub covers : CoversJitter sheet i bound
  pub within : MeetsBound p m sbf sheet i a x bound

-- K6 to K8 at offset a
pub record MeetsAt (p : PolicyMeaning) (m : CutMeaning) (sbf : ℕ → ℕ) (sheet : SheetParts) (i bound a x : ℕ) : Type 0 where
  pub end : MeetsEnd p m sbf sheet i a x
  pub within : MeetsBound p m sbf sheet i a x bound

-- each offset below the window has an end that meets K6 to K8
abbrev pub EveryOffset : PolicyMeaning → CutMeaning → (ℕ → ℕ) → SheetParts → ℕ → ℕ → ℕ → Type 0
EveryOffset p m sbf sheet i window bound = (a : ℕ) → a < window → (x : ℕ) × MeetsAt p m sbf sheet i bound a x

-- K4, without the window: the first offset is 0, and each other is greater than the one before
abbrev pub ComesNext : Option ℕ → ℕ → Type 0
ComesNext None a = a ≡ 0
ComesNext (Some before) a = before < a

-- K5: no number tells the offset before and the last one before q apart
abbrev pub KeepsGap : PolicyMeaning → SheetParts → ℕ → Option ℕ → ℕ → Type 0
KeepsGap p sheet i None q = Unit {0}
KeepsGap p sheet i (Some before) q = IsSame p sheet i before (q - 1)

-- K4 to K8 at the point (a, x), which follows the offset before
pub record PointMeets (p : PolicyMeaning) (m : CutMeaning) (sbf : ℕ → ℕ) (sheet : SheetParts) (i window bound : ℕ) (before : Option ℕ) (a x : ℕ) : Type 0 where
  pub next : ComesNext before a
  pub below : a < window
  pub gap : KeepsGap p sheet i before a
  pub end : MeetsEnd p m sbf sheet i a x
  pub within : MeetsBound p m sbf sheet i a x bound

-- K4 to K8 at the points (a, x) that follow the offset before, and K5 from the last of them to the window's end
abbrev pub PointsMeet : PolicyMeaning → CutMeaning → (ℕ → ℕ) → SheetParts → ℕ → ℕ → ℕ → Option ℕ → List (ℕ × ℕ) → Type 0
PointsMeet p m sbf sheet i window bound before [] = KeepsGap p sheet i before window
PointsMeet p m sbf sheet i window bound before (q ∷ qs) =
    PointMeets p m sbf sheet i window bound before q.0 q.1 × PointsMeet p m sbf sheet i window bound (Some q.0) qs
