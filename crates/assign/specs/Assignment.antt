-- The assignment: level by level, from below, the first task that is good there.
use Rattle.std.specs.Prelude.{◌≡◌, ◌≢◌, ℕ, ◌+◌, ◌<◌, ◌≤◌, ◌==◌, ◌||◌, Bool, false, List, [], ◌∷◌, length, slice_index_or}
use Rattle.task_sheet.specs.SheetParts.{SheetParts}
use Rattle.task_sheet.specs.Sheets.{task_at}
use Rattle.policy.specs.Policies.{fp_meaning}
use Rattle.preemption.specs.CutMeaning.{CutMeaning}
use Rattle.solver.specs.Bounds.{IsTaskBound}
use Rattle.assign.specs.declared.assignment.Placed.{Placed}
use Rattle.assign.specs.declared.assignment.AssignRefusal.{AssignRefusal}
use Rattle.assign.specs.declared.assignment.AssignRefusal.TheVariants.{NoOrder, Memory}
use Rattle.assign.specs.Sheets.{sheet_in, IsGood, AreGood}

-- whether a task is in the list
abbrev pub is_placed : List ℕ → ℕ → Bool
is_placed [] o = false
is_placed (i ∷ before) o = (o == i) || is_placed before o

-- a task that is not placed and is good at the next level, where all others that are not placed stand above it
pub record MayFollow (m : CutMeaning) (sbf : ℕ → ℕ) (sheet : SheetParts) (horizon : ℕ) (placed : List ℕ) (i : ℕ) : Type 0 where
  pub task : i < length sheet.tasks
  pub left : is_placed placed i ≡ false
  pub good : IsGood m sbf (sheet_in sheet (i ∷ placed)) horizon i

-- the first of these
pub record Follows (m : CutMeaning) (sbf : ℕ → ℕ) (sheet : SheetParts) (horizon : ℕ) (placed : List ℕ) (i : ℕ) : Type 0 where
  pub may : MayFollow m sbf sheet horizon placed i
  pub first : (k : ℕ) → k < i → MayFollow m sbf sheet horizon placed k → ⊥

-- the levels are filled one after the other, the last of them first in the list
abbrev pub AreFilled : CutMeaning → (ℕ → ℕ) → SheetParts → ℕ → List ℕ → Type 0
AreFilled m sbf sheet horizon [] = Unit {0}
AreFilled m sbf sheet horizon (i ∷ before) = Follows m sbf sheet horizon before i × AreFilled m sbf sheet horizon before

abbrev pub no_place : Placed
no_place = record { priority = 0; bound = 0 }

abbrev pub place_at : List Placed → ℕ → Placed
place_at places i = slice_index_or places i no_place

-- the task has this level, and its least bound there
pub record HasPlace (m : CutMeaning) (sbf : ℕ → ℕ) (sheet : SheetParts) (horizon : ℕ) (before : List ℕ) (i : ℕ) (place : Placed) : Type 0 where
  pub level : place.priority ≡ length before + 1
  pub bound : IsTaskBound fp_meaning m sbf (sheet_in sheet (i ∷ before)) horizon i place.bound

-- so it is with each task of the list
abbrev pub HavePlaces : CutMeaning → (ℕ → ℕ) → SheetParts → ℕ → List Placed → List ℕ → Type 0
HavePlaces m sbf sheet horizon places [] = Unit {0}
HavePlaces m sbf sheet horizon places (i ∷ before) =
    HasPlace m sbf sheet horizon before i (place_at places i) × HavePlaces m sbf sheet horizon places before

-- every level is filled, and each task has its level and its bound
pub record IsAssignment (m : CutMeaning) (sbf : ℕ → ℕ) (sheet : SheetParts) (horizon : ℕ) (places : List Placed) : Type 0 where
  pub order : List ℕ
  pub filled : AreFilled m sbf sheet horizon order
  pub whole : length order ≡ length sheet.tasks
  pub count : length places ≡ length sheet.tasks
  pub placed : HavePlaces m sbf sheet horizon places order

abbrev pub priority_in : List Placed → ℕ → ℕ
priority_in places i = (place_at places i).priority

-- n tasks have the priorities 1 to n, each once
pub record IsOrder (n : ℕ) (places : List Placed) : Type 0 where
  pub count : length places ≡ n
  pub low : (i : ℕ) → i < n → 1 ≤ priority_in places i
  pub high : (i : ℕ) → i < n → priority_in places i ≤ n
  pub distinct : (i k : ℕ) → i < k → k < n → priority_in places i ≢ priority_in places k

-- each bound is at most its task's deadline
abbrev pub AreInTime : SheetParts → List Placed → Type 0
AreInTime sheet places = (i : ℕ) → i < length sheet.tasks → (place_at places i).bound ≤ (task_at sheet i).deadline

-- the levels below this one are filled, and no task may follow
pub record IsStuck (m : CutMeaning) (sbf : ℕ → ℕ) (sheet : SheetParts) (horizon level : ℕ) : Type 0 where
  pub placed : List ℕ
  pub filled : AreFilled m sbf sheet horizon placed
  pub below : length placed + 1 ≡ level
  pub within : level ≤ length sheet.tasks
  pub none : (i : ℕ) → MayFollow m sbf sheet horizon placed i → ⊥

-- no priorities at all, equal ones included, make every task good
abbrev pub NoneGood : CutMeaning → (ℕ → ℕ) → SheetParts → ℕ → Type 0
NoneGood m sbf sheet horizon = (priority : ℕ → ℕ) → AreGood m sbf sheet horizon priority → ⊥

-- why there is no order
abbrev pub HasReason : CutMeaning → (ℕ → ℕ) → SheetParts → ℕ → AssignRefusal → Type 0
HasReason m sbf sheet horizon (NoOrder level) = IsStuck m sbf sheet horizon level × NoneGood m sbf sheet horizon
HasReason m sbf sheet horizon Memory = Unit {0}
