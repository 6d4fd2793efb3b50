-- Where all tasks of a sheet stand.
use Rattle.std.specs.Prelude.{◌≡◌, ◌≢◌, ℕ, ◌+◌, ◌<◌, ◌≤◌, List, length}
use Rattle.lists.specs.Sums.{sum_below}
use Rattle.task_sheet.specs.declared.tasks.Task.{Task}
use Rattle.task_sheet.specs.SheetParts.{SheetParts}
use Rattle.task_sheet.specs.Sheets.{task_at}
use Rattle.policy.specs.declared.keys.Cap.{Cap}
use Rattle.policy.specs.PolicyMeaning.{PolicyMeaning}
use Rattle.meter.specs.declared.tracks.Place.{Place}
use Rattle.meter.specs.declared.tracks.Tracks.{Tracks}
use Rattle.meter.specs.Soonests.{number_of}
use Rattle.meter.specs.Changes.{IsCounted}
use Rattle.meter.specs.Places.{kind_of, until_by, place_of, asked_of, IsNear, AreNear}

-- a place, and the end at which it is left
pub record IsKeyed (task : Task) (kind : Cap) (place : Place) (until : ℕ) : Type 0 where
  pub near : IsNear task place
  pub until_is : until ≡ until_by kind place task.jitter

-- the places of all tasks, the ends at which they are left, and what they ask for together
pub record IsTracking (p : PolicyMeaning) (sheet : SheetParts) (i : ℕ) (places : List Place) (untils : List ℕ) (sum : ℕ) : Type 0 where
  pub count : length places ≡ length sheet.tasks
  pub full : length untils ≡ length sheet.tasks
  pub each : (o : ℕ) → o < length sheet.tasks → IsKeyed (task_at sheet o) (kind_of p sheet i o) (place_of places o) (number_of untils o)
  pub sum_is : sum ≡ sum_below (asked_of p sheet i places) (length sheet.tasks)

abbrev pub IsTrackingAt : PolicyMeaning → SheetParts → ℕ → Tracks → Type 0
IsTrackingAt p sheet i t = IsTracking p sheet i t.places.items t.untils t.sum

-- the stair of a place begins no later than the end x
abbrev pub HasBegun : Task → ℕ → Place → Type 0
HasBegun task x place = place.end.from ≤ x + task.jitter

-- a place is that of the end x: its stair has begun, and it is left later
pub record IsEnded (task : Task) (x : ℕ) (place : Place) (until : ℕ) : Type 0 where
  pub begun : HasBegun task x place
  pub open_yet : x < until

-- all places are those of the end x
abbrev pub AreEnded : SheetParts → ℕ → Tracks → Type 0
AreEnded sheet x t = (o : ℕ) → o < length sheet.tasks → IsEnded (task_at sheet o) x (place_of t.places.items o) (number_of t.untils o)

-- the numbers of task o are those of offset a
abbrev pub IsCountedAt : PolicyMeaning → SheetParts → ℕ → ℕ → List Place → List ℕ → ℕ → Type 0
IsCountedAt p sheet i a places changes o = IsCounted p sheet i a o (place_of places o).count (number_of changes o)

-- the numbers of all tasks are those of offset a
pub record AreCounted (p : PolicyMeaning) (sheet : SheetParts) (i a : ℕ) (places : List Place) (changes : List ℕ) : Type 0 where
  pub count : length changes ≡ length sheet.tasks
  pub each : (o : ℕ) → o < length sheet.tasks → IsCountedAt p sheet i a places changes o

-- the numbers at the offset stay
abbrev pub KeepCounts : List Place → List Place → Type 0
KeepCounts before after = (k : ℕ) → (place_of after k).count ≡ (place_of before k).count

-- no task but o was moved
pub record IsMovedOnly (o : ℕ) (before after : Tracks) : Type 0 where
  pub places : (k : ℕ) → k ≢ o → place_of after.places.items k ≡ place_of before.places.items k
  pub untils : (k : ℕ) → k ≢ o → number_of after.untils k ≡ number_of before.untils k

-- task o was put where it stands at the end x, with a number
pub record IsStood (p : PolicyMeaning) (sheet : SheetParts) (i x o count : ℕ) (before after : Tracks) : Type 0 where
  pub tracking : IsTrackingAt p sheet i after
  pub ended : IsEnded (task_at sheet o) x (place_of after.places.items o) (number_of after.untils o)
  pub count_is : (place_of after.places.items o).count ≡ count
  pub others : IsMovedOnly o before after
  pub changes : after.changes ≡ before.changes

-- task o was moved to the end x
abbrev pub IsEndMoved : PolicyMeaning → SheetParts → ℕ → ℕ → ℕ → Tracks → Tracks → Type 0
IsEndMoved p sheet i x o before after = IsStood p sheet i x o (place_of before.places.items o).count before after

-- the number of task o was renewed for offset a, at the end x
pub record IsRecounted (p : PolicyMeaning) (sheet : SheetParts) (i a x o : ℕ) (before after : Tracks) : Type 0 where
  pub tracking : IsTrackingAt p sheet i after
  pub ended : IsEnded (task_at sheet o) x (place_of after.places.items o) (number_of after.untils o)
  pub count : length after.changes ≡ length before.changes
  pub counted : IsCountedAt p sheet i a after.places.items after.changes o
  pub others : IsMovedOnly o before after
  pub changes : (k : ℕ) → k ≢ o → number_of after.changes k ≡ number_of before.changes k

-- all tasks were moved to the end x
pub record AreMoved (p : PolicyMeaning) (sheet : SheetParts) (i x : ℕ) (before after : Tracks) : Type 0 where
  pub tracking : IsTrackingAt p sheet i after
  pub ended : AreEnded sheet x after
  pub counts : KeepCounts before.places.items after.places.items
  pub changes : after.changes ≡ before.changes

-- each task has a place
pub record IsReady (sheet : SheetParts) (t : Tracks) : Type 0 where
  pub near : AreNear sheet t.places.items
  pub full : length t.untils ≡ length sheet.tasks
  pub changes : length t.changes ≡ length sheet.tasks

-- all that stands of one task at offset a and end x
pub record IsSeated (p : PolicyMeaning) (sheet : SheetParts) (i a x o : ℕ) (place : Place) (until change : ℕ) : Type 0 where
  pub keyed : IsKeyed (task_at sheet o) (kind_of p sheet i o) place until
  pub ended : IsEnded (task_at sheet o) x place until
  pub counted : IsCounted p sheet i a o place.count change

abbrev pub IsSeatedAt : PolicyMeaning → SheetParts → ℕ → ℕ → ℕ → Tracks → ℕ → Type 0
IsSeatedAt p sheet i a x t o = IsSeated p sheet i a x o (place_of t.places.items o) (number_of t.untils o) (number_of t.changes o)

-- only task o was seated, at offset 0 and end 0
pub record IsSettled (p : PolicyMeaning) (sheet : SheetParts) (i o : ℕ) (before after : Tracks) : Type 0 where
  pub ready : IsReady sheet after
  pub at : IsSeatedAt p sheet i 0 0 after o
  pub others : (k : ℕ) → k ≢ o → IsSeatedAt p sheet i 0 0 before k → IsSeatedAt p sheet i 0 0 after k
  pub places : (k : ℕ) → k ≢ o → place_of after.places.items k ≡ place_of before.places.items k
  pub sum_is : after.sum ≡ before.sum + asked_of p sheet i after.places.items o

-- all tasks stand at offset a and end x
pub record AreSeated (p : PolicyMeaning) (sheet : SheetParts) (i a x : ℕ) (t : Tracks) : Type 0 where
  pub tracking : IsTrackingAt p sheet i t
  pub ended : AreEnded sheet x t
  pub counted : AreCounted p sheet i a t.places.items t.changes
