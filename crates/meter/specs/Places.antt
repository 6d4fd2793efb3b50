use Rattle.std.specs.Prelude.{◌≡◌, ℕ, ◌-◌, ◌*◌, ◌<◌, ◌≤◌, ◌==◌, leb, min, Bool, true, false, cond, List, length, slice_index_or}
use Rattle.curve.specs.Stairs.{IsStair}
use Rattle.task_sheet.specs.declared.tasks.Task.{Task}
use Rattle.task_sheet.specs.SheetParts.{SheetParts}
use Rattle.task_sheet.specs.Sheets.{task_at}
use Rattle.policy.specs.declared.keys.Cap.{Cap}
use Rattle.policy.specs.declared.keys.Cap.TheVariants.{Nothing, At, All}
use Rattle.policy.specs.PolicyMeaning.{PolicyMeaning}
use Rattle.meter.specs.declared.tracks.Place.{Place}

-- what stands past the last place
abbrev pub no_place : Place
no_place = record { end = record { value = 0; from = 0; until = 0; come = 0 }; count = 0 }

abbrev pub place_of : List Place → ℕ → Place
place_of places o = slice_index_or places o no_place

-- the kind of the cap of task o for task i, which is the same at every offset; Nothing for task i itself, all of whose jobs count
abbrev pub kind_of : PolicyMeaning → SheetParts → ℕ → ℕ → Cap
kind_of p sheet i o = cond (o == i) Nothing (p.cap sheet i o 0)

-- how many jobs count, of those that the end and the cap admit
abbrev pub counted_by : Cap → ℕ → ℕ → ℕ
counted_by Nothing value count = 0
counted_by (At c) value count = min value count
counted_by All value count = value

abbrev pub counted_of : Cap → Place → ℕ
counted_of kind place = counted_by kind place.end.value place.count

-- whether no later end changes what counts: the cap admits no more jobs than there are
abbrev pub stays_by : Cap → Place → Bool
stays_by Nothing place = true
stays_by (At c) place = leb place.count place.end.value
stays_by All place = false

-- at which end a task with this jitter leaves its place: that of the stair, or one past all where what counts stays
abbrev pub until_by : Cap → Place → ℕ → ℕ
until_by kind place jitter = cond (stays_by kind place) 2000000000 (min (place.end.until - jitter) 2000000000)

-- what task o asks for at a place, of what a job of task i waits for
abbrev pub part_of : PolicyMeaning → SheetParts → ℕ → ℕ → Place → ℕ
part_of p sheet i o place = (task_at sheet o).cost * cond (o == i) place.count (counted_of (kind_of p sheet i o) place)

abbrev pub asked_of : PolicyMeaning → SheetParts → ℕ → List Place → ℕ → ℕ
asked_of p sheet i places o = part_of p sheet i o (place_of places o)

-- numbers of jobs that sums hold
pub record IsSmall (place : Place) : Type 0 where
  pub value : place.end.value ≤ 5000000000000000
  pub count : place.count ≤ 5000000000000000

-- a stair of the task's curve, at a length that may be asked for
pub record IsNear (task : Task) (place : Place) : Type 0 where
  pub at : ℕ
  pub near : at ≤ 2000000000
  pub stair : IsStair task.curve place.end at
  pub count_high : place.count ≤ 5000000000000000

pub record AreNear (sheet : SheetParts) (places : List Place) : Type 0 where
  pub count : length places ≡ length sheet.tasks
  pub each : (o : ℕ) → o < length sheet.tasks → IsNear (task_at sheet o) (place_of places o)
