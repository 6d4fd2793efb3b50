use Rattle.std.specs.Prelude.{◌≡◌, ℕ, ◌+◌, ◌<◌, ◌≤◌, ◌≢◌, ◌⊎◌, pos, ◌+ℤ◌, ◌<ℤ◌, ◌≤ℤ◌, true, false, length}
use Rattle.lists.specs.Limits.{greatest_length, greatest_number}
use Rattle.task_sheet.specs.SheetParts.{SheetParts}
use Rattle.task_sheet.specs.Sheets.{task_at, IsOf, IsTimely}
use Rattle.task_sheet.specs.declared.tasks.Job.{Job}
use Rattle.policy.specs.declared.keys.Cap.{Cap}
use Rattle.policy.specs.declared.keys.Cap.TheVariants.{Nothing, At, All}
use Rattle.policy.specs.Keys.{key_le}
use Rattle.policy.specs.PolicyMeaning.{PolicyMeaning}

-- whether the cap admits an arrival, in a window that begins at start
abbrev pub Admits : Cap → ℕ → ℕ → Type 0
Admits Nothing start arrival = ⊥
Admits (At c) start arrival = pos arrival <ℤ (pos start +ℤ c)
Admits All start arrival = Unit {0}

-- of the same kind, and no smaller
abbrev pub GrowsTo : Cap → Cap → Type 0
GrowsTo Nothing Nothing = Unit {0}
GrowsTo Nothing (At d) = ⊥
GrowsTo Nothing All = ⊥
GrowsTo (At c) Nothing = ⊥
GrowsTo (At c) (At d) = c ≤ℤ d
GrowsTo (At c) All = ⊥
GrowsTo All Nothing = ⊥
GrowsTo All (At d) = ⊥
GrowsTo All All = Unit {0}

-- a number of at most 0
abbrev pub AdmitsNone : Cap → Type 0
AdmitsNone Nothing = ⊥
AdmitsNone (At c) = c ≤ℤ pos 0
AdmitsNone All = ⊥

-- where the cap is a number, it is at most 4·10^9
abbrev pub IsLimited : Cap → Type 0
IsLimited Nothing = Unit {0}
IsLimited (At c) = c ≤ℤ pos greatest_length
IsLimited All = Unit {0}

-- the laws of a policy, for the tasks of a sheet and their jobs
pub record IsLawfulPolicy (p : PolicyMeaning) (sheet : SheetParts) : Type 0 where
  -- urgency keeps to the classes, which are closed upwards
  pub own_class : (i : ℕ) → i < length sheet.tasks → p.class sheet i i ≡ true
  pub higher_class : (k j : Job) → IsOf sheet k → IsOf sheet j → key_le (p.key sheet k) (p.key sheet j) ≡ true → p.class sheet j.task k.task ≡ true
  pub class_closed : (i : ℕ) (k j : Job) → i < length sheet.tasks → IsOf sheet k → IsOf sheet j → key_le (p.key sheet k) (p.key sheet j) ≡ true →
      p.class sheet i j.task ≡ true → p.class sheet i k.task ≡ true
  -- jobs of one task are urgent in the order of their arrivals
  pub in_order : (k j : Job) → IsOf sheet k → IsOf sheet j → k.task ≡ j.task → k.arrival ≤ j.arrival → key_le (p.key sheet k) (p.key sheet j) ≡ true
  -- a job of another task that is as urgent and is released in the window arrives within the cap, its task's jitter added
  pub capped : (start a : ℕ) (k j : Job) → IsOf sheet k → IsOf sheet j → IsTimely sheet k → IsTimely sheet j → k.task ≢ j.task → j.release ≡ start + a →
      start ≤ k.release → key_le (p.key sheet k) (p.key sheet j) ≡ true → Admits (p.cap sheet j.task k.task a) start (k.arrival + (task_at sheet k.task).jitter)
  -- a less urgent job of another task that was released before the window may block
  pub blocks : (start a : ℕ) (k j : Job) → IsOf sheet k → IsOf sheet j → IsTimely sheet k → IsTimely sheet j → k.task ≢ j.task → j.release ≡ start + a →
      k.release < start → key_le (p.key sheet k) (p.key sheet j) ≡ false → p.may_block sheet j.task k.task a ≡ true
  -- at later offsets caps grow and fewer tasks block
  pub cap_grows : (i o a b : ℕ) → i < length sheet.tasks → o < length sheet.tasks → i ≢ o → a ≤ b → GrowsTo (p.cap sheet i o a) (p.cap sheet i o b)
  pub block_falls : (i o a b : ℕ) → i < length sheet.tasks → o < length sheet.tasks → i ≢ o → a ≤ b →
      p.may_block sheet i o b ≡ true → p.may_block sheet i o a ≡ true
  pub cap_limited : (i o a : ℕ) → i < length sheet.tasks → o < length sheet.tasks → i ≢ o → a < greatest_number → IsLimited (p.cap sheet i o a)
  -- who is outside the class delays, and only who delays or is capped at the window's begin blocks
  pub cap_class : (i o a : ℕ) → i < length sheet.tasks → o < length sheet.tasks → i ≢ o → p.class sheet i o ≡ false → p.cap sheet i o a ≡ Nothing
  pub outside_delays : (i o : ℕ) → i < length sheet.tasks → o < length sheet.tasks → p.class sheet i o ≡ false → p.may_delay sheet i o ≡ true
  pub block_delays : (i o a : ℕ) → i < length sheet.tasks → o < length sheet.tasks → i ≢ o → p.may_block sheet i o a ≡ true →
      (p.may_delay sheet i o ≡ true) ⊎ AdmitsNone (p.cap sheet i o a)
