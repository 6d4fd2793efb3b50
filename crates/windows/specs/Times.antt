-- Which promised times decide whether ticks keep to a promise.
use Rattle.std.specs.Prelude.{◌≡◌, ℕ, ◌+◌, ◌-◌, ◌<◌, ◌≤◌, ◌⊎◌, List, length, slice_index, slice_index_or}
use Rattle.task_sheet.specs.declared.tasks.SupplySpec.{SupplySpec}
use Rattle.task_sheet.specs.declared.tasks.SupplySpec.TheVariants.{Unit as Whole, Promised}
use Rattle.windows.specs.declared.times.PromisedTime.{PromisedTime}

-- what stands past the last time
abbrev pub no_time : PromisedTime
no_time = record { time = 0; before = 0 }

abbrev pub time_at : List PromisedTime → ℕ → PromisedTime
time_at needed i = slice_index_or needed i no_time

-- what the time number k promises follows from the earlier ones number i and k - 1 - i, whose windows lie side by side in its own
pub record IsImplied (times : List ℕ) (k i : ℕ) : Type 0 where
  pub earlier : i < k
  pub enough : slice_index times i + slice_index times (k - 1 - i) ≤ slice_index times k

-- the time number k is one of those that are needed
pub record IsListedTime (needed : List PromisedTime) (k : ℕ) : Type 0 where
  pub place : ℕ
  pub listed : place < length needed
  pub before : (time_at needed place).before ≡ k

-- of the first n times those that are needed, in ascending order: each other one follows from two earlier ones
pub record AreNeededTimesBelow (times : List ℕ) (n : ℕ) (needed : List PromisedTime) : Type 0 where
  pub decide : (k : ℕ) → k < n → IsListedTime needed k ⊎ ((i : ℕ) × IsImplied times k i)
  pub below : (i : ℕ) → i < length needed → (time_at needed i).before < n
  pub each : (i : ℕ) → i < length needed → (time_at needed i).time ≡ slice_index times (time_at needed i).before
  pub ascending : (i k : ℕ) → i < k → k < length needed → (time_at needed i).before < (time_at needed k).before

-- the needed ones of a supply's promised times
abbrev pub AreNeededTimes : SupplySpec → List PromisedTime → Type 0
AreNeededTimes Whole needed = Unit {0}
AreNeededTimes (Promised horizon times) needed = AreNeededTimesBelow times (length times) needed
