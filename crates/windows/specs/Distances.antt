-- Which distances between jobs of one task decide whether their arrivals keep to a curve.
use Rattle.std.specs.Prelude.{◌≡◌, ℕ, ◌+◌, ◌-◌, ◌<◌, ◌≤◌, ◌⊎◌, List, length, slice_index, slice_index_or}
use Rattle.curve.specs.CurveValue.{Curve}
use Rattle.windows.specs.declared.distances.Distance.{Distance}
use Rattle.windows.specs.Spans.{AreSpans}

-- what stands past the last distance
abbrev pub no_distance : Distance
no_distance = record { apart = 0; span = 0 }

abbrev pub distance_at : List Distance → ℕ → Distance
distance_at needed i = slice_index_or needed i no_distance

-- the arrivals j - m and j, which are m numbers apart, lie no closer than the span of m + 1 jobs
abbrev pub KeepsSpan : List ℕ → List ℕ → ℕ → ℕ → Type 0
KeepsSpan spans arrivals j m = slice_index spans m + slice_index arrivals (j - m) ≤ slice_index arrivals j + 1

-- what the distance m asks for follows from the shorter distances p and m - p, whose windows share one arrival
pub record Follows (spans : List ℕ) (m p : ℕ) : Type 0 where
  pub some : 0 < p
  pub shorter : p < m
  pub enough : slice_index spans m + 1 ≤ slice_index spans p + slice_index spans (m - p)

-- the distance m is one of those that are needed
pub record IsListed (needed : List Distance) (m : ℕ) : Type 0 where
  pub place : ℕ
  pub listed : place < length needed
  pub apart : (distance_at needed place).apart ≡ m

-- of the distances below n those that are needed, in ascending order: each other one follows from two shorter ones
pub record AreNeededBelow (spans : List ℕ) (n : ℕ) (needed : List Distance) : Type 0 where
  pub decide : (m : ℕ) → m < n → IsListed needed m ⊎ ((p : ℕ) × Follows spans m p)
  pub below : (i : ℕ) → i < length needed → (distance_at needed i).apart < n
  pub each : (i : ℕ) → i < length needed → (distance_at needed i).span ≡ slice_index spans (distance_at needed i).apart
  pub ascending : (i k : ℕ) → i < k → k < length needed → (distance_at needed i).apart < (distance_at needed k).apart

abbrev pub AreNeeded : List ℕ → List Distance → Type 0
AreNeeded spans needed = AreNeededBelow spans (length spans) needed

-- the needed ones of the distances of so many jobs of a curve
pub record AreNeededOf (curve : Curve) (count : ℕ) (needed : List Distance) : Type 0 where
  pub spans : List ℕ
  pub are : AreSpans curve spans
  pub counted : length spans ≡ count
  pub decided : AreNeeded spans needed

-- where the arrivals before number j keep the spans of all distances, the needed ones decide whether number j does
abbrev pub NeededDecide : Type 0
NeededDecide =
    (spans : List ℕ) (needed : List Distance) (arrivals : List ℕ) (j : ℕ) → AreNeeded spans needed → j < length spans →
    ((k m : ℕ) → k < j → m ≤ k → KeepsSpan spans arrivals k m) →
    ((i : ℕ) → i < length needed → (distance_at needed i).apart ≤ j → KeepsSpan spans arrivals j (distance_at needed i).apart) →
    (m : ℕ) → m ≤ j → KeepsSpan spans arrivals j m

-- arrival number j lies a window of the span or more behind the one that is so many numbers before it
abbrev pub KeepsDistance : List ℕ → Distance → ℕ → Type 0
KeepsDistance arrivals d j = d.span + slice_index arrivals (j - d.apart) ≤ slice_index arrivals j + 1

-- the same of each number from one up to another
abbrev pub DoKeep : List ℕ → Distance → ℕ → ℕ → Type 0
DoKeep arrivals d first until = (j : ℕ) → first ≤ j → j < until → KeepsDistance arrivals d j
