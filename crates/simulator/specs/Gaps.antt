-- How far apart jobs of a task arrive, as the code keeps it. Nothing here is to be believed.
use Rattle.std.specs.Prelude.{◌≡◌, ℕ, ◌+◌, ◌-◌, ◌<◌, ◌≤◌, ◌⊎◌, ◌++◌, List, cond, length, nat_le, replicate, slice_index_or}
use Rattle.std.specs.List.Sorted.{IsNonDecreasing, IsNonDecreasingBy}
use Rattle.lists.specs.Limits.{greatest_length}
use Rattle.lists.specs.Sums.{max_below}
use Rattle.curve.specs.CurveValue.{Curve}
use Rattle.curve.specs.Curves.{alpha_of}
use Rattle.simulator.specs.declared.gaps.Gap.{Gap}
use Rattle.simulator.specs.declared.gaps.Gaps.{Gaps}
use Rattle.simulator.specs.Openings.{IsFullBelow}

-- what stands past the last gap
abbrev pub no_gap : Gap
no_gap = record { count = 0; distance = 0 }

abbrev pub gap_at : List Gap → ℕ → Gap
gap_at gaps i = slice_index_or gaps i no_gap

-- how early a gap lets the next job come
abbrev pub opened_by : List ℕ → Gap → ℕ
opened_by arrivals gap =
    cond (nat_le gap.count (length arrivals))
    (slice_index_or arrivals (length arrivals - gap.count) 0 + gap.distance) 0

-- how early all do
abbrev pub earliest_by : List Gap → List ℕ → ℕ
earliest_by gaps arrivals = max_below (λ i. opened_by arrivals (gap_at gaps i)) (length gaps)

-- the arrivals, and n jobs more at t
abbrev pub with_more : List ℕ → ℕ → ℕ → List ℕ
with_more arrivals n t = arrivals ++ replicate n t

-- a gap of more jobs has no shorter distance
pub record AreRising (gaps : List Gap) : Type 0 where
  pub counts : IsNonDecreasingBy (λ (gap : Gap). gap.count) gaps
  pub distances : IsNonDecreasingBy (λ (gap : Gap). gap.distance) gaps

-- the shortest window that admits more than n jobs
pub record IsWindow (c : Curve) (n w : ℕ) : Type 0 where
  pub low : 1 ≤ w
  pub admits : n < alpha_of c w
  pub full : IsFullBelow c n w

-- a gap is of jobs that are apart, and its distance is small
pub record IsLow (gap : Gap) : Type 0 where
  pub low : 1 ≤ gap.count
  pub high : gap.distance ≤ greatest_length

abbrev pub AreLow : List Gap → Type 0
AreLow gaps = (i : ℕ) → i < length gaps → IsLow (gap_at gaps i)

abbrev pub AreNear : List ℕ → Type 0
AreNear arrivals = (i : ℕ) → i < length arrivals → slice_index_or arrivals i 0 ≤ greatest_length

-- a gap lies within a list of arrivals
pub record IsListed (list : List ℕ) (gap : Gap) : Type 0 where
  pub count : gap.count < length list
  pub distance : gap.distance ≤ slice_index_or list (length list - 1) 0

-- number k of a list comes as early as some gap lets it come after those before it
abbrev pub IsImplied : List Gap → List ℕ → ℕ → ℕ → Type 0
IsImplied gaps list k x = (i : ℕ) × (i < length gaps) × ((gap_at gaps i).count ≤ k) ×
    (x ≡ slice_index_or list (k - (gap_at gaps i).count) 0 + (gap_at gaps i).distance)

pub record AreGaps (c : Curve) (gaps : List Gap) (list : List ℕ) (window : ℕ) : Type 0 where
  pub low : AreLow gaps
  pub rising : AreRising gaps
  pub listed : (i : ℕ) → i < length gaps → IsListed list (gap_at gaps i)
  pub ascending : IsNonDecreasing list
  -- windows no longer than the distance admit no job more
  pub full : (i : ℕ) → i < length gaps →
      IsFullBelow c (gap_at gaps i).count ((gap_at gaps i).distance + 1)
  pub some : 0 < length list
  pub begins : slice_index_or list 0 0 ≡ 0
  pub near : AreNear list
  -- and those longer than the k-th of the list admit more than k
  pub admits : (k : ℕ) → k < length list → k < alpha_of c (slice_index_or list k 0 + 1)
  pub implied : (k : ℕ) → k < length list →
      (slice_index_or list k 0 ≡ 0) ⊎ IsImplied gaps list k (slice_index_or list k 0)
  pub last : IsWindow c (length list - 1) window

abbrev pub IsGaps : Curve → Gaps → Type 0
IsGaps c g = AreGaps c g.gaps.items g.densest.items g.window
