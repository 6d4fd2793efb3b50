-- How long windows are in which a curve admits so many jobs.
use Rattle.std.specs.Prelude.{ℕ, ◌+◌, ◌<◌, ◌≤◌, List, length, slice_index}
use Rattle.curve.specs.CurveValue.{Curve}
use Rattle.curve.specs.Curves.{alpha_of}

-- of the windows of up to 10^9 + 1 ticks, exactly those of d ticks or more admit n jobs
pub record IsSpan (curve : Curve) (n d : ℕ) : Type 0 where
  pub admits : (e : ℕ) → e ≤ 1000000001 → d ≤ e → n ≤ alpha_of curve e
  pub least : (e : ℕ) → e ≤ 1000000001 → n ≤ alpha_of curve e → d ≤ e

-- the spans of 1, 2, .. jobs
abbrev pub AreSpans : Curve → List ℕ → Type 0
AreSpans curve spans = (i : ℕ) → i < length spans → IsSpan curve (i + 1) (slice_index spans i)
