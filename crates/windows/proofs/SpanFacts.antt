-- The shortest windows in which a curve admits so many jobs.
use Rattle.std.proofs.Common.{◌≡◌, ℕ, ◌+◌, ◌<◌, ◌≤◌, inl, inr, arith}
use Rattle.std.proofs.lemmas.Bool.{cases_lt}
use Rattle.lists.specs.Limits.{greatest_length}
use Rattle.curve.specs.declared.prefix.Stair.{Stair}
use Rattle.curve.specs.CurveValue.{Curve}
use Rattle.curve.specs.Curves.{alpha_of}
use Rattle.curve.specs.Stairs.{IsStair}
use Rattle.curve.specs.Validity.{IsCurve}
use Rattle.curve.proofs.CurveFacts.{alpha_mono}
use Rattle.windows.specs.Spans.{IsSpan}

pub span_none : (c : Curve) → IsSpan c 0 0
span_none c = record { admits = λ e h l. omega arith; least = λ e h l. omega arith }

module _ (c : Curve) (ok : IsCurve c) (n d : ℕ) (span : IsSpan c n d) where
  -- no window is as long
  pub span_far : greatest_length < d → IsSpan c (n + 1) d
  span_far far = record { admits = λ e h l. absurd (omega arith); least = λ e h l. span.least e h (omega (arith, l)) }

  -- the same window admits one job more
  pub span_stays : n < alpha_of c d → IsSpan c (n + 1) d
  span_stays more = record {
    admits = λ e h l. omega (arith, more, alpha_mono c ok d e l);
    least = λ e h l. span.least e h (omega (arith, l));
  }

  module _ (s : Stair) (at : IsStair c s d) where
    here : alpha_of c d ≡ s.value
    here = at.flat d at.begun at.open_yet

    pub span_here : n < s.value → IsSpan c (n + 1) d
    span_here more = span_stays (omega (arith, more, here))

    -- it does not: the window with which the stair ends is the next
    pub span_next : s.value ≤ n → IsSpan c (n + 1) s.until
    span_next few = record {
      admits = λ e h l. omega (arith, at.higher, at.open_yet, here, span.admits d (omega (arith, at.open_yet)) (omega arith), alpha_mono c ok s.until e l);
      least = λ e h l. (let begun = span.least e h (omega (arith, l)) in elim (cases_lt e s.until) [
        | inl before ↦ absurd (omega (arith, l, few, at.flat e (omega (arith, at.begun, begun)) before))
        | inr after ↦ after
      ]);
    }
