use Rattle.std.proofs.Common.{◌≡◌, ℕ, length}
use Rattle.curve.specs.Stairs.{IsStair}
use Rattle.windows.specs.Spans.{IsSpan, AreSpans}
use Rattle.windows.proofs.spans.spans.Given as goal

abbrev pub invariant-loop-n : goal.invariant-loop-n
invariant-loop-n l = record {
  spans : AreSpans l.curve l.spans.items;
  count : length l.spans.items ≡ l.n;
  stair : (e : ℕ) × IsStair l.curve l.stair e;
  span : IsSpan l.curve l.n l.span;
}
