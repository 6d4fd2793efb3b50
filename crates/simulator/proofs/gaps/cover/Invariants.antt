use Rattle.simulator.specs.Gaps.{IsGaps}
use Rattle.simulator.proofs.gaps.cover.Given as goal

abbrev pub invariant-loop-n : goal.invariant-loop-n
invariant-loop-n l = IsGaps l.curve l.gaps
