use Rattle.certificate.proofs.FeedFacts.{byte_fed, byte_said, none_more}
use Rattle.certificate.proofs.lines.Lines.advance_line.Goals as goal

pub returns-then-byte-eq10-clause-progress : goal.returns-then-byte-eq10-clause-progress
returns-then-byte-eq10-clause-progress c =
    byte_fed _ _ _ c.args.bytes.now c.loop-at.at c.loop-at-test.true c.loop-at.invariant.progress c.advance-step.ensures.progress

pub returns-then-byte-eq10-clause-step : goal.returns-then-byte-eq10-clause-step
returns-then-byte-eq10-clause-step c =
    byte_said _ _ _ _ c.args.bytes.now c.loop-at.at c.loop-at-test.true c.loop-at.invariant.progress c.advance-step.ensures.step

pub loop-at-preserved : goal.loop-at-preserved
loop-at-preserved c = record {
  progress = byte_fed _ _ _ c.args.bytes.now c.loop-at.at c.loop-at-test.true c.loop-at.invariant.progress c.advance-step.ensures.progress;
  step = byte_said _ _ _ _ c.args.bytes.now c.loop-at.at c.loop-at-test.true c.loop-at.invariant.progress c.advance-step.ensures.step;
  none = none_more c.args.bytes.now c.loop-at.at c.loop-at-test.true c.loop-at.invariant.none c.if-byte-eq10.false;
}
