use Rattle.certificate.proofs.FeedFacts.{stands_fed, bad_fed}
use Rattle.certificate.proofs.lines.Lines.feed_line.Goals as goal

pub returns-in-Some-clause-stands : goal.returns-in-Some-clause-stands
returns-in-Some-clause-stands c = λ b h. stands_fed c.args.self.now c.advance_plain.new.self b c.args.bytes.now c.in-Some.count c.in-Some.ensures.progress h

pub returns-in-Some-clause-bad : goal.returns-in-Some-clause-bad
returns-in-Some-clause-bad c =
    λ b h. bad_fed c.args.self.now b c.args.bytes.now c.in-Some.count _ c.in-Some.ensures.first c.in-Some.ensures.step h

pub returns-clause-stands : goal.returns-clause-stands
returns-clause-stands c = λ b h. stands_fed c.advance_plain.new.self c.advance_other.new.self b c.args.bytes.now
    c.advance_other.result.0 c.advance_other.ensures.progress (rw c.in_default.ensures.stays h)

pub returns-clause-bad : goal.returns-clause-bad
returns-clause-bad c =
    λ b h. bad_fed c.advance_plain.new.self b c.args.bytes.now c.advance_other.result.0 c.advance_other.result.1
    c.advance_other.ensures.first c.advance_other.ensures.step (rw c.in_default.ensures.stays h)
