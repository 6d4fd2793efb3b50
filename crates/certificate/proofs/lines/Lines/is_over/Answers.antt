use Rattle.certificate.proofs.ProgressFacts.{over_stands}
use Rattle.certificate.proofs.lines.Lines.is_over.Goals as goal

pub returns : goal.returns
returns c = λ b h. rw c.is_over.ensures (over_stands _ b (rw (← c.self.view_is) at h))
