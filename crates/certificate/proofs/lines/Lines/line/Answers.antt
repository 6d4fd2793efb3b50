use Rattle.certificate.proofs.ProgressFacts.{line_stands}
use Rattle.certificate.proofs.lines.Lines.line.Goals as goal

pub returns : goal.returns
returns c = λ b h. line_stands _ b (rw (← c.self.view_is) at h)
