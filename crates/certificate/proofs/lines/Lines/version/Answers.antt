use Rattle.certificate.proofs.ProgressFacts.{version_stands}
use Rattle.certificate.proofs.lines.Lines.version.Goals as goal

pub returns : goal.returns
returns c = λ b cert h parses. version_stands _ b cert (rw (← c.self.view_is) at h) parses
