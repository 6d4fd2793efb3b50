use Rattle.std.proofs.Common.{subst, sym, ◌∙◌, ◌∷◌, ◌++◌, []}
use Rattle.certificate.specs.Machine.{StandsFor}
use Rattle.certificate.proofs.ProgressFacts.{stands_next, bad_stands, says_stands}
use Rattle.certificate.proofs.lines.Lines.feed.Goals as goal

pub returns-clause-stands : goal.returns-clause-stands
returns-clause-stands c = λ b h. subst (λ l. StandsFor l (b ++ c.args.byte ∷ [])) (sym c.advance.ensures.progress) (stands_next c.args.self.now b c.args.byte h)

pub returns-clause-bad : goal.returns-clause-bad
returns-clause-bad c = λ b h. rw c.advance.ensures.step (bad_stands c.args.self.now b c.args.byte h)

pub returns-clause-says : goal.returns-clause-says
returns-clause-says c = λ b more cert h parses. c.advance.ensures.step ∙ says_stands c.args.self.now b more c.args.byte cert h parses
