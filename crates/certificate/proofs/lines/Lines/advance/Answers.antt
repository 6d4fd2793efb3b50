use Rattle.std.proofs.Common.{arith}
use Rattle.certificate.proofs.LineFacts.{line_fits, lines_next}
use Rattle.certificate.proofs.lines.Lines.advance.Goals as goal

pub next_line-line-requires : goal.next_line-line-requires
next_line-line-requires c = omega (arith, line_fits c.self.inside.place c.self.inside.line c.self.invariant)

pub invariant_of-self : goal.invariant_of-self
invariant_of-self c = rw (c.next_line-line.ensures, c.next-step.ensures) (lines_next c.self.inside.place c.args.byte c.self.inside.line c.self.invariant)
