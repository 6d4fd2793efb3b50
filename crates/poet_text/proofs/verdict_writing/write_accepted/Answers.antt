use Rattle.std.proofs.Common.{rules, IsErr, codes}
use Rattle.poet_io.proofs.Writing.{wrote_less}
use Rattle.poet_text.specs.Printing.{bounds_text, accepted_text}
use Rattle.poet_text.proofs.WritingFacts.{wrote_as}
use Rattle.poet_text.proofs.verdict_writing.write_accepted.Goals as goal

pub returns-in_err-write_all : goal.returns-in_err-write_all
unfolding accepted_text
returns-in_err-write_all g c =
    let w : IsErr c.write_all.result = search rules in
    wrote_less _ _ _ _ (codes "accepted\n") (bounds_text c.args.sheet.now.tasks c.args.bounds.now) c.write_all.result c.from_residual.result
    w c.from_residual.ensures.0 (wrote_as _ _ _ _ _ _ _ c.as_bytes.ensures.value c.write_all.ensures)
