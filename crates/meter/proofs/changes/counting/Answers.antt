use Rattle.meter.proofs.ChangeFacts.{counted_high}
use Rattle.meter.proofs.changes.counting.Goals as goal

pub returns-then-o-i-clause-bound : goal.returns-then-o-i-clause-bound
returns-then-o-i-clause-bound g c =
    let ok = c.len-valid.ensures.valid in
    counted_high g.P.Policy.meaning c.args.sheet.now ok (g.met.P.Policy.lawful c.args.sheet.now ok) c.args.i c.args.a c.args.i _ _
    c.requires.i c.requires.i c.requires.offset c.own_counting.ensures.counted

pub returns-else-o-i-clause-bound : goal.returns-else-o-i-clause-bound
returns-else-o-i-clause-bound g c =
    let ok = c.len-valid.ensures.valid in
    counted_high g.P.Policy.meaning c.args.sheet.now ok (g.met.P.Policy.lawful c.args.sheet.now ok) c.args.i c.args.a c.args.o _ _
    c.requires.i c.requires.o c.requires.offset c.other_counting.ensures.counted
