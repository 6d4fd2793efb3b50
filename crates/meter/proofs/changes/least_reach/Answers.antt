use Rattle.std.proofs.Common.{◌-◌, arith}
use Rattle.meter.proofs.CapFacts.{least_past, none_to}
use Rattle.meter.proofs.changes.least_reach.Goals as goal

pub returns-then-cap_reach-e-2 : goal.returns-then-cap_reach-e-2
returns-then-cap_reach-e-2 g c =
    let lawful = g.met.P.Policy.lawful c.args.sheet.now c.len-valid.ensures.valid in
    let guess = c.saturating_add-guess.result in (
      omega arith,
      least_past _ _ lawful c.args.i c.args.o c.requires.i c.requires.o c.requires.other c.args.e (guess - 1) guess
          (omega arith) (omega (arith, c.cap_reach-then-cap_reach-e.ensures, c.if-cap_reach-e-2.true))
          (omega (arith, c.cap_reach.ensures, c.if-cap_reach-e.true)),
    )

pub returns-then-cap_reach-e-3 : goal.returns-then-cap_reach-e-3
returns-then-cap_reach-e-3 g c =
    let lawful = g.met.P.Policy.lawful c.args.sheet.now c.len-valid.ensures.valid in
    none_to _ _ lawful c.args.i c.args.o c.requires.i c.requires.o c.requires.other c.args.e 1000000000
    (omega (arith, c.cap_reach-2.ensures, c.if-cap_reach-e-3.true))
