use Rattle.std.proofs.Common.{arith, subst}
use Rattle.curve.specs.Stairs.{IsStair}
use Rattle.task_sheet.specs.Sheets.{task_at}
use Rattle.meter.proofs.ChangeFacts.{reach_limited, other_counted, least_high}
use Rattle.meter.proofs.changes.other_counting.Goals as goal

pub stair-stair-requires : goal.stair-stair-requires
stair-stair-requires g c =
    let lawful = g.met.P.Policy.lawful c.args.sheet.now c.task.ensures.valid in
    omega (
      arith,
      c.cap_reach-reach.ensures,
      reach_limited _ (lawful.cap_limited c.args.i c.args.o c.args.a c.requires.i c.requires.o c.requires.other c.requires.offset),
    )

pub returns-clause-counted : goal.returns-clause-counted
returns-clause-counted g c =
    let lawful = g.met.P.Policy.lawful c.args.sheet.now c.task.ensures.valid in
    let here = subst (λ t. IsStair t.curve c.stair-stair.result c.cap_reach-reach.result) c.task.ensures.task c.stair-stair.ensures in
    other_counted _ _ c.task.ensures.valid lawful c.args.i c.args.o c.requires.i c.requires.o c.requires.other c.args.a c.requires.offset c.stair-stair.result
    (subst (IsStair (task_at c.args.sheet.now c.args.o).curve c.stair-stair.result) c.cap_reach-reach.ensures here) c.least_reach.result c.least_reach.ensures
    c.unwrap_or.result c.unwrap_or.ensures

pub returns-clause-high : goal.returns-clause-high
returns-clause-high g c = omega (arith, c.unwrap_or.ensures, least_high _ c.least_reach.result c.least_reach.ensures)
