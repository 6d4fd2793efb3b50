use Rattle.std.proofs.Common.{◌≡◌, arith}
use Rattle.demand.specs.Demand.{block_of}
use Rattle.meter.proofs.BlockerFacts.{kept, none_kept}
use Rattle.meter.proofs.blockers.keep_blocker.Goals as goal

pub returns-then-block_at-before : goal.returns-then-block_at-before
returns-then-block_at-before g c =
    let p = g.P.Policy.meaning in
    let m = g.M.Preemption.cuts in
    let sheet = c.args.sheet.now in
    let ok = c.len-valid.ensures.valid in
    let same : block_of p m sheet c.args.i c.args.a c.args.before.task ≡ c.args.before.block =
    omega (arith, c.block_at.ensures.exact, c.if-block_at-before.true) in
    kept p m sheet ok (g.met.P.Policy.lawful sheet ok) c.args.i c.args.from c.args.a c.requires.i c.requires.order c.args.before c.requires.before same

pub returns-then-before-eq0 : goal.returns-then-before-eq0
returns-then-before-eq0 g c =
    let sheet = c.args.sheet.now in
    let ok = c.len-valid.ensures.valid in
    none_kept g.P.Policy.meaning g.M.Preemption.cuts sheet ok (g.met.P.Policy.lawful sheet ok) c.args.i c.args.from c.args.a
    c.requires.i c.requires.order c.args.before c.requires.before (omega arith)
