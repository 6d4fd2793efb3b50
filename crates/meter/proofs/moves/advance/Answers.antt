use Rattle.std.proofs.Common.{◌<◌, ◌≤◌, length, arith}
use Rattle.meter.specs.Soonests.{number_of}
use Rattle.meter.proofs.MoveFacts.{recount_begun, recounted_one, recount_smaller, recounted_all}
use Rattle.meter.proofs.moves.advance.Goals as goal

pub loop-tracks-init : goal.loop-tracks-init
loop-tracks-init g c =
    recount_begun g.P.Policy.meaning c.args.sheet.now c.args.i c.args.b c.args.x c.args.a c.requires.order (omega (arith, c.requires.offset)) _
    c.requires.before

pub loop-tracks-preserved : goal.loop-tracks-preserved
loop-tracks-preserved g c =
    recounted_one g.P.Policy.meaning c.args.sheet.now c.args.i c.args.b c.args.x c.first-o.result _ _ c.loop-tracks.invariant c.recount.ensures

pub loop-tracks-smaller : goal.loop-tracks-smaller
loop-tracks-smaller g c =
    let o = c.first-o.result in
    let there = c.least.ensures.stands in
    let within : o < length c.args.sheet.now.tasks = omega (arith, c.first-o.ensures.within, c.loop-tracks.invariant.count) in
    let low : number_of c.loop-tracks.tracks.changes o ≤ c.args.b =
    omega (arith, c.loop-tracks-test.true, there.is, c.first-o.ensures.least there.at there.within) in
    recount_smaller g.P.Policy.meaning c.args.sheet.now c.args.i c.args.b c.args.x o _ _ within c.recount.ensures low

pub returns : goal.returns
returns g c =
    recounted_all g.P.Policy.meaning c.args.sheet.now c.args.i c.args.b c.args.x c.least.result _ c.loop-tracks.invariant c.least.ensures
    c.loop-tracks-test.false
