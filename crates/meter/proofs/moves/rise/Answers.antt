use Rattle.std.proofs.Common.{◌<◌, ◌≤◌, length, arith}
use Rattle.meter.specs.Soonests.{number_of}
use Rattle.meter.proofs.MoveFacts.{rise_begun, risen_one, rise_smaller, risen}
use Rattle.meter.proofs.moves.rise.Goals as goal

pub loop-tracks-init : goal.loop-tracks-init
loop-tracks-init g c = rise_begun g.P.Policy.meaning c.args.sheet.now c.args.i c.args.x _ c.requires.tracking c.requires.begun

pub loop-tracks-preserved : goal.loop-tracks-preserved
loop-tracks-preserved g c =
    risen_one g.P.Policy.meaning c.args.sheet.now c.args.i c.args.x c.first-o.result _ _ _ c.loop-tracks.invariant c.move_end.ensures

pub loop-tracks-smaller : goal.loop-tracks-smaller
loop-tracks-smaller g c =
    let o = c.first-o.result in
    let there = c.least.ensures.stands in
    let within : o < length c.args.sheet.now.tasks = omega (arith, c.first-o.ensures.within, c.loop-tracks.invariant.moving.tracking.full) in
    let low : number_of c.loop-tracks.tracks.untils o ≤ c.args.x =
    omega (arith, c.loop-tracks-test.true, there.is, c.first-o.ensures.least there.at there.within) in
    rise_smaller g.P.Policy.meaning c.args.sheet.now c.args.i c.args.x o _ _ within c.move_end.ensures low

pub returns : goal.returns
returns g c =
    risen g.P.Policy.meaning c.args.sheet.now c.args.i c.args.x c.least.result _ _ c.loop-tracks.invariant c.least.ensures c.loop-tracks-test.false
