use Rattle.std.proofs.Common.{◌≡◌, ◌+◌, [], length, arith, rules}
use Rattle.assign.specs.Sheets.{sheet_in}
use Rattle.assign.proofs.FillFacts.{begun}
use Rattle.assign.proofs.TrialFacts.{keeps_cuts}
use Rattle.assign.proofs.EndFacts.{ordered, good, in_time, bounded, no_order}
use Rattle.assign.proofs.OutcomeFacts.{assignment_is, refusal_is}
use Rattle.assign.proofs.assignment.assign.Goals as goal

pub loop-below-init : goal.loop-below-init
loop-below-init g c =
    let sheet = c.args.sheet.now in
    let same : c.in-Ok.trial ≡ sheet_in sheet [] = search rules in
    let count : length c.in-Ok-vec.places.items ≡ length sheet.tasks = search rules in
    ([], begun g.M.Preemption.cuts (g.S.Supply.sbf c.args.supply.now) sheet c.args.horizon c.in-Ok.trial c.in-Ok-vec.places.items same count)

pub returns-then-not-fill_level-clause-refusal : goal.returns-then-not-fill_level-clause-refusal
returns-then-not-fill_level-clause-refusal g c =
    let m = g.M.Preemption.cuts in
    let sbf = g.S.Supply.sbf c.args.supply.now in
    refusal_is m sbf c.args.sheet.now c.args.horizon c.len.ensures.valid c.requires.served
    (c.task_has_one_bound.ensures c.args.supply.now c.known.ensures) (c.loop-below.below + 1) c.if-not-fill_level.ensures

pub returns-then-not-fill_level-clause-cause : goal.returns-then-not-fill_level-clause-cause
returns-then-not-fill_level-clause-cause g c =
    let m = g.M.Preemption.cuts in
    let sbf = g.S.Supply.sbf c.args.supply.now in
    let kept = keeps_cuts m sbf c.args.sheet.now c.len.ensures.valid (g.met.S.Supply.starts c.args.supply.now c.known.ensures)
    g.met.M.Tabled.tabled g.met.M.Preemption.lawful c.requires.served in
    no_order m sbf c.args.sheet.now c.args.horizon kept (c.loop-below.below + 1) c.if-not-fill_level.ensures

pub returns-clause-order : goal.returns-clause-order
returns-clause-order g c =
    let all : c.loop-below.below + 1 ≡ length c.args.sheet.now.tasks + 1 = omega (arith, c.len-below-end.ensures.len) in
    ordered _ _ _ _ _ _ _ _ all c.loop-below.invariant.1

pub returns-clause-good : goal.returns-clause-good
returns-clause-good g c =
    let all : c.loop-below.below + 1 ≡ length c.args.sheet.now.tasks + 1 = omega (arith, c.len-below-end.ensures.len) in
    good _ _ _ _ _ _ _ _ all c.loop-below.invariant.1

pub returns-clause-in_time : goal.returns-clause-in_time
returns-clause-in_time g c =
    let all : c.loop-below.below + 1 ≡ length c.args.sheet.now.tasks + 1 = omega (arith, c.len-below-end.ensures.len) in
    in_time _ _ _ _ _ _ _ _ all c.loop-below.invariant.1

pub returns-clause-bounded : goal.returns-clause-bounded
returns-clause-bounded g c =
    let all : c.loop-below.below + 1 ≡ length c.args.sheet.now.tasks + 1 = omega (arith, c.len-below-end.ensures.len) in
    bounded _ _ _ _ _ _ _ _ all c.loop-below.invariant.1 (c.points_bound.ensures c.args.supply.now c.known.ensures) c.len.ensures.valid c.requires.served

pub returns-clause-exact : goal.returns-clause-exact
returns-clause-exact g c =
    let m = g.M.Preemption.cuts in
    let sbf = g.S.Supply.sbf c.args.supply.now in
    let order = c.loop-below.invariant.0 in
    let so_far = c.loop-below.invariant.1 in
    assignment_is m sbf c.args.sheet.now c.args.horizon c.len.ensures.valid c.requires.served
    (c.task_has_one_bound.ensures c.args.supply.now c.known.ensures) c.loop-below.places.items order so_far.filled so_far.placed
    (omega (arith, so_far.below, c.len-below-end.ensures.len)) so_far.count
