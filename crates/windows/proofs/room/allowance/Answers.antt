use Rattle.std.proofs.Common.{◌-◌, List, ap, arith}
use Rattle.curve.specs.declared.prefix.Step.{Step}
use Rattle.windows.specs.Steps.{step_at}
use Rattle.windows.proofs.RoomFacts.{scan_start, enough_next, scan_next, allowance_all, allowance_far, allowance_none}
use Rattle.windows.proofs.room.allowance.Goals as goal

pub loop-i-init : goal.loop-i-init
loop-i-init c =
    scan_start c.args.curve.now c.steps-steps.ensures.valid c.args.arrivals.now c.args.t c.requires.past _
    (ap (λ (l : List Step). (step_at l 0).value) c.steps-steps.ensures.steps)

pub overflow_sub-left-in-loop-i : goal.overflow_sub-left-in-loop-i
overflow_sub-left-in-loop-i c =
    enough_next c.args.curve.now c.steps-steps.ensures.valid c.args.arrivals.now c.args.t c.requires.past c.steps-steps.result.now
    c.steps-steps.ensures.steps c.loop-i.i c.loop-i.step c.last_step-step.result c.loop-i.room (omega arith) c.loop-i.invariant
    c.last_step-step.ensures (omega arith)

pub loop-i-preserved : goal.loop-i-preserved
loop-i-preserved c =
    scan_next c.args.curve.now c.steps-steps.ensures.valid c.args.arrivals.now c.args.t c.requires.past c.steps-steps.result.now
    c.steps-steps.ensures.steps c.loop-i.i c.loop-i.step c.last_step-step.result c.loop-i.room c.min-room.result (omega arith)
    c.loop-i.invariant c.last_step-step.ensures (omega arith) c.min-room.ensures

pub returns-after-loop-i : goal.returns-after-loop-i
returns-after-loop-i c =
    allowance_all c.args.curve.now c.steps-steps.ensures.valid c.args.arrivals.now c.args.t c.requires.past c.loop-i.i
    c.loop-i.step c.loop-i.room (omega arith) c.loop-i.invariant

pub returns-then-t-arrival : goal.returns-then-t-arrival
returns-then-t-arrival c =
    allowance_far c.args.curve.now c.steps-steps.ensures.valid c.args.arrivals.now c.args.t c.requires.past c.loop-i.i
    c.loop-i.step c.loop-i.room (omega arith) c.loop-i.invariant (omega arith)

pub returns-then-room-eq0 : goal.returns-then-room-eq0
returns-then-room-eq0 c =
    let scan =
    scan_next c.args.curve.now c.steps-steps.ensures.valid c.args.arrivals.now c.args.t c.requires.past c.steps-steps.result.now
    c.steps-steps.ensures.steps c.loop-i.i c.loop-i.step c.last_step-step.result c.loop-i.room c.min-room.result (omega arith)
    c.loop-i.invariant c.last_step-step.ensures (omega arith) c.min-room.ensures in
    allowance_none c.args.curve.now c.steps-steps.ensures.valid c.args.arrivals.now c.args.t c.requires.past
    (c.loop-i.i - 1) c.last_step-step.result c.min-room.result scan c.if-room-eq0.true
