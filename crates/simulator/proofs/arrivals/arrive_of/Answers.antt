use Rattle.std.proofs.Common.{◌≡◌, length, OnOk, IfErr, sym, ap, subst, arith}
use Rattle.curve.specs.Validity.{IsCurve}
use Rattle.task_sheet.specs.Sheets.{task_at}
use Rattle.task_sheet.specs.declared.tasks.Task.{Task}
use Rattle.simulated_run.specs.SimulatedRun.{World, Moment}
use Rattle.simulator.specs.Simulations.{IsRefusal}
use Rattle.simulator.specs.SimulationState.{world_by, moment_of, run_of}
use Rattle.simulator.proofs.ArrivalFacts.{arrived_by, list_is, list_past, room_is, lawful_world, allowance_small}
use Rattle.simulator.proofs.arrivals.arrive_of.Goals as goal

pub room-room-requires-clause-past : goal.room-room-requires-clause-past
room-room-requires-clause-past g c =
    let w : World = world_by g.P.Policy.meaning g.M.Preemption.cuts c.args.sheet.now c.args.mode in
    let m = c.args.simulation.now in
    let valid = c.task.ensures.valid in
    let laws =
    lawful_world w.policy w.cuts w.sheet w.mode valid (g.met.P.Policy.lawful w.sheet valid)
    (λ o b. g.met.M.Preemption.lawful (task_at w.sheet o) (valid.each o b) (c.requires.served o b))
    (λ o b. g.met.M.Tabled.tabled (task_at w.sheet o) (c.requires.served o b)) in
    list_past w laws c.args.o c.args.t (run_of m) c.deref.result.now c.task.result.now c.requires.task
    (ap (λ (v : Moment). v.run) c.requires.stage) c.task.ensures.task
    (list_is c.args.o (length w.sheet.tasks) (run_of m) m.arrivals.items c.deref.result.now c.index.result.now
    c.requires.kept.arrivals c.requires.task c.index.ensures c.deref.ensures.value)

pub draw_count-n-requires : goal.draw_count-n-requires
draw_count-n-requires g c =
    let ok : IsCurve c.task.result.now.curve = subst (λ (v : Task). IsCurve v.curve) (sym c.task.ensures.task)
    (c.task.ensures.valid.each c.args.o c.requires.task).curve in
    omega (arith, c.room-room.ensures, allowance_small c.task.result.now.curve c.deref.result.now c.args.t ok)

pub returns-clause-moment : goal.returns-clause-moment
returns-clause-moment g c =
    let w : World = world_by g.P.Policy.meaning g.M.Preemption.cuts c.args.sheet.now c.args.mode in
    let m = c.args.simulation.now in
    let are =
    list_is c.args.o (length w.sheet.tasks) (run_of m) m.arrivals.items c.deref.result.now c.index.result.now
    c.requires.kept.arrivals c.requires.task c.index.ensures c.deref.ensures.value in
    let is_room = room_is w c.args.o c.args.t (moment_of m) c.deref.result.now c.task.result.now c.room-room.result
    c.task.ensures.task are c.room-room.ensures in
    let same =
    arrived_by w c.args.o c.args.t (moment_of m) c.room-room.result c.draw_count-n.result c.draw_count-n.new.words
    is_room c.draw_count-n.ensures.count c.draw_count-n.ensures.state in
    subst (λ (v : Moment). OnOk c.add_jobs.result (moment_of c.add_jobs.new.simulation ≡ v)) same c.add_jobs.ensures.moment

pub returns-clause-refusal : goal.returns-clause-refusal
returns-clause-refusal g c =
    let w : World = world_by g.P.Policy.meaning g.M.Preemption.cuts c.args.sheet.now c.args.mode in
    let m = c.args.simulation.now in
    let are =
    list_is c.args.o (length w.sheet.tasks) (run_of m) m.arrivals.items c.deref.result.now c.index.result.now
    c.requires.kept.arrivals c.requires.task c.index.ensures c.deref.ensures.value in
    let is_room = room_is w c.args.o c.args.t (moment_of m) c.deref.result.now c.task.result.now c.room-room.result
    c.task.ensures.task are c.room-room.ensures in
    let same =
    arrived_by w c.args.o c.args.t (moment_of m) c.room-room.result c.draw_count-n.result c.draw_count-n.new.words
    is_room c.draw_count-n.ensures.count c.draw_count-n.ensures.state in
    subst (λ (v : Moment). IfErr c.add_jobs.result (IsRefusal v.run.jobs)) same c.add_jobs.ensures.refusal
