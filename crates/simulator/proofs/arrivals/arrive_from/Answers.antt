use Rattle.std.proofs.Common.{◌+◌, length, sym, arith}
use Rattle.simulated_run.specs.SimulatedRun.{World}
use Rattle.simulator.specs.SimulationState.{world_by, moment_of, run_of}
use Rattle.simulator.proofs.ArrivalFacts.{list_is}
use Rattle.simulator.proofs.ShutFacts.{nothing_arrives, shut_is, list_come}
use Rattle.simulator.proofs.arrivals.arrive_from.Goals as goal

pub returns-then-t-start-clause-moment : goal.returns-then-t-start-clause-moment
returns-then-t-start-clause-moment g c =
    let w : World = world_by g.P.Policy.meaning g.M.Preemption.cuts c.args.sheet.now c.args.mode in
    sym (nothing_arrives w c.args.o c.args.t (moment_of c.args.simulation.now) (c.requires.shut c.args.t (omega arith) (omega arith)))

pub next_opening-requires-clause-ascending : goal.next_opening-requires-clause-ascending
next_opening-requires-clause-ascending g c =
    let m = c.arrive_of.new.simulation in
    let are =
    list_is c.args.o (length c.args.sheet.now.tasks) (run_of m) m.arrivals.items c.as_slice-arrivals.result.now c.index-2.result.now
    c.in_ok-arrive_of.ensures.kept.arrivals c.requires.task c.index-2.ensures c.as_slice-arrivals.ensures.value in
    are.ascending

pub next_opening-requires-clause-past : goal.next_opening-requires-clause-past
next_opening-requires-clause-past g c =
    let m = c.arrive_of.new.simulation in
    let kept = c.in_ok-arrive_of.ensures.kept in
    let are =
    list_is c.args.o (length c.args.sheet.now.tasks) (run_of m) m.arrivals.items c.as_slice-arrivals.result.now c.index-2.result.now
    kept.arrivals c.requires.task c.index-2.ensures c.as_slice-arrivals.ensures.value in
    λ i b. omega (arith, list_come c.args.o c.args.t (run_of m) c.as_slice-arrivals.result.now are (λ k h. (kept.jobs.known k h).arrived) i b)

pub returns-clause-shut : goal.returns-clause-shut
returns-clause-shut g c =
    let m = c.arrive_of.new.simulation in
    let are =
    list_is c.args.o (length c.args.sheet.now.tasks) (run_of m) m.arrivals.items c.as_slice-arrivals.result.now c.index-2.result.now
    c.in_ok-arrive_of.ensures.kept.arrivals c.requires.task c.index-2.ensures c.as_slice-arrivals.ensures.value in
    λ v h l. shut_is c.args.sheet.now c.args.o (run_of m) c.as_slice-arrivals.result.now c.task.result.now
    (c.args.t + 1) c.next_opening.result c.task.ensures.task are
    c.next_opening.ensures v (omega (arith, h)) l
