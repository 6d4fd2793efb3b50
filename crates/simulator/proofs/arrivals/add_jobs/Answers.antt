use Rattle.std.proofs.Common.{arith}
use Rattle.std.proofs.lemmas.Result.{err_from_is_err_and}
use Rattle.simulated_run.specs.SimulatedRun.{World}
use Rattle.simulator.specs.SimulationState.{world_by, moment_of}
use Rattle.simulator.proofs.ArrivalFacts.{refuses_then}
use Rattle.simulator.proofs.arrivals.add_jobs.Goals as goal

pub returns-in_err-add_job-clause-refusal : goal.returns-in_err-add_job-clause-refusal
returns-in_err-add_job-clause-refusal g c =
    let w : World = world_by g.P.Policy.meaning g.M.Preemption.cuts c.args.sheet.now c.args.mode in
    let p = err_from_is_err_and c.from_residual.result c.from_residual.ensures.1 in
    rw (p.1, p.2)
    (refuses_then w c.args.o c.args.t c.loop-i.i c.args.n (moment_of c.args.simulation.now) (moment_of c.loop-i.simulation)
    c.in_err-add_job.field-0.0 (omega arith) c.loop-i.invariant.moment c.in_err-add_job.ensures.refusal)
