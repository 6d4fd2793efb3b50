use Rattle.std.proofs.Common.{◌≡◌, ℕ, ◌-◌, length, ap, arith}
use Rattle.std.proofs.lemmas.List.{get_or_read}
use Rattle.run_model.specs.Runs.{job_at, no_job}
use Rattle.simulator.specs.SimulationState.{left_at, run_of}
use Rattle.simulator.proofs.TickFacts.{run_kept}
use Rattle.simulator.proofs.ticks.run_job.Goals as goal

pub returns-clause-kept : goal.returns-clause-kept
returns-clause-kept g c =
    let m = c.args.simulation.now in
    let amount : c.index.result.now - 1 ≡ left_at m.left.items c.args.k - 1 =
    ap (λ (v : ℕ). v - 1)
    (get_or_read m.left.items c.args.k c.index.result.now (omega (arith, c.requires.kept.jobs.lefts)) c.index.ensures 0) in
    let job : c.index-job.result.now ≡ job_at (run_of m) c.args.k =
    get_or_read m.jobs.items c.args.k c.index-job.result.now c.requires.runnable.listed c.index-job.ensures no_job in
    run_kept g.P.Policy.meaning g.M.Preemption.cuts c.args.sheet.now (length m.ticks.items)
    (run_of m) m.left.items m.queue m.coming m.inside c.requires.kept.jobs
    c.args.k (c.index.result.now - 1) c.index-job.result.now c.task.result.now c.leave.new.queue c.rank_of-rank.result
    c.can_cut-cut.result c.segment_of-simulation.result
    c.requires.runnable.listed c.requires.runnable.waits c.requires.runnable.chosen c.requires.runnable.released amount job
    c.task.ensures.task c.rank_of-rank.ensures
    c.leave.ensures.done c.leave.ensures.stays c.can_cut-cut.ensures c.segment_of-simulation.ensures
