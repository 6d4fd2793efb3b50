use Rattle.std.proofs.Common.{◌≡◌, suc, Some, refl, ◌∙◌, ap, subst, arith}
use Rattle.std.specs.BTreeMap.{Updates}
use Rattle.std.proofs.lemmas.List.{get_or_read}
use Rattle.task_sheet.specs.declared.tasks.Job.{Job}
use Rattle.run_model.specs.Runs.{job_at, no_job}
use Rattle.urgency.specs.declared.rank.Rank.{Rank}
use Rattle.urgency.specs.Ranks.{rank_at, rank_of, rank_cmp}
use Rattle.simulator.specs.SimulationState.{run_of}
use Rattle.simulator.proofs.KeepFacts.{kept_waiting}
use Rattle.simulator.proofs.QueueFacts.{queue_begin, queue_let_in}
use Rattle.simulator.proofs.releases.let_in.Goals as goal

pub loop-due-init : goal.loop-due-init
loop-due-init g c =
    let p = g.P.Policy.meaning in
    let sheet = c.args.sheet.now in
    let m = c.args.simulation.now in
    let t = c.args.t in
    let kept = c.requires.kept in
    record {
      moment = refl;
      kept =
          kept_waiting p g.M.Preemption.cuts sheet t t t (suc t) t (run_of m) m.left.items m.queue m.queue m.coming m.coming m.inside m.segments
          m.arrivals.items m.releases.items m.counts.items kept (omega arith)
          (queue_begin p sheet m.jobs.items m.left.items t m.queue m.coming kept.jobs.waiting);
    }

pub loop-due-preserved : goal.loop-due-preserved
loop-due-preserved g c =
    let p = g.P.Policy.meaning in
    let sheet = c.args.sheet.now in
    let m = c.loop-due.simulation in
    let t = c.args.t in
    let d = c.in-Some.due in
    let kept = c.loop-due.invariant.kept in
    let out = c.in-Some.ensures.some in
    let own = kept.jobs.waiting.due d out.there in
    let job : c.index-job.result.now ≡ job_at (run_of m) d.number =
    get_or_read m.jobs.items d.number c.index-job.result.now own.listed c.index-job.ensures no_job in
    let up : Updates rank_cmp m.queue c.insert.new.self (rank_of p sheet m.jobs.items d.number) (Some d.number) =
    subst (λ (r : Rank). Updates rank_cmp m.queue c.insert.new.self r (Some d.number))
    (c.rank_of-rank.ensures ∙ ap (λ (j : Job). rank_at p sheet j d.number) job) c.in_ok-insert.ensures.updates in
    record {
      moment = c.loop-due.invariant.moment;
      kept =
          kept_waiting p g.M.Preemption.cuts sheet t (suc t) t (suc t) t (run_of m) m.left.items m.queue c.insert.new.self m.coming c.take_due.new.coming
          m.inside m.segments m.arrivals.items m.releases.items m.counts.items kept (omega arith)
          (queue_let_in p sheet m.jobs.items m.left.items t t m.queue c.insert.new.self m.coming c.take_due.new.coming d kept.jobs.waiting out up);
    }
