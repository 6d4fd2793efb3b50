use Rattle.std.proofs.Common.{◌≡◌, ◌+◌, ◌<◌, length, get_or, sym, ◌∙◌, ap, subst, arith}
use Rattle.std.proofs.Math.ListN.{set}
use Rattle.task_sheet.specs.declared.tasks.Job.{Job}
use Rattle.run_model.specs.Runs.{job_at}
use Rattle.audit.specs.NotedResponses.{AreSeen}
use Rattle.audit.proofs.ReadFacts.{job_read}
use Rattle.audit.proofs.SeenFacts.{one_more}
use Rattle.audit.proofs.responses.see_job.Goals as goal

pub returns-clause-seen : goal.returns-clause-seen
returns-clause-seen c =
    let run = c.args.run.now in
    let k = c.args.k in
    let o = (get_or c.as_slice.result.now k c.index-as_slice-k.result).task in
    let job : c.index-as_slice-k.result ≡ job_at run k =
    job_read run c.as_slice.result.now k c.index-as_slice-k.result c.requires.job c.as_slice.ensures c.index-as_slice-k.is in
    let task : (job_at run k).task ≡ o = ap (λ (j : Job). j.task) (sym job ∙ c.index-as_slice-k.is) in
    let below : o < length c.args.seen.now = omega (arith, task, c.requires.below k c.requires.job) in
    subst (λ v. AreSeen run (k + 1) (set c.args.seen.now o v)) (sym c.with_response.ensures)
    (one_more run k o c.args.seen.now _ task below (c.requires.responses.each k c.requires.job) c.requires.seen)
