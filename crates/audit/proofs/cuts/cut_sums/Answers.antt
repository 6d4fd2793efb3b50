use Rattle.std.proofs.Common.{◌≡◌, ◌<◌, ◌≤◌, ℕ, List, length, sum, sym, ◌∙◌, ap, subst, arith}
use Rattle.task_sheet.specs.declared.tasks.Job.{Job}
use Rattle.task_sheet.specs.Sheets.{task_at}
use Rattle.run_model.specs.Runs.{job_at}
use Rattle.audit.proofs.CutFacts.{few_segments}
use Rattle.audit.proofs.ReadFacts.{job_read}
use Rattle.audit.proofs.cuts.cut_sums.Goals as goal

pub sums_of-requires : goal.sums_of-requires
sums_of-requires g c =
    let sheet = c.args.sheet.now in
    let run = c.args.run.now in
    let k = c.loop-job.job-index in
    let listed : k < length run.jobs = omega (arith, ap (λ (v : List Job). length v) c.as_slice-job-items.ensures) in
    let job : c.job-item.result ≡ job_at run k =
    job_read run c.as_slice-job-items.result.now k c.job-item.result listed c.as_slice-job-items.ensures c.job-item.is in
    let fits = c.requires.fit k listed in
    let o = (job_at run k).task in
    let ok = c.len-valid.ensures.valid.each o fits.task in
    let serves = c.requires.served o fits.task in
    let few = few_segments g.M.Preemption.cuts (task_at sheet o) (job_at run k) ok (g.met.M.Preemption.lawful _ ok serves)
    (g.met.M.Tabled.tabled _ serves) fits.fit in
    subst (λ (l : List ℕ). sum l ≤ 1000000000) (sym (c.as_slice.ensures ∙ ap (λ (j : Job). j.segs) job)) few
