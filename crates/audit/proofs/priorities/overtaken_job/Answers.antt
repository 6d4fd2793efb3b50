use Rattle.std.proofs.Common.{◌≡◌, ◌∙◌, length, get_or, ap}
use Rattle.std.proofs.lemmas.Bool.{both_ways, OnFalse_at}
use Rattle.task_sheet.specs.declared.tasks.Job.{Job}
use Rattle.run_model.specs.Runs.{job_at, tick_at}
use Rattle.run_model.specs.declared.run.Tick.TheVariants.{Runs}
use Rattle.schedule_laws.specs.Tests.{is_priority_broken}
use Rattle.audit.specs.TickRules.{is_urgent_by}
use Rattle.audit.proofs.ReadFacts.{job_read, cut_read}
use Rattle.audit.proofs.PlaceFacts.{first_like, first_listed, urgent_is, none_overtakes, uncut_is, no_run_is}
use Rattle.audit.proofs.priorities.overtaken_job.Goals as goal

pub has_urgent-requires-clause-first : goal.has_urgent-requires-clause-first
has_urgent-requires-clause-first g c =
    first_listed g.P.Policy.meaning c.args.sheet.now c.args.run.now c.args.t c.args.first c.requires.first

pub returns-in_default : goal.returns-in_default
returns-in_default g c = λ k b h. both_ways _
    (no_run_is g.P.Policy.meaning g.M.Preemption.cuts c.args.sheet.now c.args.run.now c.args.t k (λ n e. c.in_default.not-Runs n (cc))) h

pub returns-then-not-has_urgent : goal.returns-then-not-has_urgent
returns-then-not-has_urgent g c = λ n b h.
    let p = g.P.Policy.meaning in
    let sheet = c.args.sheet.now in
    let run = c.args.run.now in
    let k = c.in-Runs.k in
    let runs : tick_at run c.args.t ≡ Runs k = cc in
    let listed = c.requires.small.named c.args.t k runs in
    let job : c.index-as_slice-k.result ≡ job_at run k =
    job_read run c.as_slice-2.result.now k c.index-as_slice-k.result listed c.as_slice-2.ensures c.index-as_slice-k.is in
    let key : c.key-key.result ≡ p.key sheet (job_at run k) = c.key-key.ensures ∙ ap (λ (j : Job). p.key sheet j) job in
    none_overtakes p g.M.Preemption.cuts sheet run c.args.t k n c.key-key.result runs key
    (λ urgent. OnFalse_at c.if-not-has_urgent.true (c.has_urgent.ensures c.args.t c.requires.first) n b urgent) h

pub returns-then-not-can_cut_job : goal.returns-then-not-can_cut_job
returns-then-not-can_cut_job g c = λ n b h.
    let m = g.M.Preemption.cuts in
    let sheet = c.args.sheet.now in
    let run = c.args.run.now in
    let k = c.in-Runs.k in
    let runs : tick_at run c.args.t ≡ Runs k = cc in
    let listed = c.requires.small.named c.args.t k runs in
    let cut = cut_read m sheet run c.args.t k (get_or c.args.served.now k 0) c.can_cut_job.result c.can_cut_job.ensures (c.requires.served.each k listed) in
    both_ways _ (uncut_is g.P.Policy.meaning m sheet run c.args.t k n runs (cut ∙ c.if-not-can_cut_job.true)) h

pub returns : goal.returns
returns g c =
    let p = g.P.Policy.meaning in
    let m = g.M.Preemption.cuts in
    let sheet = c.args.sheet.now in
    let run = c.args.run.now in
    let k = c.in-Runs.k in
    let runs : tick_at run c.args.t ≡ Runs k = cc in
    let listed = c.requires.small.named c.args.t k runs in
    let cut = cut_read m sheet run c.args.t k (get_or c.args.served.now k 0) c.can_cut_job.result c.can_cut_job.ensures (c.requires.served.each k listed) in
    let job : c.index-as_slice-k.result ≡ job_at run k =
    job_read run c.as_slice-2.result.now k c.index-as_slice-k.result listed c.as_slice-2.ensures c.index-as_slice-k.is in
    let key : c.key-key.result ≡ p.key sheet (job_at run k) = c.key-key.ensures ∙ ap (λ (j : Job). p.key sheet j) job in
    first_like (is_urgent_by p sheet run c.key-key.result c.args.t) (is_priority_broken p m sheet run c.args.t) (length run.jobs) _
    (λ n. urgent_is p m sheet run c.args.t k n c.key-key.result runs (cut ∙ c.if-not-can_cut_job.false) key) c.first_urgent.ensures
