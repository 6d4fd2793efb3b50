use Rattle.std.proofs.Common.{◌≡◌, ◌<◌, ◌≤◌, ◌+◌, ◌-◌, ℕ, suc, Some, subst, sym, ap, arith, add-one}
use Rattle.std.proofs.Math.ListN.{set}
use Rattle.task_sheet.specs.declared.tasks.Job.{Job}
use Rattle.run_model.specs.Runs.{job_at, tick_at, service_of}
use Rattle.run_model.specs.declared.run.Tick.TheVariants.{Runs}
use Rattle.schedule_laws.proofs.TestFacts.{valid_from}
use Rattle.audit.specs.NotedResponses.{AreResponses}
use Rattle.audit.proofs.ReadFacts.{job_read}
use Rattle.audit.proofs.ResponseFacts.{responses_same, responses_wait, responses_finish}
use Rattle.audit.proofs.responses.note_response.Goals as goal

pub overflow_sub-responses : goal.overflow_sub-responses
overflow_sub-responses c =
    let runs : tick_at c.args.run.now c.args.t ≡ Runs c.in-Runs.k = cc in
    let pending = (valid_from c.args.run.now c.args.t c.in-Runs.k (c.requires.valid c.args.t c.requires.tick) runs).pending in
    let job : c.index-as_slice-k.result ≡ job_at c.args.run.now c.in-Runs.k =
    job_read c.args.run.now c.as_slice-in-Runs.result.now c.in-Runs.k c.index-as_slice-k.result pending.listed
    c.as_slice-in-Runs.ensures c.index-as_slice-k.is in
    omega (arith, pending.released, c.requires.released.after c.in-Runs.k pending.listed, ap (λ (j : Job). j.arrival) job)

pub returns-then-served-k : goal.returns-then-served-k
returns-then-served-k c =
    let runs : tick_at c.args.run.now c.args.t ≡ Runs c.in-Runs.k = cc in
    let listed = c.requires.small.named c.args.t c.in-Runs.k runs in
    let job : c.index-as_slice-k.result ≡ job_at c.args.run.now c.in-Runs.k =
    job_read c.args.run.now c.as_slice-in-Runs.result.now c.in-Runs.k c.index-as_slice-k.result listed c.as_slice-in-Runs.ensures c.index-as_slice-k.is in
    let next : suc c.args.t ≡ c.args.t + 1 = sym (add-one c.args.t) in
    let done : (job_at c.args.run.now c.in-Runs.k).cost ≤ service_of c.args.run.now c.in-Runs.k (suc c.args.t) =
    omega (
      arith,
      c.requires.served.each c.in-Runs.k listed,
      c.if-served-k.true,
      ap (λ (j : Job). j.cost) job,
      ap (service_of c.args.run.now c.in-Runs.k) next,
    ) in
    let new = responses_finish c.args.run.now c.args.t c.in-Runs.k c.args.responses.now c.requires.tick c.requires.valid runs done c.requires.responses in
    let value : suc c.args.t - (job_at c.args.run.now c.in-Runs.k).arrival ≡ c.args.t + 1 - c.index-as_slice-k.result.arrival =
    omega (arith, ap (λ (j : Job). j.arrival) job) in
    subst (λ (n : ℕ). AreResponses c.args.run.now n (set c.args.responses.now c.in-Runs.k (Some (c.args.t + 1 - c.index-as_slice-k.result.arrival)))) next
    (subst (λ (n : ℕ). AreResponses c.args.run.now (suc c.args.t) (set c.args.responses.now c.in-Runs.k (Some n))) value new)

pub returns-else-served-k : goal.returns-else-served-k
returns-else-served-k c =
    let runs : tick_at c.args.run.now c.args.t ≡ Runs c.in-Runs.k = cc in
    let listed = c.requires.small.named c.args.t c.in-Runs.k runs in
    let job : c.index-as_slice-k.result ≡ job_at c.args.run.now c.in-Runs.k =
    job_read c.args.run.now c.as_slice-in-Runs.result.now c.in-Runs.k c.index-as_slice-k.result listed c.as_slice-in-Runs.ensures c.index-as_slice-k.is in
    let next : suc c.args.t ≡ c.args.t + 1 = sym (add-one c.args.t) in
    let less : service_of c.args.run.now c.in-Runs.k (suc c.args.t) < (job_at c.args.run.now c.in-Runs.k).cost =
    omega (
      arith,
      c.requires.served.each c.in-Runs.k listed,
      c.if-served-k.false,
      ap (λ (j : Job). j.cost) job,
      ap (service_of c.args.run.now c.in-Runs.k) next,
    ) in
    subst (λ (n : ℕ). AreResponses c.args.run.now n c.args.responses.now) next
    (responses_wait c.args.run.now c.args.t c.in-Runs.k c.args.responses.now c.requires.tick runs less c.requires.responses)

pub returns-in_default : goal.returns-in_default
returns-in_default c =
    let next : suc c.args.t ≡ c.args.t + 1 = sym (add-one c.args.t) in
    subst (λ (n : ℕ). AreResponses c.args.run.now n c.args.responses.now) next
    (responses_same c.args.run.now c.args.t c.args.responses.now c.requires.tick (λ k e. c.in_default.not-Runs k (cc)) c.requires.responses)
