use Rattle.std.proofs.Common.{◌≡◌, length, subst, arith}
use Rattle.run_model.specs.Runs.{job_at}
use Rattle.audit.specs.Pending.{is_waiting, IsReady}
use Rattle.audit.proofs.ReadFacts.{job_read}
use Rattle.audit.proofs.PendingFacts.{come_more, come_all}
use Rattle.audit.proofs.progress.let_in.Goals as goal

pub loop-i-preserved : goal.loop-i-preserved
loop-i-preserved g c =
    let run = c.args.run.now in
    let coming = c.args.coming.now in
    let come = c.loop-i.invariant in
    let listed = (come.ordered.listed c.loop-i.i (omega arith)).listed in
    let job : c.index-as_slice-k.result ≡ job_at run _ =
    job_read run c.as_slice.result.now _ c.index-as_slice-k.result listed c.as_slice.ensures c.index-as_slice-k.is in
    come_more g.P.Policy.meaning c.args.sheet.now run c.args.t c.args.served.now coming c.loop-i.i c.is_undone-waits.result
    c.loop-i.queue.jobs c.enter.new.queue.jobs (omega arith) (omega arith) c.is_undone-waits.ensures come
    (c.in_ok-enter.ensures run (is_waiting run coming c.loop-i.i c.args.t) (record { listed = listed; is = job }) come.waiting)

pub returns-then-arrival-t : goal.returns-then-arrival-t
returns-then-arrival-t g c = come_all g.P.Policy.meaning c.args.sheet.now c.args.run.now c.args.t c.args.served.now
    c.args.coming.now c.loop-i.i c.loop-i.queue.jobs c.loop-i.invariant (λ b. omega arith)

pub returns : goal.returns
returns g c =
    let come = c.loop-i.invariant in
    let e : c.loop-i.i ≡ length c.args.coming.now = omega (arith, come.within) in
    subst (λ n. IsReady g.P.Policy.meaning c.args.sheet.now c.args.run.now c.args.t c.args.served.now c.args.coming.now n c.loop-i.queue.jobs) e
    (come_all g.P.Policy.meaning c.args.sheet.now c.args.run.now c.args.t c.args.served.now c.args.coming.now c.loop-i.i
    c.loop-i.queue.jobs come (λ b. absurd (omega arith)))
