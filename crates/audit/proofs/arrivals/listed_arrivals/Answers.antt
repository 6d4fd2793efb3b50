use Rattle.std.proofs.Common.{◌≡◌, ◌+◌, ℕ, sym, subst, arith, length}
use Rattle.run_model.specs.Runs.{job_at}
use Rattle.audit.specs.declared.arrivals.Arrival.{Arrival}
use Rattle.audit.specs.ArrivalOrder.{AreFirstArrivals, arrival_of}
use Rattle.audit.proofs.ReadFacts.{job_read}
use Rattle.audit.proofs.OrderFacts.{arrivals_none, arrivals_more}
use Rattle.audit.proofs.arrivals.listed_arrivals.Goals as goal

abbrev arrival_by : ℕ → ℕ → ℕ → Arrival
arrival_by tick release job = record { tick = tick; release = release; job = job }

pub loop-k-init : goal.loop-k-init
loop-k-init c = arrivals_none c.args.run.now c.in_ok-arrivals.arrivals.items c.in_ok-arrivals.ensures.items

pub loop-k-preserved : goal.loop-k-preserved
loop-k-preserved c =
    let run = c.args.run.now in
    let k = c.loop-k.k in
    let job : c.index-as_slice-k.result ≡ job_at run k = job_read run c.as_slice.result.now k c.index-as_slice-k.result
    (omega arith) c.as_slice.ensures c.index-as_slice-k.is in
    let arrival : arrival_by c.index-as_slice-k.result.arrival c.index-as_slice-k.result.release k ≡ arrival_of run k = cc in
    subst (AreFirstArrivals run (k + 1)) (sym c.in_ok-push.ensures.items) (arrivals_more run k c.loop-k.arrivals.items _ arrival c.loop-k.invariant)

pub returns : goal.returns
returns c =
    let e : c.loop-k.k ≡ length c.args.run.now.jobs = omega (arith, c.loop-k.auto.k-end) in
    subst (λ n. AreFirstArrivals c.args.run.now n c.loop-k.arrivals.items) e c.loop-k.invariant
