use Rattle.std.proofs.Common.{◌≡◌, ◌∙◌, ap, not, Bool, ℕ, List, get_or, ltb}
use Rattle.run_model.specs.Runs.{job_at, tick_at}
use Rattle.run_model.specs.declared.run.Tick.TheVariants.{Runs}
use Rattle.audit.specs.Pending.{is_waiting}
use Rattle.audit.proofs.ReadFacts.{job_read}
use Rattle.audit.proofs.ServedFacts.{served_written}
use Rattle.audit.proofs.PendingFacts.{come_quiet, come_ran}
use Rattle.audit.proofs.progress.Progress.serve.Goals as goal

pub returns-in_default : goal.returns-in_default
returns-in_default g c =
    let m = c.args.self.now in
    let run = c.args.run.now in
    let come = c.requires.ready.come in
    come_quiet g.P.Policy.meaning c.args.sheet.now run c.args.t m.served.items m.coming.items _ m.next m.queue.jobs
    c.requires.tick (λ n e. c.in_default.not-Runs n (cc)) come
    (served_written run c.args.t _ m.served.len c.serve.new.served m.served.items m.served.ok.0 come.counted c.serve.ensures)

pub returns-in-Runs : goal.returns-in-Runs
returns-in-Runs g c =
    let m = c.args.self.now in
    let run = c.args.run.now in
    let come = c.requires.ready.come in
    let k = c.in-Runs.k in
    let runs : tick_at run c.args.t ≡ Runs k = cc in
    let listed = c.requires.small.named c.args.t k runs in
    let job : c.index-as_slice-k.result ≡ job_at run k =
    job_read run c.as_slice-in-Runs.result.now k c.index-as_slice-k.result listed c.as_slice-in-Runs.ensures c.index-as_slice-k.is in
    come_ran g.P.Policy.meaning c.args.sheet.now run c.args.t m.served.items m.coming.items _ m.next k _ m.queue.jobs
    c.leave.new.queue.jobs c.requires.tick runs listed
    (ap (λ (b : Bool). not b) (c.is_undone-done.ensures ∙ ap (λ (l : List ℕ). ltb (get_or l k 0) (job_at run k).cost) c.deref.ensures.value)) come
    (served_written run c.args.t _ m.served.len c.serve.new.served m.served.items m.served.ok.0 come.counted c.serve.ensures)
    (c.leave.ensures run (is_waiting run m.coming.items m.next c.args.t) (record { listed = listed; is = job }) come.waiting)
