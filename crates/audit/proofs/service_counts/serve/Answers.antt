use Rattle.std.proofs.Common.{◌≡◌, refl}
use Rattle.run_model.specs.Runs.{tick_at}
use Rattle.run_model.specs.declared.run.Tick.TheVariants.{Runs}
use Rattle.audit.proofs.ServedFacts.{served_same, served_run}
use Rattle.audit.proofs.service_counts.serve.Goals as goal

pub returns-in-Runs : goal.returns-in-Runs
returns-in-Runs c =
    let runs : tick_at c.args.run.now c.args.t ≡ Runs c.in-Runs.k = cc in
    served_run c.args.run.now c.args.t c.in-Runs.k _ c.args.served.now c.requires.tick runs
    (c.requires.small.named c.args.t c.in-Runs.k runs) refl c.requires.served

pub returns-in_default : goal.returns-in_default
returns-in_default c = served_same c.args.run.now c.args.t c.args.served.now c.requires.tick (λ k e. c.in_default.not-Runs k (cc)) c.requires.served
