use Rattle.std.proofs.Common.{◌≡◌}
use Rattle.run_model.specs.Runs.{tick_at}
use Rattle.run_model.specs.declared.run.Tick.TheVariants.{Runs}
use Rattle.schedule_laws.proofs.TestFacts.{valid_by}
use Rattle.audit.proofs.validity.is_valid.Goals as goal

pub returns-in-Runs-clause-valid : goal.returns-in-Runs-clause-valid
returns-in-Runs-clause-valid c =
    let runs : tick_at c.args.run.now c.args.t ≡ Runs c.in-Runs.k = cc in
    valid_by c.args.run.now c.args.t c.in-Runs.k c.may_run.result runs c.may_run.ensures.may
