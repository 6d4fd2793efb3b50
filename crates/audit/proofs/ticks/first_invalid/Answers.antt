use Rattle.std.proofs.Common.{◌≡◌, sym}
use Rattle.run_model.specs.Runs.{tick_at}
use Rattle.run_model.specs.declared.run.Tick.TheVariants.{Runs}
use Rattle.audit.proofs.FaultFacts.{invalid_some, invalid_none, all_valid}
use Rattle.audit.proofs.ticks.first_invalid.Goals as goal

pub returns-in_default-clause-fault : goal.returns-in_default-clause-fault
returns-in_default-clause-fault c = sym (invalid_none c.args.run.now (all_valid c.args.run.now (rw c.in_default.is at c.in_ok-t.ensures)))

pub returns-in_default-clause-valid : goal.returns-in_default-clause-valid
returns-in_default-clause-valid c = λ e. all_valid c.args.run.now (rw c.in_default.is at c.in_ok-t.ensures)

pub returns-clause-fault : goal.returns-clause-fault
returns-clause-fault c =
    let runs : tick_at c.args.run.now c.in-Some.t ≡ Runs c.in-Runs.k = cc in
    sym (invalid_some c.args.run.now c.in-Some.t c.in-Runs.k (rw c.in-Some.is at c.in_ok-t.ensures) runs)
