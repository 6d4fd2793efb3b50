use Rattle.std.proofs.Common.{◌≡◌, sym, ◌∙◌, ap, arith}
use Rattle.std.proofs.lemmas.Bool.{le-ltb}
use Rattle.run_model.specs.Runs.{tick_at}
use Rattle.run_model.specs.declared.run.Tick.TheVariants.{Runs}
use Rattle.schedule_laws.specs.Tests.{may_be_at}
use Rattle.schedule_laws.proofs.TestFacts.{idle_job}
use Rattle.schedule_laws.proofs.validity.valid_at.Goals as goal

-- a job past the end of the list is not pending
pub returns-else-k-len : goal.returns-else-k-len
returns-else-k-len c =
    let is : tick_at c.args.run.now c.args.t ≡ Runs c.in-Runs.k = cc in
    le-ltb c.in-Runs.k c.len.result (omega arith) ∙
    sym (ap (may_be_at c.args.run.now c.args.t) is ∙ idle_job c.args.run.now c.in-Runs.k c.args.t (λ waits. omega (arith, waits.listed)))
