use Rattle.std.proofs.Common.{sym, ◌∙◌, length, arith}
use Rattle.schedule_laws.specs.Tests.{does_fit}
use Rattle.schedule_laws.proofs.TestFacts.{fit_from}
use Rattle.audit.specs.Faults.{unfit, unfit_in}
use Rattle.audit.proofs.SearchFacts.{all_hold, first_fails}
use Rattle.audit.proofs.jobs.first_unfit.Goals as goal

pub returns-then-not-fits-clause-fault : goal.returns-then-not-fits-clause-fault
unfolding unfit_in
returns-then-not-fits-clause-fault g c =
    sym (first_fails (does_fit g.M.Preemption.cuts c.args.sheet.now c.args.run.now) unfit (length c.args.run.now.jobs) c.loop-k.k
    (omega arith) (sym c.fits.ensures ∙ c.if-not-fits.true) c.loop-k.invariant)

pub returns-clause-fault : goal.returns-clause-fault
unfolding unfit_in
returns-clause-fault g c = sym (all_hold (does_fit g.M.Preemption.cuts c.args.sheet.now c.args.run.now) unfit
    (length c.args.run.now.jobs) (λ k b. c.loop-k.invariant k (omega arith)))

pub returns-clause-fit : goal.returns-clause-fit
returns-clause-fit g c = λ _ k b. fit_from g.M.Preemption.cuts c.args.sheet.now c.args.run.now k (c.loop-k.invariant k (omega arith))
