use Rattle.std.proofs.Common.{◌≡◌, length, sym, ◌∙◌}
use Rattle.std.proofs.lemmas.Bool.{both_ways}
use Rattle.run_model.specs.Runs.{tick_at, is_pending}
use Rattle.run_model.specs.declared.run.Tick.TheVariants.{Idle}
use Rattle.schedule_laws.specs.Tests.{is_idle_broken}
use Rattle.audit.proofs.PlaceFacts.{first_like, idle_is, busy_is}
use Rattle.audit.proofs.idling.idle_job.Goals as goal

pub returns-in_default : goal.returns-in_default
returns-in_default c = λ k b h. both_ways _ (busy_is c.args.run.now c.args.t k (λ e. c.in_default.not-Idle (cc))) h

pub returns-in-None : goal.returns-in-None
returns-in-None c = λ k b h.
    let idle : tick_at c.args.run.now c.args.t ≡ Idle = cc in
    let none = rw c.in-None.is at c.requires.first in
    both_ways (is_pending c.args.run.now k c.args.t) (none k b) (sym (idle_is c.args.run.now c.args.t k idle) ∙ h)

pub returns-in-Some : goal.returns-in-Some
returns-in-Some c =
    let idle : tick_at c.args.run.now c.args.t ≡ Idle = cc in
    first_like (λ k. is_pending c.args.run.now k c.args.t) (is_idle_broken c.args.run.now c.args.t) (length c.args.run.now.jobs) _
    (λ k. idle_is c.args.run.now c.args.t k idle) c.first_pending.ensures
