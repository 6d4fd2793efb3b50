use Rattle.std.proofs.Common.{◌≡◌, ℕ, true, Option, None, length, sym, ◌∙◌, subst}
use Rattle.std.proofs.lemmas.Bool.{not-false, OnFalse_from}
use Rattle.lists.specs.Searches.{IsFirstBelow}
use Rattle.run_model.specs.Runs.{is_pending}
use Rattle.urgency.specs.Queues.{IsMostUrgent}
use Rattle.audit.specs.TickRules.{is_urgent_by}
use Rattle.audit.proofs.PlaceFacts.{none_urgent, none_at_all}
use Rattle.audit.proofs.priorities.has_urgent.Goals as goal

pub returns-in-Some : goal.returns-in-Some
returns-in-Some g c = λ t first. OnFalse_from c.is_more_urgent.result
    (IsFirstBelow (λ k. is_urgent_by g.P.Policy.meaning c.args.sheet.now c.args.run.now c.args.key t k ≡ true) (length c.args.run.now.jobs) None)
    (λ less k b h. none_urgent g.P.Policy.meaning c.args.sheet.now c.args.run.now t c.args.key c.in-Some.k
    (subst (λ (w : Option ℕ). IsMostUrgent g.P.Policy.meaning c.args.sheet.now c.args.run.now.jobs (λ i. is_pending c.args.run.now i t) w)
    c.in-Some.is first)
    (not-false _ (sym c.is_more_urgent.ensures ∙ less)) k b h)

pub returns-in-None : goal.returns-in-None
returns-in-None g c = λ t first k b h.
    none_at_all g.P.Policy.meaning c.args.sheet.now c.args.run.now t c.args.key
    (subst (λ (w : Option ℕ). IsMostUrgent g.P.Policy.meaning c.args.sheet.now c.args.run.now.jobs (λ i. is_pending c.args.run.now i t) w)
    c.in-None.is first) k b h
