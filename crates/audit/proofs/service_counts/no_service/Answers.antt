use Rattle.std.proofs.Common.{◌∙◌, ℕ, ap, replicate}
use Rattle.audit.proofs.ServedFacts.{served_none}
use Rattle.audit.proofs.service_counts.no_service.Goals as goal

pub returns : goal.returns
returns c = served_none c.args.run.now c.in_ok-served.served.items (c.in_ok-served.ensures ∙ ap (λ (n : ℕ). replicate n 0) c.len.ensures)
