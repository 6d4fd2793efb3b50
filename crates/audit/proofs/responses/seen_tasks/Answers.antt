use Rattle.std.proofs.Common.{◌≡◌, length, ◌∙◌, ap, subst, arith}
use Rattle.std.proofs.lemmas.List.{length-replicate}
use Rattle.audit.specs.NotedResponses.{nothing, AreSeen}
use Rattle.audit.proofs.SeenFacts.{none_seen, all_seen}
use Rattle.audit.proofs.responses.seen_tasks.Goals as goal

pub loop-k-init : goal.loop-k-init
loop-k-init c = record {
  count = ap length c.in_ok-seen.ensures ∙ length-replicate c.args.count nothing;
  seen = none_seen c.args.run.now c.args.count c.in_ok-seen.seen.items c.in_ok-seen.ensures;
}

pub returns : goal.returns
returns c =
    let e : c.loop-k.k ≡ length c.args.run.now.jobs = omega (arith, c.loop-k.auto.k-end) in
    all_seen c.args.run.now c.args.count c.loop-k.seen.items c.loop-k.invariant.count
    (subst (λ n. AreSeen c.args.run.now n c.loop-k.seen.items) e c.loop-k.invariant.seen)
