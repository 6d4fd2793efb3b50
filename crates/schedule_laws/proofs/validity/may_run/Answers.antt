use Rattle.std.proofs.Common.{sym, ◌∙◌, arith}
use Rattle.std.proofs.lemmas.Bool.{both_ways}
use Rattle.schedule_laws.proofs.TestFacts.{idle_job, held_back, free_to_run}
use Rattle.schedule_laws.proofs.validity.may_run.Goals as goal

pub returns-then-not-is_pending : goal.returns-then-not-is_pending
returns-then-not-is_pending c =
    sym (idle_job c.args.run.now c.args.k c.args.t (λ waits. both_ways c.is_pending.result c.if-not-is_pending.true (c.is_pending.ensures.1 waits)))

pub returns-then-holds_back : goal.returns-then-holds_back
returns-then-holds_back c = sym (held_back c.args.run.now c.args.k c.args.t c.loop-n.n (omega arith) (sym c.holds_back.ensures ∙ c.if-holds_back.true))

pub returns : goal.returns
returns c = sym (free_to_run c.args.run.now c.args.k c.args.t (c.is_pending.ensures.0 c.if-not-is_pending.false) (λ n b. c.loop-n.invariant n (omega arith)))
