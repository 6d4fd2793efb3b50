use Rattle.std.proofs.Common.{sym, ◌∙◌, arith}
use Rattle.schedule_laws.proofs.CrowdFacts.{begins_suffice, since_crowds}
use Rattle.schedule_laws.proofs.arrivals.crowded.Goals as goal

pub returns-then-is_crowded_since : goal.returns-then-is_crowded_since
returns-then-is_crowded_since c =
    sym (since_crowds c.args.sheet.now c.len-valid.ensures.valid c.args.run.now c.args.k c.loop-n.n
    (sym c.is_crowded_since.ensures ∙ c.if-is_crowded_since.true))

pub returns : goal.returns
returns c =
    sym (begins_suffice c.args.sheet.now c.len-valid.ensures.valid c.args.run.now c.args.k c.requires.job
    (c.requires.tasks c.args.k c.requires.job) (λ n below. c.loop-n.invariant n (omega arith)))
