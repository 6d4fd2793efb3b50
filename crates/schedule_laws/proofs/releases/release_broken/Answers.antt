use Rattle.std.proofs.Common.{sym, ◌∙◌, arith}
use Rattle.schedule_laws.proofs.TestFacts.{untimely_breaks, overtaken_breaks, never_overtaken}
use Rattle.schedule_laws.proofs.releases.release_broken.Goals as goal

pub returns-then-not-is_timely : goal.returns-then-not-is_timely
returns-then-not-is_timely c = sym (untimely_breaks c.args.sheet.now c.args.run.now c.args.k (sym c.is_timely.ensures ∙ c.if-not-is_timely.true))

pub returns-then-is_overtaken : goal.returns-then-is_overtaken
returns-then-is_overtaken c = sym (overtaken_breaks c.args.sheet.now c.args.run.now c.args.k c.loop-n.n (omega arith)
    (sym c.is_overtaken.ensures ∙ c.if-is_overtaken.true))

pub returns : goal.returns
returns c = sym (never_overtaken c.args.sheet.now c.args.run.now c.args.k (sym c.is_timely.ensures ∙ c.if-not-is_timely.false)
    (λ n b. c.loop-n.invariant n (omega arith)))
