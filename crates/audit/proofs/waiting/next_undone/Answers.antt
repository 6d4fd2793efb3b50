use Rattle.std.proofs.Common.{◌≡◌, length, subst, sym, ◌∙◌, arith}
use Rattle.std.proofs.lemmas.Bool.{ltb-true, ltb-false}
use Rattle.audit.specs.Pending.{AreDoneTo}
use Rattle.audit.proofs.PendingFacts.{done_more}
use Rattle.audit.proofs.waiting.next_undone.Goals as goal

pub loop-i-preserved : goal.loop-i-preserved
loop-i-preserved c =
    done_more c.args.run.now c.args.served.now c.args.coming.now c.loop-i.i c.loop-i-test.true
    (ltb-false _ _ (sym c.is_undone.ensures ∙ c.if-is_undone.false)) c.loop-i.invariant

pub returns-then-is_undone : goal.returns-then-is_undone
returns-then-is_undone c = record { done = c.loop-i.invariant; undone = λ b. ltb-true _ _ (sym c.is_undone.ensures ∙ c.if-is_undone.true) }

pub returns : goal.returns
returns c =
    let e : c.loop-i.i ≡ length c.args.coming.now = omega (arith, c.loop-i.invariant.within) in
    record { done = subst (AreDoneTo c.args.run.now c.args.served.now c.args.coming.now) e c.loop-i.invariant; undone = λ b. absurd (omega arith) }
