use Rattle.std.proofs.Common.{◌≡◌, ℕ, ◌+◌, length, sym, ◌∙◌, ap, subst, arith}
use Rattle.std.specs.Global.{Vec}
use Rattle.windows.specs.Crowds.{IsFirstJob, AreArrivals}
use Rattle.windows.proofs.CrowdFacts.{IsCrowdedBelow, below_none, below_more, below_all}
use Rattle.windows.proofs.crowds.first_crowded.Goals as goal

pub loop-o-init : goal.loop-o-init
loop-o-init c = below_none c.args.sheet.now c.args.run.now

pub first_crowded_of-requires-clause-arrivals : goal.first_crowded_of-requires-clause-arrivals
first_crowded_of-requires-clause-arrivals c =
    subst (AreArrivals c.args.run.now c.loop-o.o) (ap (λ (v : Vec ℕ). v.items) (sym c.index.ensures) ∙ sym c.deref.ensures.value)
    (c.in_ok-arrivals.ensures.sorted c.loop-o.o c.index.result.now
    (omega (arith, c.in_ok-arrivals.ensures.count, c.len-o-end.ensures.len)) (omega (arith, c.in_ok-arrivals.ensures.count, c.len-o-end.ensures.len)))

pub loop-o-preserved : goal.loop-o-preserved
loop-o-preserved c =
    subst (IsFirstJob (IsCrowdedBelow c.args.sheet.now c.args.run.now (c.loop-o.o + 1)) c.args.run.now) (sym c.earlier-first.ensures)
    (below_more c.args.sheet.now c.args.run.now c.loop-o.o c.loop-o.first c.in_ok-other.other c.loop-o.invariant c.in_ok-other.ensures)

pub returns : goal.returns
returns c =
    let e : c.loop-o.o ≡ length c.args.sheet.now.tasks = omega arith in
    below_all c.args.sheet.now c.args.run.now c.loop-o.first c.requires.tasks
    (subst (λ (n : ℕ). IsFirstJob (IsCrowdedBelow c.args.sheet.now c.args.run.now n) c.args.run.now c.loop-o.first) e c.loop-o.invariant)
