use Rattle.std.proofs.Common.{◌∙◌, sym, arith}
use Rattle.run_model.specs.declared.run.Tick.TheVariants.{Off}
use Rattle.run_text.proofs.StretchFacts.{text_same, text_other}
use Rattle.run_text.proofs.writing.push_stretches.Goals as goal
use Rattle.run_text.proofs.writing.push_stretches.Goals.{then-are_same, else-are_same+in_ok-push_stretch}

pub loop-next-preserved : goal.loop-next-preserved
loop-next-preserved c =
    let l = c.loop-next in
    elim c.if-are_same.branch [
      | then-are_same w ↦
          let e = text_same l.out.items l.tick l.count c.args.rest.now l.next-index Off c.loop-next-test.true (sym c.are_same.ensures ∙ w.if-are_same.true) in
          (omega arith, rw (w.out-is, w.tick-is, w.count-is) (sym e ∙ l.invariant.1))
      | else-are_same+in_ok-push_stretch w ↦
          let e = text_other l.out.items l.tick l.count c.args.rest.now l.next-index Off c.loop-next-test.true (sym c.are_same.ensures ∙ w.if-are_same.false) in
          (omega arith, rw (w.out-is, w.tick-is, w.count-is, w.in_ok-push_stretch.ensures) (sym e ∙ l.invariant.1))
    ]
