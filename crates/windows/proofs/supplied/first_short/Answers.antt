use Rattle.std.proofs.Common.{◌≡◌, ℕ, ◌+◌, List, [], ◌∷◌, ◌++◌, true, false, sym, ◌∙◌, ap, subst, arith, below_more}
use Rattle.std.proofs.lemmas.Bool.{both_ways}
use Rattle.run_model.specs.Runs.{tick_at, is_on}
use Rattle.windows.proofs.TickCounts.{KeepsCount, count_start, count_on, count_off}
use Rattle.windows.proofs.supplied.first_short.Goals as goal
use Rattle.windows.proofs.supplied.first_short.Goals.{then-is_on, else-is_on}

pub loop-t-init : goal.loop-t-init
loop-t-init c = record {
  kept = count_start c.args.run.now _ (c.in_ok-push.ensures.items ∙ ap (λ (l : List ℕ). l ++ 0 ∷ []) c.in_ok-counts.ensures.items);
  free = λ s b. absurd (omega arith);
}

pub loop-t-preserved : goal.loop-t-preserved
loop-t-preserved c =
    let t : ℕ = c.loop-t.t in
    record {
      kept = subst (λ (l : List ℕ). KeepsCount c.args.run.now l (t + 1) c.if-is_on.supplied) (sym c.in_ok-push-2.ensures.items) (elim c.if-is_on.branch [
        | then-is_on w ↦
            let on : is_on (tick_at c.args.run.now c.loop-t.t) ≡ true = cc in
            count_on c.args.run.now c.loop-t.counts.items t c.loop-t.supplied c.if-is_on.supplied (omega arith) c.loop-t.invariant.kept on w.supplied-is
        | else-is_on w ↦
            let off : is_on (tick_at c.args.run.now c.loop-t.t) ≡ false = cc in
            count_off c.args.run.now c.loop-t.counts.items t c.loop-t.supplied c.if-is_on.supplied (omega arith) c.loop-t.invariant.kept off w.supplied-is
      ]);
      free = below_more _ _ c.loop-t.invariant.free (sym c.is_short.ensures ∙ c.if-is_short.false);
    }

pub returns : goal.returns
returns c = λ k b short. both_ways _ (c.loop-t.invariant.free k (omega arith)) short
