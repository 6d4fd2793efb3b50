use Rattle.std.proofs.Common.{◌≡◌, ℕ, ◌+◌, ◌-◌, ◌++◌, List, length, take, drop, sym, ap, subst, ◌∙◌, arith, length-drop, append_assoc}
use Rattle.std.proofs.lemmas.List.{append-nil, take_all, take_rest}
use Rattle.certificate.proofs.FeedFacts.{line_some, line_on}
use Rattle.cert_check.specs.Standing.{IsAt}
use Rattle.cert_check.proofs.checker.Checker.feed.Goals as goal

pub loop-at-init : goal.loop-at-init
loop-at-init g c = record {
  within = omega arith;
  fed = record {
    stands = λ made b h.
        subst (λ (v : List ℕ). IsAt g.P.Policy.meaning g.M.Preemption.cuts g.S.Supply.sbf c.args.self.now made v) (sym (append-nil b)) h;
  };
}

pub loop-at-preserved : goal.loop-at-preserved
loop-at-preserved g c =
    let bs = c.args.piece.now in
    let i = c.loop-at.at in
    let rest = take (length bs - i) (drop i bs) in
    let n = c.feed_line-at.result in
    let next : take (i + n) bs ≡ take i bs ++ take n rest = line_on bs i n ∙ ap (λ (t : List ℕ). take i bs ++ take n t) (sym (take_rest bs i)) in
    record {
      within = omega (arith, c.feed_line-at.ensures.first.within, ap length (take_rest bs i), length-drop i bs);
      fed = record {
        stands = λ made b h.
            subst (λ (v : List ℕ). IsAt g.P.Policy.meaning g.M.Preemption.cuts g.S.Supply.sbf c.feed_line-at.new.self made v)
            (append_assoc b (take i bs) (take n rest) ∙ ap (λ (t : List ℕ). b ++ t) (sym next))
            (c.feed_line-at.ensures.stands made (b ++ take i bs) (c.loop-at.invariant.fed.stands made b h));
      };
    }

pub loop-at-smaller : goal.loop-at-smaller
loop-at-smaller g c =
    let bs = c.args.piece.now in
    let i = c.loop-at.at in
    let rest = take (length bs - i) (drop i bs) in
    let size : length rest ≡ length bs - i = ap length (take_rest bs i) ∙ length-drop i bs in
    omega (arith, line_some rest c.feed_line-at.result c.feed_line-at.ensures.first (omega (arith, size)), c.feed_line-at.ensures.first.within, size)

pub returns : goal.returns
returns g c = record {
  stands = λ made b h.
      let all = take_all c.loop-at.at c.args.piece.now (omega arith) in
      subst (λ (v : List ℕ). IsAt g.P.Policy.meaning g.M.Preemption.cuts g.S.Supply.sbf c.loop-at.self made (b ++ v)) all
      (c.loop-at.invariant.fed.stands made b h);
}
