use Rattle.std.proofs.Common.{sym, ap, ◌∙◌, ◌≡◌, ◌-◌, length, slice_index_or, rules}
use Rattle.curve.proofs.CurveFacts.{rises_from_test}
use Rattle.curve.proofs.StairFacts.{all_split, value_last}
use Rattle.curve.proofs.searching.top_value.Goals as goal

pub returns-in-Some : goal.returns-in-Some
returns-in-Some c =
    let is : c.in-Some.step.now ≡ slice_index_or c.args.steps.now (length c.args.steps.now - 1) (record { time = 0; value = 0 }) = search rules in
    ap (λ s. s.value) is ∙ sym (value_last c.args.steps.now c.args.horizon (length c.args.steps.now)
    (record { time = 0; value = 0 })
    (all_split _ _ (rises_from_test 0 0 c.args.steps.now c.requires.rising) c.requires.within) (λ e. absurd (search rules)))
