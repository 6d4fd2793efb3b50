-- From an offset to a later one at which as much blocks the need does not fall.
use Rattle.std.proofs.Common.{◌≡◌, ℕ, ◌+◌, ◌<◌, ◌≤◌, ◌≢◌, ◌==◌, min, Bool, true, false, cond, length, refl, sym, arith}
use Rattle.std.proofs.lemmas.Bool.{eqb-false}
use Rattle.std.proofs.Math.Nat.{mul-le-mul_left}
use Rattle.lists.proofs.SumFacts.{sum_le}
use Rattle.curve.specs.CurveValue.{Curve}
use Rattle.curve.specs.Validity.{IsCurve}
use Rattle.curve.proofs.CurveFacts.{alpha_mono}
use Rattle.task_sheet.specs.SheetParts.{SheetParts}
use Rattle.task_sheet.specs.Sheets.{IsValidSheet, task_at}
use Rattle.policy.specs.declared.keys.Cap.{Cap}
use Rattle.policy.specs.declared.keys.Cap.TheVariants.{Nothing, At, All}
use Rattle.policy.specs.Keys.{not_below_zero}
use Rattle.policy.specs.PolicyLaws.{GrowsTo, IsLawfulPolicy}
use Rattle.policy.specs.PolicyMeaning.{PolicyMeaning}
use Rattle.policy.proofs.KeyFacts.{floor_mono}
use Rattle.preemption.specs.CutMeaning.{CutMeaning}
use Rattle.demand.specs.Demand.{capped_count, own_of, others_of, blocking_of, need_of}

-- a cap that grows admits no fewer
capped_more : (curve : Curve) → IsCurve curve → (jitter x : ℕ) (from at : Cap) → GrowsTo from at →
    capped_count curve jitter from x ≤ capped_count curve jitter at x
capped_more curve ok jitter x Nothing Nothing h = omega arith
capped_more curve ok jitter x All All h = omega arith
capped_more curve ok jitter x (At c) (At d) h =
    let more = floor_mono c d h in
    alpha_mono curve ok (min (x + jitter) (not_below_zero c)) (min (x + jitter) (not_below_zero d)) (omega (arith, more))
capped_more curve ok jitter x Nothing (At d) h = absurd h
capped_more curve ok jitter x Nothing All h = absurd h
capped_more curve ok jitter x (At c) Nothing h = absurd h
capped_more curve ok jitter x (At c) All h = absurd h
capped_more curve ok jitter x All Nothing h = absurd h
capped_more curve ok jitter x All (At d) h = absurd h

masked_le : (b : Bool) (m n : ℕ) → (b ≡ false → m ≤ n) → cond b 0 m ≤ cond b 0 n
masked_le true m n h = omega arith
masked_le false m n h = h refl

module _ (p : PolicyMeaning) (m : CutMeaning) (sheet : SheetParts) (ok : IsValidSheet sheet) (lawful : IsLawfulPolicy p sheet)
    (i : ℕ) (in_range : i < length sheet.tasks) where
  others_rise : (from a x : ℕ) → from ≤ a → others_of p sheet i from x ≤ others_of p sheet i a x
  unfolding others_of
  others_rise from a x h = sum_le _ _ (length sheet.tasks) (λ o b. masked_le (o == i) _ _ (λ f.
      let ne : o ≢ i = eqb-false o i f in
      let task = task_at sheet o in
      let grows = lawful.cap_grows i o from a in_range b (λ e. ne (sym e)) h in
      mul-le-mul_left task.cost (capped_more task.curve (ok.each o b).curve task.jitter x (p.cap sheet i o from) (p.cap sheet i o a) grows)))

  pub need_rise : (from a x : ℕ) → from ≤ a → blocking_of p m sheet i from ≤ blocking_of p m sheet i a → need_of p m sheet i from x ≤ need_of p m sheet i a x
  unfolding need_of own_of
  need_rise from a x h blocks =
      let task = task_at sheet i in
      let own = mul-le-mul_left task.cost (alpha_mono task.curve (ok.each i in_range).curve (from + 1 + task.jitter) (a + 1 + task.jitter) (omega arith)) in
      omega (arith, blocks, others_rise from a x h, own)
