-- What a job at an offset needs is no more than at an earlier offset that no number tells apart from it.
use Rattle.std.proofs.Common.{◌≡◌, ℕ, ◌+◌, ◌*◌, ◌<◌, ◌≤◌, ◌≢◌, ◌==◌, min, Bool, true, false, cond, not, length, refl, sym, ap, inl, inr, arith, eq-eqb}
use Rattle.std.proofs.lemmas.Bool.{cases_lt, and_from, and_parts, eqb-false, ne_eqb, not-true}
use Rattle.std.proofs.Math.Nat.{mul-le-mul_left}
use Rattle.lists.proofs.SumFacts.{sum_le, max_at_most}
use Rattle.curve.specs.CurveValue.{Curve}
use Rattle.curve.specs.Curves.{alpha_of}
use Rattle.curve.specs.Validity.{IsCurve}
use Rattle.curve.proofs.CurveFacts.{alpha_mono}
use Rattle.task_sheet.specs.SheetParts.{SheetParts}
use Rattle.task_sheet.specs.Sheets.{IsValidSheet, task_at}
use Rattle.policy.specs.Offsets.{cap_count, IsSame}
use Rattle.policy.specs.declared.keys.Cap.{Cap}
use Rattle.policy.specs.declared.keys.Cap.TheVariants.{Nothing, At, All}
use Rattle.policy.specs.Keys.{not_below_zero}
use Rattle.policy.specs.PolicyLaws.{GrowsTo, IsLawfulPolicy}
use Rattle.policy.specs.PolicyMeaning.{PolicyMeaning}
use Rattle.preemption.specs.CutMeaning.{CutMeaning}
use Rattle.demand.specs.Demand.{capped_count, own_of, others_of, blocking_of, need_of}

-- where the whole count stays, so does its part up to x
same_part : (curve : Curve) → IsCurve curve → (low high x : ℕ) → alpha_of curve low ≡ alpha_of curve high →
    alpha_of curve (min x high) ≤ alpha_of curve (min x low)
same_part curve ok low high x e = elim (cases_lt low x) [
  | inr below ↦
      let m : min x low ≡ x = omega arith in
      omega (arith, ap (alpha_of curve) m, alpha_mono curve ok (min x high) x (omega arith))
  | inl above ↦
      let m : min x low ≡ low = omega arith in
      omega (arith, ap (alpha_of curve) m, alpha_mono curve ok (min x high) high (omega arith), e)
]

-- of two caps that admit as many jobs in all, the greater admits no more within x ticks
count_stays : (curve : Curve) → IsCurve curve → (jitter x : ℕ) (from at : Cap) → GrowsTo from at → cap_count curve from ≡ cap_count curve at →
    capped_count curve jitter at x ≤ capped_count curve jitter from x
count_stays curve ok jitter x Nothing Nothing h e = omega arith
count_stays curve ok jitter x All All h e = omega arith
count_stays curve ok jitter x (At c) (At d) h e = same_part curve ok (not_below_zero c) (not_below_zero d) (x + jitter) e
count_stays curve ok jitter x Nothing (At d) h e = absurd h
count_stays curve ok jitter x Nothing All h e = absurd h
count_stays curve ok jitter x (At c) Nothing h e = absurd h
count_stays curve ok jitter x (At c) All h e = absurd h
count_stays curve ok jitter x All Nothing h e = absurd h
count_stays curve ok jitter x All (At d) h e = absurd h

masked_le : (b : Bool) (m n : ℕ) → (b ≡ false → m ≤ n) → cond b 0 m ≤ cond b 0 n
masked_le true m n h = omega arith
masked_le false m n h = h refl

implied_le : (b c : Bool) (m : ℕ) → (b ≡ true → c ≡ true) → cond b m 0 ≤ cond c m 0
implied_le false c m h = omega arith
implied_le true c m h = omega (arith, ap (λ (b : Bool). cond b m 0) (h refl))

module _ (p : PolicyMeaning) (sheet : SheetParts) (i from at : ℕ) (same : IsSame p sheet i from at) where
  own_same : i < length sheet.tasks →
      alpha_of (task_at sheet i).curve (from + 1 + (task_at sheet i).jitter) ≡ alpha_of (task_at sheet i).curve (at + 1 + (task_at sheet i).jitter)
  own_same in_range = rw (eq-eqb i i refl) at (same i in_range)

  caps_same : (o : ℕ) → o < length sheet.tasks → o ≢ i →
      cap_count (task_at sheet o).curve (p.cap sheet i o from) ≡ cap_count (task_at sheet o).curve (p.cap sheet i o at)
  caps_same o in_range other = rw (ne_eqb o i other) at (same o in_range)

-- the need at an offset that no number tells apart from an earlier one
module _ (p : PolicyMeaning) (m : CutMeaning) (sheet : SheetParts) (ok : IsValidSheet sheet) (lawful : IsLawfulPolicy p sheet)
    (i : ℕ) (in_range : i < length sheet.tasks) where
  pub block_less : (from a : ℕ) → from ≤ a → blocking_of p m sheet i a ≤ blocking_of p m sheet i from
  unfolding blocking_of
  block_less from a h = max_at_most _ _ (length sheet.tasks) (λ o b. implied_le _ _ _ (λ t.
      let parts = and_parts (not (o == i)) (p.may_block sheet i o a) t in
      let other : i ≢ o = λ e. eqb-false o i (not-true (o == i) parts.0) (sym e) in
      and_from _ _ parts.0 (lawful.block_falls i o from a in_range b other h parts.1)))

  others_less : (from a x : ℕ) → from ≤ a → IsSame p sheet i from a → others_of p sheet i a x ≤ others_of p sheet i from x
  unfolding others_of
  others_less from a x h same = sum_le _ _ (length sheet.tasks) (λ o b. masked_le (o == i) _ _ (λ f.
      let ne : o ≢ i = eqb-false o i f in
      let curve = (task_at sheet o).curve in
      let grows = lawful.cap_grows i o from a in_range b (λ e. ne (sym e)) h in
      let stays = count_stays curve (ok.each o b).curve (task_at sheet o).jitter x (p.cap sheet i o from)
      (p.cap sheet i o a) grows (caps_same p sheet i from a same o b ne) in
      mul-le-mul_left (task_at sheet o).cost stays))

  pub need_less : (from a x : ℕ) → from ≤ a → IsSame p sheet i from a → need_of p m sheet i a x ≤ need_of p m sheet i from x
  unfolding need_of own_of
  need_less from a x h same =
      let own = ap (λ (w : ℕ). (task_at sheet i).cost * w) (own_same p sheet i from a same in_range) in
      omega (arith, block_less from a h, others_less from a x h same, own)
