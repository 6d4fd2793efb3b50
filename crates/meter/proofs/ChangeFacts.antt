use Rattle.std.specs.Option.{unwrap_or}
use Rattle.std.proofs.Common.{◌≡◌, ◌≢◌, ℕ, ◌+◌, ◌-◌, ◌≤◌, ◌<◌, Bool, cond, Option, Some, None, length, min, ap, inl, inr, arith, refl, sym, ◌∙◌, subst}
use Rattle.std.proofs.Common.{eq-eqb, pos, negsuc}
use Rattle.std.proofs.lemmas.Bool.{cases_lt, cases_eq, ne_eqb}
use Rattle.std.proofs.lemmas.Int.{ints}
use Rattle.lists.specs.Searches.{IsLeast, IsLeastTo}
use Rattle.curve.specs.declared.prefix.Stair.{Stair}
use Rattle.curve.specs.CurveValue.{Curve}
use Rattle.curve.specs.Curves.{alpha_of}
use Rattle.curve.specs.Validity.{IsCurve}
use Rattle.curve.specs.Stairs.{IsStair}
use Rattle.curve.proofs.CurveFacts.{alpha_mono, alpha_zero, alpha_bound}
use Rattle.task_sheet.specs.SheetParts.{SheetParts}
use Rattle.task_sheet.specs.Sheets.{task_at, IsValidSheet}
use Rattle.task_sheet.specs.Limits.{jitter_high}
use Rattle.policy.specs.declared.keys.Cap.{Cap}
use Rattle.policy.specs.declared.keys.Cap.TheVariants.{Nothing, At, All}
use Rattle.policy.specs.PolicyMeaning.{PolicyMeaning}
use Rattle.policy.specs.PolicyLaws.{IsLawfulPolicy, IsLimited}
use Rattle.policy.specs.Offsets.{cap_count, compared_of}
use Rattle.meter.specs.CapNumbers.{reach_of, reach_at}
use Rattle.meter.specs.Changes.{IsChange, IsCounted}
use Rattle.meter.proofs.CapFacts.{reach_mono}

pub reach_limited : (c : Cap) → IsLimited c → reach_of c ≤ 4000000000
reach_limited Nothing h = omega arith
reach_limited (At (pos n)) h = omega (arith, ints)
reach_limited (At (negsuc n)) h = omega arith
reach_limited All h = omega arith

count_reach : (curve : Curve) → IsCurve curve → (c : Cap) → cap_count curve c ≡ alpha_of curve (reach_of c)
count_reach curve ok Nothing = sym (alpha_zero curve ok)
count_reach curve ok (At c) = refl
count_reach curve ok All = sym (alpha_zero curve ok)

-- a number that grows with the offset, through a curve: it changes first where it reaches the stair's end
module _ (curve : Curve) (ok : IsCurve curve) (f : ℕ → ℕ) (mono : (a b : ℕ) → a ≤ b → f a ≤ f b) (a : ℕ) (s : Stair) (stair : IsStair curve s (f a)) where
  reached : (b : ℕ) → s.until ≤ f b → (a < b) × (alpha_of curve (f b) ≢ alpha_of curve (f a))
  reached b h =
      let here = stair.flat (f a) stair.begun stair.open_yet in
      let higher = alpha_mono curve ok s.until (f b) h in (
        elim (cases_lt a b) [ inl l ↦ l | inr g ↦ absurd (omega (arith, mono b a g, stair.open_yet)) ],
        λ e. absurd (omega (arith, e, here, higher, stair.higher)),
      )

  changed : (b : ℕ) → a < b → alpha_of curve (f b) ≢ alpha_of curve (f a) → s.until ≤ f b
  changed b l ne = elim (cases_lt (f b) s.until) [
    | inr h ↦ h
    | inl h ↦ absurd (ne (stair.flat (f b) (omega (arith, stair.begun, mono a b (omega arith))) h ∙ sym (stair.flat (f a) stair.begun stair.open_yet)))
  ]

module _ (p : PolicyMeaning) (sheet : SheetParts) (ok : IsValidSheet sheet) (lawful : IsLawfulPolicy p sheet) (i o : ℕ)
    (in_i : i < length sheet.tasks) (in_o : o < length sheet.tasks) where
  compared_reach : i ≢ o → (b : ℕ) → compared_of p sheet i b o ≡ alpha_of (task_at sheet o).curve (reach_at p sheet i o b)
  compared_reach ne b = ap (λ (w : Bool). cond w (alpha_of (task_at sheet i).curve (b + 1 + (task_at sheet i).jitter))
      (cap_count (task_at sheet o).curve (p.cap sheet i o b))) (ne_eqb o i (λ e. ne (sym e))) ∙
      count_reach (task_at sheet o).curve (ok.each o in_o).curve (p.cap sheet i o b)

  is_change : (ne : i ≢ o) (a : ℕ) (s : Stair) → IsStair (task_at sheet o).curve s (reach_at p sheet i o a) → (b : ℕ) →
      s.until ≤ reach_at p sheet i o b → IsChange p sheet i a o b
  is_change ne a s stair b h =
      let r = reached (task_at sheet o).curve (ok.each o in_o).curve (reach_at p sheet i o) (reach_mono p sheet lawful i o in_i in_o ne) a s stair b h in
      record { later = r.0; differs = λ e. r.1 (sym (compared_reach ne b) ∙ e ∙ compared_reach ne a) }

  has_reached : (ne : i ≢ o) (a : ℕ) (s : Stair) → IsStair (task_at sheet o).curve s (reach_at p sheet i o a) → (b : ℕ) →
      IsChange p sheet i a o b → s.until ≤ reach_at p sheet i o b
  has_reached ne a s stair b change = changed (task_at sheet o).curve (ok.each o in_o).curve (reach_at p sheet i o)
      (reach_mono p sheet lawful i o in_i in_o ne) a s stair b change.later (λ e. change.differs (compared_reach ne b ∙ e ∙ sym (compared_reach ne a)))

  other_change : (ne : i ≢ o) (a last : ℕ) (s : Stair) → IsStair (task_at sheet o).curve s (reach_at p sheet i o a) →
      (r : Option ℕ) → IsLeastTo (λ b. s.until ≤ reach_at p sheet i o b) last r → IsLeastTo (IsChange p sheet i a o) last r
  other_change ne a last s stair None none = λ k l change. none k l (has_reached ne a s stair k change)
  other_change ne a last s stair (Some n) least = (
    least.0,
    record {
      holds = is_change ne a s stair n least.1.holds;
      least = λ k change. least.1.least k (has_reached ne a s stair k change);
    },
  )

own_compared : (p : PolicyMeaning) (sheet : SheetParts) (i b : ℕ) →
    compared_of p sheet i b i ≡ alpha_of (task_at sheet i).curve (b + 1 + (task_at sheet i).jitter)
own_compared p sheet i b = ap (λ (w : Bool). cond w (alpha_of (task_at sheet i).curve (b + 1 + (task_at sheet i).jitter))
    (cap_count (task_at sheet i).curve (p.cap sheet i i b))) (eq-eqb i i refl)

own_change : (p : PolicyMeaning) (sheet : SheetParts) → IsValidSheet sheet → (i a : ℕ) → i < length sheet.tasks →
    (s : Stair) → IsStair (task_at sheet i).curve s (a + 1 + (task_at sheet i).jitter) →
    IsLeast (IsChange p sheet i a i) (s.until - 1 - (task_at sheet i).jitter)
own_change p sheet ok i a in_i s stair =
    let curve = (task_at sheet i).curve in
    let jitter = (task_at sheet i).jitter in
    let next = s.until - 1 - jitter in
    let valid = (ok.each i in_i).curve in
    let mono : (x y : ℕ) → x ≤ y → x + 1 + jitter ≤ y + 1 + jitter = λ x y h. omega arith in
    let r = reached curve valid (λ b. b + 1 + jitter) mono a s stair next (omega (arith, stair.open_yet)) in
    record {
      holds = record { later = r.0; differs = λ e. r.1 (sym (own_compared p sheet i next) ∙ e ∙ own_compared p sheet i a) };
      least = λ k change.
          let h : s.until ≤ k + 1 + jitter = changed curve valid (λ b. b + 1 + jitter) mono a s stair k change.later
          (λ e. change.differs (own_compared p sheet i k ∙ e ∙ sym (own_compared p sheet i a))) in
          omega arith;
    }

module _ (p : PolicyMeaning) (sheet : SheetParts) (i a o : ℕ) where
  -- up to the next change the number stays
  kept_before : (n : ℕ) → ((k : ℕ) → k < n → IsChange p sheet i a o k → ⊥) → (b : ℕ) → a ≤ b → b < n → compared_of p sheet i b o ≡ compared_of p sheet i a o
  kept_before n none b h l = elim (cases_eq (compared_of p sheet i b o) (compared_of p sheet i a o)) [
    | inl e ↦ e
    | inr ne ↦ elim (cases_lt a b) [
      | inl later ↦ absurd (none b l (record { later = later; differs = ne }))
      | inr same ↦ let e : b ≡ a = omega arith in ap (λ (w : ℕ). compared_of p sheet i w o) e
    ]
  ]

  counted_some : (n : ℕ) → IsLeast (IsChange p sheet i a o) n → IsCounted p sheet i a o (compared_of p sheet i a o) n
  counted_some n least = record {
    is = refl;
    later = least.holds.later;
    same = λ b h l m. kept_before n (λ k less change. let first : n ≤ k = least.least k change in absurd (omega arith)) b h l;
    differs = λ l. least.holds.differs;
  }

  counted_none : ((k : ℕ) → k ≤ 1000000000 → IsChange p sheet i a o k → ⊥) → a < 1000000000 → IsCounted p sheet i a o (compared_of p sheet i a o) 2000000000
  counted_none none less = record {
    is = refl;
    later = omega arith;
    same = λ b h l m. kept_before (b + 1) (λ k le. none k (omega arith)) b h (omega arith);
    differs = λ l. absurd (omega arith);
  }

  counted_by : a < 1000000000 → (r : Option ℕ) → IsLeastTo (IsChange p sheet i a o) 1000000000 r →
      IsCounted p sheet i a o (compared_of p sheet i a o) (unwrap_or r 2000000000)
  counted_by less None h = counted_none h less
  counted_by less (Some n) h = counted_some n h.1

  -- a change past them all may be cut
  counted_cut : a < 1000000000 → (count n : ℕ) → IsCounted p sheet i a o count n → IsCounted p sheet i a o count (min n 2000000000)
  counted_cut less count n counted = record {
    is = counted.is;
    later = omega (arith, counted.later);
    same = λ b h l m. counted.same b h (omega arith) m;
    differs = λ l.
        let e : n ≡ min n 2000000000 = omega arith in
        subst (λ (w : ℕ). compared_of p sheet i w o ≢ count) e (counted.differs (omega arith));
  }

pub least_high : (P : ℕ → Type 0) (r : Option ℕ) → IsLeastTo P 1000000000 r → unwrap_or r 2000000000 ≤ 2000000000
least_high P None h = omega arith
least_high P (Some n) h = omega (arith, h.0)

-- the value of the stair on which a task stands, and what follows its end
pub own_counted : (p : PolicyMeaning) (sheet : SheetParts) → IsValidSheet sheet → (i a : ℕ) → a < 1000000000 → i < length sheet.tasks →
    (s : Stair) → IsStair (task_at sheet i).curve s (a + 1 + (task_at sheet i).jitter) →
    (change : ℕ) → change ≡ min (s.until - 1 - (task_at sheet i).jitter) 2000000000 → IsCounted p sheet i a i s.value change
own_counted p sheet ok i a less in_i s stair change e =
    let value : compared_of p sheet i a i ≡ s.value = own_compared p sheet i a ∙ stair.flat (a + 1 + (task_at sheet i).jitter) stair.begun stair.open_yet in
    subst (λ (w : ℕ). IsCounted p sheet i a i w change) value
    (subst (IsCounted p sheet i a i (compared_of p sheet i a i)) (sym e)
    (counted_cut p sheet i a i less _ (s.until - 1 - (task_at sheet i).jitter)
    (counted_some p sheet i a i (s.until - 1 - (task_at sheet i).jitter) (own_change p sheet ok i a in_i s stair))))

pub other_counted : (p : PolicyMeaning) (sheet : SheetParts) → IsValidSheet sheet → IsLawfulPolicy p sheet → (i o : ℕ) →
    i < length sheet.tasks → o < length sheet.tasks → i ≢ o → (a : ℕ) → a < 1000000000 →
    (s : Stair) → IsStair (task_at sheet o).curve s (reach_at p sheet i o a) →
    (r : Option ℕ) → IsLeastTo (λ b. s.until ≤ reach_at p sheet i o b) 1000000000 r →
    (change : ℕ) → change ≡ unwrap_or r 2000000000 → IsCounted p sheet i a o s.value change
other_counted p sheet ok lawful i o in_i in_o ne a less s stair r least change e =
    let value : compared_of p sheet i a o ≡ s.value =
    compared_reach p sheet ok lawful i o in_i in_o ne a ∙ stair.flat (reach_at p sheet i o a) stair.begun stair.open_yet in
    subst (λ (w : ℕ). IsCounted p sheet i a o w change) value
    (subst (IsCounted p sheet i a o (compared_of p sheet i a o)) (sym e)
    (counted_by p sheet i a o less r (other_change p sheet ok lawful i o in_i in_o ne a 1000000000 s stair r least)))

-- no number is greater than the limits let it
compared_high : (p : PolicyMeaning) (sheet : SheetParts) → IsValidSheet sheet → IsLawfulPolicy p sheet → (i a o : ℕ) →
    i < length sheet.tasks → o < length sheet.tasks → a < 1000000000 → compared_of p sheet i a o ≤ 5000000000000000
compared_high p sheet ok lawful i a o in_i in_o less = elim (cases_eq i o) [
  | inl e ↦ subst (λ w. compared_of p sheet i a w ≤ 5000000000000000) e
      (omega (
        arith,
        own_compared p sheet i a,
        alpha_bound (task_at sheet i).curve (ok.each i in_i).curve
            (a + 1 + (task_at sheet i).jitter),
        jitter_high (task_at sheet i) (ok.each i in_i),
      ))
  | inr ne ↦ omega (
    arith,
    compared_reach p sheet ok lawful i o in_i in_o ne a,
    alpha_bound (task_at sheet o).curve (ok.each o in_o).curve (reach_at p sheet i o a),
    reach_limited (p.cap sheet i o a) (lawful.cap_limited i o a in_i in_o ne less),
  )
]

pub counted_high : (p : PolicyMeaning) (sheet : SheetParts) → IsValidSheet sheet → IsLawfulPolicy p sheet → (i a o count change : ℕ) →
    i < length sheet.tasks → o < length sheet.tasks → a < 1000000000 → IsCounted p sheet i a o count change → count ≤ 5000000000000000
counted_high p sheet ok lawful i a o count change in_i in_o less counted =
    omega (arith, counted.is, compared_high p sheet ok lawful i a o in_i in_o less)
