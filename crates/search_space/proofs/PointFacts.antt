use Rattle.std.proofs.Common.{◌≡◌, ℕ, zero, suc, ◌+◌, ◌-◌, ◌<◌, ◌≤◌, ◌≢◌, ◌==◌, Bool, true, false, cond, length, Some, None, refl, sym, ◌∙◌, ap}
use Rattle.std.proofs.Common.{subst, inl, inr, arith, eq-eqb, not, ◌||◌}
use Rattle.std.proofs.lemmas.Bool.{cases_Bool, cases_eq, both_ways, ne_eqb, eqb-true}
use Rattle.lists.proofs.FirstFacts.{all_parts, all_from}
use Rattle.curve.specs.CurveValue.{Curve}
use Rattle.curve.specs.Validity.{IsCurve}
use Rattle.curve.specs.Curves.{alpha_of}
use Rattle.curve.proofs.CurveFacts.{alpha_mono}
use Rattle.task_sheet.specs.SheetParts.{SheetParts}
use Rattle.task_sheet.specs.Sheets.{task_at, IsValidSheet}
use Rattle.task_sheet.proofs.RuleFacts.{or_parts}
use Rattle.policy.specs.declared.keys.Cap.{Cap}
use Rattle.policy.specs.declared.keys.Cap.TheVariants.{Nothing, At, All}
use Rattle.policy.specs.Keys.{not_below_zero}
use Rattle.policy.specs.PolicyMeaning.{PolicyMeaning}
use Rattle.policy.specs.PolicyLaws.{IsLawfulPolicy, GrowsTo}
use Rattle.policy.proofs.KeyFacts.{floor_mono}
use Rattle.policy.specs.Offsets.{cap_count, compared_of, IsSame}
use Rattle.lists.specs.Searches.{IsFirstBelow}
use Rattle.search_space.specs.PointLaws.{AcrossGap}
use Rattle.search_space.specs.Points.{same_at, is_point, IsAround, IsPointAfter}

-- a cap that grows admits no fewer
pub count_grows : (curve : Curve) → IsCurve curve → (from to : Cap) → GrowsTo from to → cap_count curve from ≤ cap_count curve to
count_grows curve ok Nothing Nothing h = omega arith
count_grows curve ok Nothing (At d) h = absurd h
count_grows curve ok Nothing All h = absurd h
count_grows curve ok (At c) Nothing h = absurd h
count_grows curve ok (At c) (At d) h = alpha_mono curve ok (not_below_zero c) (not_below_zero d) (floor_mono c d h)
count_grows curve ok (At c) All h = absurd h
count_grows curve ok All Nothing h = absurd h
count_grows curve ok All (At d) h = absurd h
count_grows curve ok All All h = omega arith

-- the test and the fact
pub same_means : (p : PolicyMeaning) (sheet : SheetParts) (i a b : ℕ) → same_at p sheet i a b ≡ true → IsSame p sheet i a b
same_means p sheet i a b h o l = eqb-true _ _ (all_parts (λ o. compared_of p sheet i a o == compared_of p sheet i b o) (length sheet.tasks) o h l)

pub same_true : (p : PolicyMeaning) (sheet : SheetParts) (i a b : ℕ) → IsSame p sheet i a b → same_at p sheet i a b ≡ true
same_true p sheet i a b h = all_from (λ o. compared_of p sheet i a o == compared_of p sheet i b o) (length sheet.tasks) (λ o l. eq-eqb _ _ (h o l))

not_point : (b : Bool) → not b ≡ false → b ≡ true
not_point true h = refl
not_point false h = cc

-- an offset that is no point is the same as the one before
pub same_before : (p : PolicyMeaning) (sheet : SheetParts) (i a : ℕ) → is_point p sheet i a ≡ false → IsSame p sheet i (a - 1) a
unfolding is_point
same_before p sheet i a h = same_means p sheet i (a - 1) a (not_point _ (or_parts _ _ h).1)

pub same_along : (p : PolicyMeaning) (sheet : SheetParts) (i a n : ℕ) →
    ((k : ℕ) → a < k → k ≤ a + n → is_point p sheet i k ≡ false) → IsSame p sheet i a (a + n)
same_along p sheet i a zero h =
    let e : a ≡ a + 0 = omega arith in
    subst (IsSame p sheet i a) e (λ o l. refl)
same_along p sheet i a (suc n) h =
    let e : suc (a + n) ≡ a + suc n = omega arith in
    let d : suc (a + n) - 1 ≡ a + n = omega arith in
    let before = same_along p sheet i a n (λ k m l. h k m (omega arith)) in
    let step = subst (λ w. IsSame p sheet i w (suc (a + n))) d (same_before p sheet i (suc (a + n)) (h (suc (a + n)) (omega arith) (omega arith))) in
    subst (IsSame p sheet i a) e (λ o l. before o l ∙ step o l)

pub between : (p : PolicyMeaning) (sheet : SheetParts) (i a b : ℕ) → a ≤ b → ((n : ℕ) → a < n → n ≤ b → is_point p sheet i n ≡ false) → IsSame p sheet i a b
between p sheet i a b h none =
    let e : a + (b - a) ≡ b = omega arith in
    subst (IsSame p sheet i a) e (same_along p sheet i a (b - a) (λ k l m. none k l (omega arith)))

module _ (p : PolicyMeaning) (sheet : SheetParts) (ok : IsValidSheet sheet) (lawful : IsLawfulPolicy p sheet) (i : ℕ) (in_range : i < length sheet.tasks) where
  own_number : (a : ℕ) → compared_of p sheet i a i ≡ alpha_of (task_at sheet i).curve (a + 1 + (task_at sheet i).jitter)
  own_number a = ap (λ (b : Bool). cond b (alpha_of (task_at sheet i).curve (a + 1 + (task_at sheet i).jitter))
      (cap_count (task_at sheet i).curve (p.cap sheet i i a))) (eq-eqb i i refl)

  other_number : (a o : ℕ) → o ≢ i → compared_of p sheet i a o ≡ cap_count (task_at sheet o).curve (p.cap sheet i o a)
  other_number a o ne = ap (λ (b : Bool). cond b (alpha_of (task_at sheet i).curve (a + 1 + (task_at sheet i).jitter))
      (cap_count (task_at sheet o).curve (p.cap sheet i o a))) (ne_eqb o i ne)

  -- the numbers never fall
  pub compared_grows : (a b o : ℕ) → o < length sheet.tasks → a ≤ b → compared_of p sheet i a o ≤ compared_of p sheet i b o
  compared_grows a b o l h = elim (cases_eq o i) [
    | inl e ↦ subst (λ w. compared_of p sheet i a w ≤ compared_of p sheet i b w) (sym e)
        (omega (
          arith,
          own_number a,
          own_number b,
          alpha_mono (task_at sheet i).curve (ok.each i in_range).curve
              (a + 1 + (task_at sheet i).jitter) (b + 1 + (task_at sheet i).jitter) (omega arith),
        ))
    | inr ne ↦ omega (
      arith,
      other_number a o ne,
      other_number b o ne,
      count_grows (task_at sheet o).curve (ok.each o l).curve
          (p.cap sheet i o a) (p.cap sheet i o b) (lawful.cap_grows i o a b in_range l (λ e. ne (sym e)) h),
    )
  ]

  pub across : (from at to : ℕ) → from ≤ at → at < to → IsSame p sheet i from (to - 1) → IsSame p sheet i from at
  across from at to h l same o b = omega (arith, compared_grows from at o b h, compared_grows at (to - 1) o b (omega arith), same o b)

-- an offset that is the same as the one before is no point
is_no_point : (p : PolicyMeaning) (sheet : SheetParts) (i n : ℕ) → 0 < n → IsSame p sheet i (n - 1) n → is_point p sheet i n ≡ false
unfolding is_point
is_no_point p sheet i n some same =
    let first : (n == 0) ≡ false = ne_eqb n 0 (λ e. omega (arith, e)) in
    rw (first, same_true p sheet i (n - 1) n same) refl

-- the offset after one that is the same as a, where it is told apart from a, is a point
point_here : (p : PolicyMeaning) (sheet : SheetParts) (i a n : ℕ) → IsSame p sheet i a (n - 1) → same_at p sheet i a n ≡ false → is_point p sheet i n ≡ true
point_here p sheet i a n same other = elim (cases_Bool (is_point p sheet i n)) [
  | inl t ↦ t
  | inr f ↦
      let step = same_before p sheet i n f in
      absurd (both_ways (same_at p sheet i a n) other (same_true p sheet i a n (λ o l. same o l ∙ step o l)))
]

module _ (p : PolicyMeaning) (sheet : SheetParts) (gap : AcrossGap p) (ok : IsValidSheet sheet) (i : ℕ) (in_range : i < length sheet.tasks) (a : ℕ) where
  -- up to an offset that is the same as a there is no point after a
  no_point_to : (low k : ℕ) → IsSame p sheet i a low → k ≤ low → IsPointAfter p sheet i a k → ⊥
  no_point_to low k same le point =
      let end : low ≡ low + 1 - 1 = omega arith in
      let to = subst (λ w. IsSame p sheet i a w) end same in
      let before = gap sheet ok i a (k - 1) (low + 1) in_range (omega (arith, point.later)) (omega arith) to in
      let here = gap sheet ok i a k (low + 1) in_range (omega (arith, point.later)) (omega arith) to in
      both_ways (is_point p sheet i k) (is_no_point p sheet i k (omega (arith, point.later)) (λ o l. sym (before o l) ∙ here o l)) point.point

  pub first_after : (below n : ℕ) → IsAround p sheet i a below (n - 1) n → n < below → IsFirstBelow (IsPointAfter p sheet i a) below (Some n)
  first_after below n around lt =
      let same = same_means p sheet i a (n - 1) around.same in (
        lt,
        record {
          later = omega (arith, around.after, around.order);
          point =
              elim around.other [ inl e ↦ absurd (omega (arith, e)) | inr e ↦ point_here p sheet i a n same e ];
        },
        λ k l. no_point_to (n - 1) k same (omega arith),
      )

  pub none_after : (below n : ℕ) → IsAround p sheet i a below (n - 1) n → below ≤ n → IsFirstBelow (IsPointAfter p sheet i a) below None
  none_after below n around le k l = no_point_to (n - 1) k (same_means p sheet i a (n - 1) around.same) (omega arith)
