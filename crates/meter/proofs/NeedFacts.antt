use Rattle.std.proofs.Common.{◌≡◌, ◌≢◌, ℕ, ◌+◌, ◌-◌, ◌*◌, ◌≤◌, ◌<◌, Bool, cond, List, length, min, ap, inl, inr, arith, refl, sym, ◌∙◌, subst, eq-eqb}
use Rattle.std.proofs.lemmas.Bool.{ne_eqb, cases_lt}
use Rattle.curve.specs.CurveValue.{Curve}
use Rattle.curve.specs.Curves.{alpha_of}
use Rattle.curve.specs.Validity.{IsCurve}
use Rattle.curve.proofs.CurveFacts.{alpha_mono}
use Rattle.task_sheet.specs.SheetParts.{SheetParts}
use Rattle.task_sheet.specs.Sheets.{task_at, IsValidSheet}
use Rattle.policy.specs.declared.keys.Cap.{Cap}
use Rattle.policy.specs.declared.keys.Cap.TheVariants.{Nothing, At, All}
use Rattle.policy.specs.Keys.{not_below_zero}
use Rattle.policy.specs.Offsets.{cap_count}
use Rattle.policy.specs.PolicyMeaning.{PolicyMeaning}
use Rattle.policy.specs.PolicyLaws.{IsLawfulPolicy, GrowsTo}
use Rattle.preemption.specs.CutMeaning.{CutMeaning}
use Rattle.demand.specs.Demand.{capped_count, rest_of, own_of, other_of, others_of, blocking_of, need_of}
use Rattle.demand.proofs.DemandFacts.{rest_fits}
use Rattle.meter.specs.declared.tracks.Place.{Place}
use Rattle.meter.specs.declared.tracks.Tracks.{Tracks}
use Rattle.meter.specs.Places.{place_of, kind_of, counted_by, counted_of, asked_of}
use Rattle.meter.specs.Tracking.{AreSeated}
use Rattle.meter.proofs.PlaceFacts.{sum_changed}
use Rattle.meter.proofs.EndFacts.{counted_right}

-- of the jobs up to two lengths, those up to the smaller
count_min : (curve : Curve) → IsCurve curve → (x y : ℕ) → min (alpha_of curve x) (alpha_of curve y) ≡ alpha_of curve (min x y)
count_min curve ok x y = elim (cases_lt x y) [
  | inl less ↦
      let e : min x y ≡ x = omega arith in
      omega (arith, ap (alpha_of curve) e, alpha_mono curve ok x y (omega arith))
  | inr more ↦
      let e : min x y ≡ y = omega arith in
      omega (arith, ap (alpha_of curve) e, alpha_mono curve ok y x more)
]

-- by the kind of an earlier cap
counted_is : (curve : Curve) → IsCurve curve → (jitter x count : ℕ) (c d : Cap) → GrowsTo c d → count ≡ cap_count curve d →
    counted_by c (alpha_of curve (x + jitter)) count ≡ capped_count curve jitter d x
counted_is curve ok jitter x count Nothing Nothing h e = refl
counted_is curve ok jitter x count All All h e = refl
counted_is curve ok jitter x count (At c) (At d) h e = omega (arith, e, count_min curve ok (x + jitter) (not_below_zero d))
counted_is curve ok jitter x count Nothing (At d) h e = absurd h
counted_is curve ok jitter x count Nothing All h e = absurd h
counted_is curve ok jitter x count (At c) Nothing h e = absurd h
counted_is curve ok jitter x count (At c) All h e = absurd h
counted_is curve ok jitter x count All Nothing h e = absurd h
counted_is curve ok jitter x count All (At d) h e = absurd h

module _ (p : PolicyMeaning) (m : CutMeaning) (sheet : SheetParts) (ok : IsValidSheet sheet) (lawful : IsLawfulPolicy p sheet)
    (i a x : ℕ) (in_i : i < length sheet.tasks) (t : Tracks) (is : AreSeated p sheet i a x t) where
  abbrev places : List Place
  places = t.places.items

  abbrev own : ℕ
  own = (task_at sheet i).cost * alpha_of (task_at sheet i).curve (a + 1 + (task_at sheet i).jitter)

  own_asked : asked_of p sheet i places i ≡ own
  own_asked =
      let place = place_of places i in
      let cost = (task_at sheet i).cost in
      let counted = is.counted.each i in_i in
      let count = counted.is ∙ ap (λ (b : Bool). cond b (alpha_of (task_at sheet i).curve (a + 1 + (task_at sheet i).jitter))
      (cap_count (task_at sheet i).curve (p.cap sheet i i a))) (eq-eqb i i refl) in
      ap (λ (b : Bool). cost * cond b place.count (counted_of (kind_of p sheet i i) place)) (eq-eqb i i refl) ∙ ap (λ (w : ℕ). cost * w) count

  other_asked : (o : ℕ) → o < length sheet.tasks → o ≢ i → other_of p sheet i a x o ≡ asked_of p sheet i places o
  other_asked o b ne =
      let task = task_at sheet o in
      let curve = task.curve in
      let place = place_of places o in
      let keyed = is.tracking.each o b in
      let ended = is.ended o b in
      let until = subst (λ w. x < w) keyed.until_is ended.open_yet in
      let right = counted_right curve (ok.each o b).curve (kind_of p sheet i o) place keyed.near.at keyed.near.stair task.jitter x ended.begun until in
      let kind : kind_of p sheet i o ≡ p.cap sheet i o 0 = ap (λ (w : Bool). cond w Nothing (p.cap sheet i o 0)) (ne_eqb o i ne) in
      let counted = is.counted.each o b in
      let count = counted.is ∙ ap (λ (b : Bool). cond b (alpha_of (task_at sheet i).curve (a + 1 + (task_at sheet i).jitter))
      (cap_count curve (p.cap sheet i o a))) (ne_eqb o i ne) in
      let same = right ∙ ap (λ (c : Cap). counted_by c (alpha_of curve (x + task.jitter)) place.count) kind ∙
      counted_is curve (ok.each o b).curve task.jitter x place.count (p.cap sheet i o 0) (p.cap sheet i o a)
      (lawful.cap_grows i o 0 a in_i b (λ e. ne (sym e)) (omega arith)) count in
      ap (λ (w : Bool). cond w 0 (task.cost * capped_count curve task.jitter (p.cap sheet i o a) x)) (ne_eqb o i ne)
      ∙ sym (ap (λ (w : Bool). task.cost * cond w place.count (counted_of (kind_of p sheet i o) place)) (ne_eqb o i ne) ∙ ap (λ (w : ℕ). task.cost * w) same)

  whole_is : t.sum ≡ own + others_of p sheet i a x
  unfolding others_of
  whole_is = omega (
    arith,
    sum_changed (asked_of p sheet i places) (other_of p sheet i a x) (length sheet.tasks) i in_i other_asked,
    ap (λ (w : Bool). cond w 0 ((task_at sheet i).cost * capped_count (task_at sheet i).curve (task_at sheet i).jitter
        (p.cap sheet i i a) x)) (eq-eqb i i refl),
    own_asked,
    is.tracking.sum_is,
  )

  rest_low : rest_of m sheet i ≤ own
  rest_low = rest_fits m (task_at sheet i) (a + 1 + (task_at sheet i).jitter) (ok.each i in_i).curve (omega arith)

  pub rest_le : rest_of m sheet i ≤ t.sum
  rest_le = omega (arith, whole_is, rest_low)

  pub need_is : (b : ℕ) → b ≡ blocking_of p m sheet i a → b + (t.sum - rest_of m sheet i) ≡ need_of p m sheet i a x
  unfolding need_of own_of
  need_is b e = omega (arith, e, whole_is, rest_low)
