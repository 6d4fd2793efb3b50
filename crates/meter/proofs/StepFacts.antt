-- One task at another place.
use Rattle.std.proofs.Common.{◌≡◌, ◌≢◌, ℕ, ◌+◌, ◌<◌, List, length, set, replicate, ap, arith, refl, sym, ◌∙◌, subst}
use Rattle.std.proofs.lemmas.List.{length-set, get_or-set_same, get_or-set_other, length-replicate, get_or-replicate}
use Rattle.lists.specs.Sums.{sum_below}
use Rattle.curve.specs.CurveValue.{Curve}
use Rattle.curve.specs.Curves.{alpha_of}
use Rattle.curve.specs.Validity.{IsCurve}
use Rattle.curve.specs.Stairs.{IsStair}
use Rattle.curve.proofs.CurveFacts.{alpha_zero, alpha_one}
use Rattle.task_sheet.specs.SheetParts.{SheetParts}
use Rattle.task_sheet.specs.Sheets.{task_at, IsValidSheet}
use Rattle.policy.specs.PolicyMeaning.{PolicyMeaning}
use Rattle.meter.specs.declared.tracks.Place.{Place}
use Rattle.meter.specs.declared.tracks.Tracks.{Tracks}
use Rattle.meter.specs.Soonests.{number_of}
use Rattle.meter.specs.Changes.{IsCounted}
use Rattle.meter.specs.Places.{no_place, place_of, kind_of, until_by, part_of, asked_of, IsNear}
use Rattle.meter.specs.Tracking.{IsKeyed, IsTrackingAt, IsEnded, IsMovedOnly, IsStood, IsEndMoved, IsReady, IsSeated, IsSettled}
use Rattle.meter.proofs.MoveFacts.{other_now, each_now}

-- task o was put at a place, which is that of the end x
record IsPut (p : PolicyMeaning) (sheet : SheetParts) (i x o : ℕ) (place : Place) (t new : Tracks) : Type 0 where
  is : place_of new.places.items o ≡ place
  keyed : IsKeyed (task_at sheet o) (kind_of p sheet i o) (place_of new.places.items o) (number_of new.untils o)
  ended : IsEnded (task_at sheet o) x (place_of new.places.items o) (number_of new.untils o)
  others : IsMovedOnly o t new
  count : length new.places.items ≡ length t.places.items
  full : length new.untils ≡ length t.untils

is_put : (p : PolicyMeaning) (sheet : SheetParts) (i x o until : ℕ) (place : Place) → IsKeyed (task_at sheet o) (kind_of p sheet i o) place until →
    IsEnded (task_at sheet o) x place until → (t new : Tracks) → o < length t.places.items → o < length t.untils →
    new.places.items ≡ set t.places.items o place → new.untils ≡ set t.untils o until → IsPut p sheet i x o place t new
is_put p sheet i x o until place keyed ended t new in_places in_untils ep eu =
    let is : place_of new.places.items o ≡ place =
    ap (λ (ps : List Place). place_of ps o) ep ∙ get_or-set_same t.places.items o place no_place in_places in
    let until_is : number_of new.untils o ≡ until = ap (λ (us : List ℕ). number_of us o) eu ∙ get_or-set_same t.untils o until 0 in_untils in
    let there : (P : Place → ℕ → Type 0) → P place until → P (place_of new.places.items o) (number_of new.untils o) =
    λ P h. subst (λ (s : Place). P s (number_of new.untils o)) (sym is) (subst (P place) (sym until_is) h) in
    record {
      is = is;
      keyed = there (IsKeyed (task_at sheet o) (kind_of p sheet i o)) keyed;
      ended = there (IsEnded (task_at sheet o) x) ended;
      others = record {
        places = λ k ne. ap (λ (ps : List Place). place_of ps k) ep ∙ get_or-set_other t.places.items o k place no_place ne;
        untils = λ k ne. ap (λ (us : List ℕ). number_of us k) eu ∙ get_or-set_other t.untils o k until 0 ne;
      };
      count = ap (λ (ps : List Place). length ps) ep ∙ length-set t.places.items o place;
      full = ap (λ (us : List ℕ). length us) eu ∙ length-set t.untils o until;
    }

-- by the end that the place tells
put_there : (p : PolicyMeaning) (sheet : SheetParts) (i x o : ℕ) (place : Place) → IsNear (task_at sheet o) place →
    IsEnded (task_at sheet o) x place (until_by (kind_of p sheet i o) place (task_at sheet o).jitter) → (t new : Tracks) →
    o < length t.places.items → o < length t.untils → new.places.items ≡ set t.places.items o place →
    new.untils ≡ set t.untils o (until_by (kind_of p sheet i o) place (task_at sheet o).jitter) → IsPut p sheet i x o place t new
put_there p sheet i x o place near ended t new in_places in_untils ep eu =
    is_put p sheet i x o (until_by (kind_of p sheet i o) place (task_at sheet o).jitter) place (record { near = near; until_is = refl }) ended t new
    in_places in_untils ep eu

pub stood : (p : PolicyMeaning) (sheet : SheetParts) (i x o : ℕ) → o < length sheet.tasks → (place : Place) → IsNear (task_at sheet o) place →
    IsEnded (task_at sheet o) x place (until_by (kind_of p sheet i o) place (task_at sheet o).jitter) → (t new : Tracks) →
    IsTrackingAt p sheet i t → new.places.items ≡ set t.places.items o place →
    new.untils ≡ set t.untils o (until_by (kind_of p sheet i o) place (task_at sheet o).jitter) → new.changes ≡ t.changes →
    new.sum ≡ sum_below (asked_of p sheet i new.places.items) (length sheet.tasks) → IsStood p sheet i x o place.count t new
stood p sheet i x o b place near ended t new tracking ep eu ec es =
    let put = put_there p sheet i x o place near ended t new (omega (arith, tracking.count)) (omega (arith, tracking.full)) ep eu in
    record {
      tracking = record {
        count = put.count ∙ tracking.count;
        full = put.full ∙ tracking.full;
        each = λ k l. each_now (λ k place until. IsKeyed (task_at sheet k) (kind_of p sheet i k) place until) o k t new put.others put.keyed
            (λ ne. tracking.each k l);
        sum_is = es;
      };
      ended = put.ended;
      count_is = ap (λ (s : Place). s.count) put.is;
      others = put.others;
      changes = ec;
    }

-- task o, which stands at the end x
pub end_stays : (p : PolicyMeaning) (sheet : SheetParts) (i x o : ℕ) (t : Tracks) → IsTrackingAt p sheet i t →
    IsEnded (task_at sheet o) x (place_of t.places.items o) (number_of t.untils o) → IsEndMoved p sheet i x o t t
end_stays p sheet i x o t tracking ended = record {
  tracking = tracking;
  ended = ended;
  count_is = refl;
  others = record { places = λ k ne. refl; untils = λ k ne. refl };
  changes = refl;
}

-- task o, seated at offset 0 and end 0
pub settled : (p : PolicyMeaning) (sheet : SheetParts) (i o : ℕ) → o < length sheet.tasks → (place : Place) → IsNear (task_at sheet o) place →
    IsEnded (task_at sheet o) 0 place (until_by (kind_of p sheet i o) place (task_at sheet o).jitter) →
    (change : ℕ) → IsCounted p sheet i 0 o place.count change → (t new : Tracks) → IsReady sheet t → new.places.items ≡ set t.places.items o place →
    new.untils ≡ set t.untils o (until_by (kind_of p sheet i o) place (task_at sheet o).jitter) →
    new.changes ≡ set t.changes o change → new.sum ≡ t.sum + part_of p sheet i o place → IsSettled p sheet i o t new
settled p sheet i o b place near ended change counted t new ready ep eu ec es =
    let put = put_there p sheet i 0 o place near ended t new (omega (arith, ready.near.count)) (omega (arith, ready.full)) ep eu in
    let here : number_of new.changes o ≡ change = ap (λ (ns : List ℕ). number_of ns o) ec ∙ get_or-set_same t.changes o change 0 (omega (arith, ready.changes)) in
    let same : (k : ℕ) → k ≢ o → number_of new.changes k ≡ number_of t.changes k =
    λ k ne. ap (λ (ns : List ℕ). number_of ns k) ec ∙ get_or-set_other t.changes o k change 0 ne in
    record {
      ready = record {
        near = record {
          count = put.count ∙ ready.near.count;
          each = λ k l. each_now (λ k place until. IsNear (task_at sheet k) place) o k t new put.others put.keyed.near (λ ne. ready.near.each k l);
        };
        full = put.full ∙ ready.full;
        changes = ap (λ (ns : List ℕ). length ns) ec ∙ length-set t.changes o change ∙ ready.changes;
      };
      at = record {
        keyed = put.keyed;
        ended = put.ended;
        counted = subst (λ w. IsCounted p sheet i 0 o w (number_of new.changes o)) (ap (λ (s : Place). s.count) (sym put.is))
            (subst (IsCounted p sheet i 0 o place.count) (sym here) counted);
      };
      others = λ k ne h. other_now (λ s until. IsSeated p sheet i 0 0 k s until (number_of new.changes k)) o k t new put.others ne
          (subst (IsSeated p sheet i 0 0 k (place_of t.places.items k) (number_of t.untils k)) (sym (same k ne)) h);
      places = put.others.places;
      sum_is = es ∙ ap (λ (s : Place). t.sum + part_of p sheet i o s) (sym put.is);
    }

ground_of : (c : Curve) → IsCurve c → IsStair c (record { value = 0; from = 0; until = 1; come = 0 }) 0
ground_of c ok = record {
  begun = omega arith;
  open_yet = omega arith;
  flat = λ y low high. let e : y ≡ 0 = omega arith in ap (alpha_of c) e ∙ alpha_zero c ok;
  higher = alpha_one c ok 1 (omega arith);
}

-- all on the ground
pub ready_ground : (sheet : SheetParts) → IsValidSheet sheet → (t : Tracks) →
    t.places.items ≡ replicate (length sheet.tasks) (record { end = record { value = 0; from = 0; until = 1; come = 0 }; count = 0 }) →
    t.untils ≡ replicate (length sheet.tasks) 0 → t.changes ≡ replicate (length sheet.tasks) 0 → IsReady sheet t
ready_ground sheet ok t e f h =
    let n = length sheet.tasks in
    let ground : Place = record { end = record { value = 0; from = 0; until = 1; come = 0 }; count = 0 } in
    let at : (o : ℕ) → o < n → place_of t.places.items o ≡ ground = λ o b. ap (λ (ps : List Place). place_of ps o) e ∙ get_or-replicate n o ground no_place b in
    record {
      near = record {
        count = ap (λ (ps : List Place). length ps) e ∙ length-replicate n ground;
        each = λ o b. subst (IsNear (task_at sheet o)) (sym (at o b))
            (record { at = 0; near = omega arith; stair = ground_of (task_at sheet o).curve (ok.each o b).curve; count_high = omega arith });
      };
      full = ap (λ (us : List ℕ). length us) f ∙ length-replicate {A = ℕ} n 0;
      changes = ap (λ (ns : List ℕ). length ns) h ∙ length-replicate {A = ℕ} n 0;
    }
