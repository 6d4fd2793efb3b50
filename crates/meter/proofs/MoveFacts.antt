use Rattle.std.proofs.Common.{◌≡◌, ◌≢◌, ℕ, ◌+◌, ◌*◌, ◌^◌, ◌≤◌, ◌<◌, List, length, ap, inl, inr, arith, refl, sym, ◌∙◌, subst, add-one}
use Rattle.std.proofs.lemmas.Bool.{cases_eq}
use Rattle.lists.specs.Sums.{sum_below}
use Rattle.lists.proofs.SumFacts.{sum_same}
use Rattle.task_sheet.specs.SheetParts.{SheetParts}
use Rattle.task_sheet.specs.Sheets.{task_at}
use Rattle.policy.specs.PolicyMeaning.{PolicyMeaning}
use Rattle.meter.specs.declared.tracks.Place.{Place}
use Rattle.meter.specs.declared.tracks.Tracks.{Tracks}
use Rattle.meter.specs.Soonests.{number_of, IsLeastNumber, left_to}
use Rattle.meter.specs.Changes.{IsCounted}
use Rattle.meter.specs.Places.{place_of, part_of, asked_of, AreNear}
use Rattle.meter.specs.Tracking.{IsTracking, IsTrackingAt, HasBegun, IsEnded, AreEnded, AreCounted, IsCountedAt, KeepCounts, IsMovedOnly}
use Rattle.meter.specs.Tracking.{IsEndMoved, IsRecounted, AreMoved, IsReady, IsSeatedAt, IsSettled, AreSeated}
use Rattle.meter.proofs.SoonestFacts.{fewer_left}

pub near_of : (p : PolicyMeaning) (sheet : SheetParts) (i : ℕ) (places : List Place) (untils : List ℕ) (sum : ℕ) →
    IsTracking p sheet i places untils sum → AreNear sheet places
near_of p sheet i places untils sum tracking = record { count = tracking.count; each = λ o b. (tracking.each o b).near }

-- what held of another task than o
pub other_now : (P : Place → ℕ → Type 0) (o k : ℕ) (t new : Tracks) → IsMovedOnly o t new → k ≢ o →
    P (place_of t.places.items k) (number_of t.untils k) → P (place_of new.places.items k) (number_of new.untils k)
other_now P o k t new others ne h =
    subst (λ (s : Place). P s (number_of new.untils k)) (sym (others.places k ne))
    (subst (P (place_of t.places.items k)) (sym (others.untils k ne)) h)

-- what holds of task o, and held of the others, holds of each
pub each_now : (P : ℕ → Place → ℕ → Type 0) (o k : ℕ) (t new : Tracks) → IsMovedOnly o t new →
    P o (place_of new.places.items o) (number_of new.untils o) →
    (k ≢ o → P k (place_of t.places.items k) (number_of t.untils k)) → P k (place_of new.places.items k) (number_of new.untils k)
each_now P o k t new others here old = elim (cases_eq k o) [
  | inl e ↦ subst (λ w. P w (place_of new.places.items w) (number_of new.untils w)) (sym e) here
  | inr ne ↦ other_now (P k) o k t new others ne (old ne)
]

-- tasks were moved in turn, since before
pub record IsMoving (p : PolicyMeaning) (sheet : SheetParts) (i : ℕ) (before t : Tracks) : Type 0 where
  pub tracking : IsTrackingAt p sheet i t
  pub counts : KeepCounts before.places.items t.places.items
  pub changes : t.changes ≡ before.changes

pub moved_one : (p : PolicyMeaning) (sheet : SheetParts) (i x o : ℕ) (before t new : Tracks) → IsMoving p sheet i before t →
    IsEndMoved p sheet i x o t new → IsMoving p sheet i before new
moved_one p sheet i x o before t new moving step = record {
  tracking = step.tracking;
  counts = λ k. each_now (λ k place until. place.count ≡ (place_of t.places.items k).count) o k t new step.others step.count_is (λ ne. refl)
      ∙ moving.counts k;
  changes = step.changes ∙ moving.changes;
}

-- no task leaves its place by x, and the stairs of those below o have begun
pub record IsFalling (p : PolicyMeaning) (sheet : SheetParts) (i x o : ℕ) (before t : Tracks) : Type 0 where
  pub within : o ≤ length sheet.tasks
  pub moving : IsMoving p sheet i before t
  pub still : (k : ℕ) → k < length sheet.tasks → x < number_of t.untils k
  pub begun : (k : ℕ) → k < o → HasBegun (task_at sheet k) x (place_of t.places.items k)

-- no stair begins after x
pub record IsRising (p : PolicyMeaning) (sheet : SheetParts) (i x : ℕ) (before t : Tracks) : Type 0 where
  pub moving : IsMoving p sheet i before t
  pub begun : (k : ℕ) → k < length sheet.tasks → HasBegun (task_at sheet k) x (place_of t.places.items k)

module _ (p : PolicyMeaning) (sheet : SheetParts) (i x : ℕ) where
  unmoved : (t : Tracks) → IsTrackingAt p sheet i t → IsMoving p sheet i t t
  unmoved t tracking = record { tracking = tracking; counts = λ k. refl; changes = refl }

  pub fall_begun : (t : Tracks) → IsTrackingAt p sheet i t → ((k : ℕ) → k < length sheet.tasks → x < number_of t.untils k) → IsFalling p sheet i x 0 t t
  fall_begun t tracking still = record { within = omega arith; moving = unmoved t tracking; still = still; begun = λ k l. absurd (omega arith) }

  pub fallen_one : (o : ℕ) (before t new : Tracks) → o < length sheet.tasks → IsFalling p sheet i x o before t →
      IsEndMoved p sheet i x o t new → IsFalling p sheet i x (o + 1) before new
  fallen_one o before t new b falling step = record {
    within = omega arith;
    moving = moved_one p sheet i x o before t new falling.moving step;
    still = λ k l. each_now (λ k place until. x < until) o k t new step.others step.ended.open_yet (λ ne. falling.still k l);
    begun = λ k l. each_now (λ k place until. HasBegun (task_at sheet k) x place) o k t new step.others step.ended.begun
        (λ ne. falling.begun k (omega arith));
  }

  pub fallen : (o : ℕ) (before t : Tracks) → IsFalling p sheet i x o before t → length sheet.tasks ≤ o → AreMoved p sheet i x before t
  fallen o before t falling all = record {
    tracking = falling.moving.tracking;
    ended = λ k l. record { begun = falling.begun k (omega arith); open_yet = falling.still k l };
    counts = falling.moving.counts;
    changes = falling.moving.changes;
  }

  pub rise_begun : (t : Tracks) → IsTrackingAt p sheet i t →
      ((k : ℕ) → k < length sheet.tasks → HasBegun (task_at sheet k) x (place_of t.places.items k)) → IsRising p sheet i x t t
  rise_begun t tracking begun = record { moving = unmoved t tracking; begun = begun }

  pub risen_one : (o : ℕ) (before t new : Tracks) → IsRising p sheet i x before t → IsEndMoved p sheet i x o t new → IsRising p sheet i x before new
  risen_one o before t new rising step = record {
    moving = moved_one p sheet i x o before t new rising.moving step;
    begun = λ k l. each_now (λ k place until. HasBegun (task_at sheet k) x place) o k t new step.others step.ended.begun (λ ne. rising.begun k l);
  }

  -- fewer tasks leave their places by x then
  pub rise_smaller : (o : ℕ) (t new : Tracks) → o < length sheet.tasks → IsEndMoved p sheet i x o t new →
      number_of t.untils o ≤ x → left_to new.untils x (length sheet.tasks) < left_to t.untils x (length sheet.tasks)
  rise_smaller o t new b step low =
      fewer_left t.untils new.untils x o (length sheet.tasks) b low step.ended.open_yet (λ k l ne. step.others.untils k ne)

  pub risen : (n : ℕ) (before t : Tracks) → IsRising p sheet i x before t → IsLeastNumber t.untils n → x < n → AreMoved p sheet i x before t
  risen n before t rising least past = record {
    tracking = rising.moving.tracking;
    ended = λ k l. record { begun = rising.begun k l; open_yet = omega (arith, least.least k (omega (arith, rising.moving.tracking.full))) };
    counts = rising.moving.counts;
    changes = rising.moving.changes;
  }

-- before the next change a number stands for later offsets too
pub counted_later : (p : PolicyMeaning) (sheet : SheetParts) (i a b o count change : ℕ) → a ≤ b → b ≤ 1000000000 → b < change →
    IsCounted p sheet i a o count change → IsCounted p sheet i b o count change
counted_later p sheet i a b o count change h high less counted = record {
  is = sym (counted.same b h less high);
  later = less;
  same = λ c l m n. counted.same c (omega arith) m n;
  differs = counted.differs;
}

-- all stand at the end x, and the tasks whose numbers change after b are counted at b
pub record IsRecounting (p : PolicyMeaning) (sheet : SheetParts) (i b x : ℕ) (t : Tracks) : Type 0 where
  pub tracking : IsTrackingAt p sheet i t
  pub ended : AreEnded sheet x t
  pub count : length t.changes ≡ length sheet.tasks
  pub each : (k : ℕ) → k < length sheet.tasks → b < number_of t.changes k → IsCountedAt p sheet i b t.places.items t.changes k

module _ (p : PolicyMeaning) (sheet : SheetParts) (i b x : ℕ) where
  pub recount_begun : (a : ℕ) → a ≤ b → b ≤ 1000000000 → (t : Tracks) → AreSeated p sheet i a x t → IsRecounting p sheet i b x t
  recount_begun a order high t seated = record {
    tracking = seated.tracking;
    ended = seated.ended;
    count = seated.counted.count;
    each = λ k l past. counted_later p sheet i a b k _ _ order high past (seated.counted.each k l);
  }

  pub recounted_one : (o : ℕ) (t new : Tracks) → IsRecounting p sheet i b x t → IsRecounted p sheet i b x o t new → IsRecounting p sheet i b x new
  recounted_one o t new counting step = record {
    tracking = step.tracking;
    ended = λ k l. each_now (λ k place until. IsEnded (task_at sheet k) x place until) o k t new step.others step.ended (λ ne. counting.ended k l);
    count = step.count ∙ counting.count;
    each = λ k l past. elim (cases_eq k o) [
      | inl e ↦ subst (IsCountedAt p sheet i b new.places.items new.changes) (sym e) step.counted
      | inr ne ↦
          let change = step.changes k ne in
          subst (λ (s : Place). IsCounted p sheet i b k s.count (number_of new.changes k)) (sym (step.others.places k ne))
          (subst (IsCounted p sheet i b k (place_of t.places.items k).count) (sym change) (counting.each k l (omega (arith, change))))
    ];
  }

  -- fewer numbers change up to b then
  pub recount_smaller : (o : ℕ) (t new : Tracks) → o < length sheet.tasks → IsRecounted p sheet i b x o t new → number_of t.changes o ≤ b →
      left_to new.changes b (length sheet.tasks) < left_to t.changes b (length sheet.tasks)
  recount_smaller o t new l step low = fewer_left t.changes new.changes b o (length sheet.tasks) l low step.counted.later (λ k h ne. step.changes k ne)

  pub recounted_all : (n : ℕ) (t : Tracks) → IsRecounting p sheet i b x t → IsLeastNumber t.changes n → b < n → AreSeated p sheet i b x t
  recounted_all n t counting least past = record {
    tracking = counting.tracking;
    ended = counting.ended;
    counted = record { count = counting.count; each = λ k l. counting.each k l (omega (arith, least.least k (omega (arith, counting.count)))) };
  }

-- the tasks below o are seated at offset 0 and end 0
pub record IsSeating (p : PolicyMeaning) (sheet : SheetParts) (i o : ℕ) (t : Tracks) : Type 0 where
  pub ready : IsReady sheet t
  pub done : (k : ℕ) → k < o → IsSeatedAt p sheet i 0 0 t k
  pub sum_is : t.sum ≡ sum_below (asked_of p sheet i t.places.items) o
  pub few : t.sum ≤ o * 2 ^ 83

module _ (p : PolicyMeaning) (sheet : SheetParts) (i : ℕ) where
  pub seated_one : (o : ℕ) (t new : Tracks) → IsSeating p sheet i o t → IsSettled p sheet i o t new → new.sum ≤ (o + 1) * 2 ^ 83 →
      IsSeating p sheet i (o + 1) new
  seated_one o t new seating step few = record {
    ready = step.ready;
    done = λ k l. elim (cases_eq k o) [
      | inl e ↦ subst (λ w. IsSeatedAt p sheet i 0 0 new w) (sym e) step.at
      | inr ne ↦ step.others k ne (seating.done k (omega arith))
    ];
    sum_is =
        let before = sum_same (asked_of p sheet i t.places.items) (asked_of p sheet i new.places.items) o
        (λ k l. ap (part_of p sheet i k) (sym (step.places k (λ e. omega arith)))) in
        let more : sum_below (asked_of p sheet i new.places.items) (o + 1) ≡ sum_below
        (asked_of p sheet i new.places.items) o + asked_of p sheet i new.places.items o = rw add-one refl in
        omega (arith, step.sum_is, seating.sum_is, before, more);
    few = few;
  }

  pub seated_all : (o : ℕ) (t : Tracks) → IsSeating p sheet i o t → o ≡ length sheet.tasks → AreSeated p sheet i 0 0 t
  seated_all o t seating all = record {
    tracking = record {
      count = seating.ready.near.count;
      full = seating.ready.full;
      each = λ k l. (seating.done k (omega (arith, all))).keyed;
      sum_is = seating.sum_is ∙ ap (sum_below (asked_of p sheet i t.places.items)) all;
    };
    ended = λ k l. (seating.done k (omega (arith, all))).ended;
    counted = record { count = seating.ready.changes; each = λ k l. (seating.done k (omega (arith, all))).counted };
  }

-- the numbers stay where the ends move
pub still_seated : (p : PolicyMeaning) (sheet : SheetParts) (i a x : ℕ) (t u : Tracks) →
    AreCounted p sheet i a t.places.items t.changes → AreMoved p sheet i x t u → AreSeated p sheet i a x u
still_seated p sheet i a x t u counted moved = record {
  tracking = moved.tracking;
  ended = moved.ended;
  counted = record {
    count = ap (λ (ns : List ℕ). length ns) moved.changes ∙ counted.count;
    each = λ k l. subst (λ w. IsCounted p sheet i a k w (number_of u.changes k)) (sym (moved.counts k))
        (subst (λ (ns : List ℕ). IsCounted p sheet i a k (place_of t.places.items k).count (number_of ns k)) (sym moved.changes) (counted.each k l));
  };
}
