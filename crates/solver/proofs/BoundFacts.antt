-- The least bound of one task, and what it says of every entry.
use Rattle.std.proofs.Common.{◌≡◌, ℕ, ◌<◌, ◌≤◌, max, ◌++◌, List, [], ◌∷◌, Option, Some, None, false, length, nat_le, refl, sym, ap, ◌∙◌, subst, inl, inr, arith}
use Rattle.std.proofs.lemmas.Bool.{cases_Bool, leb-true, leb-false}
use Rattle.std.proofs.lemmas.List.Elements.{All-from_recursion}
use Rattle.lists.specs.Searches.{IsLeast, IsLeastTo}
use Rattle.task_sheet.specs.SheetParts.{SheetParts}
use Rattle.policy.specs.PolicyMeaning.{PolicyMeaning}
use Rattle.preemption.specs.CutMeaning.{CutMeaning}
use Rattle.certificate.specs.declared.cert.Entry.{Entry}
use Rattle.certificate.specs.declared.cert.Point.{Point}
use Rattle.certificate.specs.Text.{point_of}
use Rattle.demand.specs.Meeting.{IsWindow, MeetsEnd, BoundMeets}
use Rattle.demand.proofs.MeetingFacts.{every_offset}
use Rattle.conditions.specs.Meets.{pairs_of}
use Rattle.conditions.proofs.MeetFacts.{pairs_count}
use Rattle.solver.specs.Laws.{Laws}
use Rattle.solver.specs.Best.{IsBestEntry, IsBestUpTo}
use Rattle.solver.specs.Bounds.{IsBoundBelow, ServesTask, IsTaskBound, IsLeastBound, IsServedBy, AreBoundsAbove, bound_for, bound_of, HasOneBound}
use Rattle.solver.specs.Outcome.{best_of_window}
use Rattle.solver.proofs.Chain.{entry_meets}
use Rattle.solver.proofs.Least.{below_each, with_least, bound_least, each_within}
use Rattle.solver.proofs.Found.{best_entry_found, its_window}
use Rattle.solver.proofs.Single.{same_entry}
use Rattle.solver.proofs.Unique.{window_found}
use Rattle.solver.proofs.Listing.{SoFar, IsNextPoint, so_far_last, points_some}

module _ (p : PolicyMeaning) (m : CutMeaning) (sbf : ℕ → ℕ) (sheet : SheetParts) (laws : Laws p m sbf sheet) (i : ℕ) where
  -- with the last point the bound is that of the best entry
  pub bound_is_best : (window a bound : ℕ) (points : List Point) → SoFar p m sbf sheet i window a bound points → (x least : ℕ) →
      IsLeast (MeetsEnd p m sbf sheet i a) x → IsLeast (BoundMeets p m sbf sheet i a x) least → IsLeast (IsWindow p m sbf sheet i) window →
      IsNextPoint p sheet i a window None → IsBoundBelow p m sbf sheet i window (max least bound)
  bound_is_best window a bound points so_far x least end here w none = record {
    entry = record { window = window; bound = max least bound; points = points ++ point_of a x ∷ []; terms = [] };
    best = so_far_last p m sbf sheet laws i window a bound points so_far x least end here w none;
    window_is = refl;
    bound_is = refl;
  }

  -- at an offset below its window every entry that meets the conditions has at least the bound that is asked for there
  pub offset_least : (window a x least limit : ℕ) → i < length sheet.tasks → IsLeast (IsWindow p m sbf sheet i) window → a < window →
      IsLeast (MeetsEnd p m sbf sheet i a) x → IsLeast (BoundMeets p m sbf sheet i a x) least → limit < least → AreBoundsAbove p m sbf sheet i limit
  offset_least window a x least limit in_range w lt end here late e some meets =
      let le : window ≤ e.window = w.least e.window meets.window in
      let serves = every_offset p m sbf sheet i laws.rises
      (λ from at to y l below same. laws.across_gap i from to at y in_range l below same) e.window e.bound
      (pairs_of e.points) (omega (arith, some, pairs_count e.points)) meets.points in
      let own = serves a (omega (arith, lt, le)) in
      let within = with_least p m sbf sheet laws i in_range e.bound a x own.0 end own.1 in
      omega (arith, late, here.least e.bound (record { covers = meets.covers; within = within }))

  module _ (horizon : ℕ) (in_range : i < length sheet.tasks) where
    pub none_by_window : ((window : ℕ) → window ≤ horizon → IsWindow p m sbf sheet i window → ⊥) →
        (e : Entry) → ServesTask p m sbf sheet horizon i e → ⊥
    none_by_window none e serves = none e.window serves.up_to.window serves.meets.window

    least_of : (best : Entry) → IsBestEntry p m sbf sheet i best → (e : Entry) → ServesTask p m sbf sheet horizon i e → best.bound ≤ e.bound
    least_of best is e serves = bound_least p m sbf sheet laws i in_range best e false is serves.some serves.meets

    pub none_by_bound : (window bound : ℕ) → IsBoundBelow p m sbf sheet i window bound → horizon < bound →
        (e : Entry) → ServesTask p m sbf sheet horizon i e → ⊥
    none_by_bound window bound below late e serves =
        omega (arith, least_of below.entry below.best e serves, below.bound_is, late, serves.up_to.bound)

    up_to_of : (window bound : ℕ) (below : IsBoundBelow p m sbf sheet i window bound) → window ≤ horizon → bound ≤ horizon →
        IsBestUpTo p m sbf sheet horizon i below.entry
    up_to_of window bound below w b = record {
      window = omega (arith, w, below.window_is);
      bound = omega (arith, b, below.bound_is);
      best = below.best;
    }

    pub bound_found : (window bound : ℕ) → IsBoundBelow p m sbf sheet i window bound → window ≤ horizon → bound ≤ horizon →
        IsTaskBound p m sbf sheet horizon i bound
    bound_found window bound below w b =
        record { entry = below.entry; best = up_to_of window bound below w b; bound_is = below.bound_is }

    pub served_by : (window bound : ℕ) → IsBoundBelow p m sbf sheet i window bound → window ≤ horizon → bound ≤ horizon →
        IsServedBy p m sbf sheet horizon i bound
    served_by window bound below w b =
        let e = below.entry in
        let own = up_to_of window bound below w b in
        let meets = entry_meets p m sbf sheet i e below.best in
        let lie = below_each p m sbf sheet laws i in_range e.window e.bound None e.points meets.points in
        record {
          entry = e;
          serves = record {
            some = points_some p sheet i e.window e.points below.best.window.holds.positive below.best.offsets;
            up_to = record {
              window = own.window;
              bound = own.bound;
              points = All-from_recursion _ e.points
                  (each_within p m sbf sheet laws i in_range e.window horizon e.points own.window below.best.window.holds below.best.ends lie);
            };
            meets = meets;
          };
          bound_is = below.bound_is;
          least = λ other serves. omega (arith, least_of e below.best other serves, below.bound_is);
        }

    -- what is not up to the limit is not had
    pub none_up_to : (limit : ℕ) → AreBoundsAbove p m sbf sheet i limit → (e : Entry) → ServesTask p m sbf sheet horizon i e → e.bound ≤ limit → ⊥
    none_up_to limit above e serves le = omega (arith, above e serves.some serves.meets, le)

    pub none_late : (window bound limit : ℕ) → IsBoundBelow p m sbf sheet i window bound → (bound ≤ limit → bound ≤ horizon → ⊥) →
        (e : Entry) → ServesTask p m sbf sheet horizon i e → e.bound ≤ limit → ⊥
    none_late window bound limit below late e serves le =
        let least : bound ≤ e.bound = omega (arith, least_of below.entry below.best e serves, below.bound_is) in
        late (omega (arith, least, le)) (omega (arith, least, serves.up_to.bound))

    -- a least bound is one of an entry that serves the task
    serves_with : (bound : ℕ) → IsTaskBound p m sbf sheet horizon i bound → IsServedBy p m sbf sheet horizon i bound
    serves_with bound is =
        let below : IsBoundBelow p m sbf sheet i is.entry.window is.entry.bound =
        record { entry = is.entry; best = is.best.best; window_is = refl; bound_is = refl } in
        subst (IsServedBy p m sbf sheet horizon i) is.bound_is (served_by is.entry.window is.entry.bound below is.best.window is.best.bound)

    -- there is one least bound, or none
    one_bound : (a b : Option ℕ) → IsLeastBound p m sbf sheet horizon i a → IsLeastBound p m sbf sheet horizon i b → a ≡ b
    one_bound None None x y = refl
    one_bound None (Some b) x y = let served = serves_with b y in absurd (x served.entry served.serves)
    one_bound (Some a) None x y = let served = serves_with a x in absurd (y served.entry served.serves)
    one_bound (Some a) (Some b) x y =
        let same : x.entry.bound ≡ y.entry.bound = ap (λ (e : Entry). e.bound) (same_entry p m sbf sheet i x.entry y.entry x.best.best y.best.best) in
        ap (λ (n : ℕ). Some n) (sym x.bound_is ∙ same ∙ y.bound_is)

    for_window : (found : Option ℕ) → IsLeastTo (IsWindow p m sbf sheet i) horizon found →
        IsLeastBound p m sbf sheet horizon i (bound_for p m sbf sheet horizon i found)
    for_window None none = none_by_window none
    for_window (Some window) found =
        let e : Entry = best_of_window p m sbf sheet i window in
        let best : IsBestEntry p m sbf sheet i e = best_entry_found p m sbf sheet laws i window in_range found.1 in
        let below : IsBoundBelow p m sbf sheet i window e.bound =
        record { entry = e; best = best; window_is = its_window p m sbf sheet laws i window; bound_is = refl } in
        elim (cases_Bool (nat_le e.bound horizon)) [
          | inl t ↦ rw t (bound_found window e.bound below found.0 (leb-true _ _ t))
          | inr f ↦ rw f (none_by_bound window e.bound below (leb-false _ _ f))
        ]

    pub has_one_bound : HasOneBound p m sbf sheet horizon i
    unfolding bound_of
    has_one_bound = record { exists = for_window _ (window_found p m sbf sheet i horizon); single = one_bound; serves = serves_with }
