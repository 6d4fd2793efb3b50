-- The function gives an answer.
use Rattle.std.proofs.Common.{◌≡◌, ℕ, zero, suc, ◌+◌, ◌-◌, ◌<◌, ◌≤◌, Bool, Option, Some, None, List, [], ◌∷◌, map, length, Result, Ok, Err, refl, ap}
use Rattle.std.proofs.Common.{add-one, arith, inl, inr, nat_le}
use Rattle.std.specs.List.{AllByRecursion}
use Rattle.std.proofs.lemmas.Bool.{cases_Bool, leb-true, leb-false}
use Rattle.std.proofs.lemmas.List.{length-map}
use Rattle.lists.specs.Limits.{most_points}
use Rattle.lists.specs.Searches.{IsLeast, IsLeastTo}
use Rattle.task_sheet.specs.SheetParts.{SheetParts}
use Rattle.task_sheet.specs.Sheets.{task_at}
use Rattle.policy.specs.PolicyMeaning.{PolicyMeaning}
use Rattle.preemption.specs.CutMeaning.{CutMeaning}
use Rattle.demand.specs.Meeting.{IsWindow, MeetsEnd}
use Rattle.search_space.specs.Points.{is_point}
use Rattle.certificate.specs.declared.cert.Entry.{Entry}
use Rattle.certificate.specs.declared.cert.Point.{Point}
use Rattle.certificate.specs.Text.{point_of}
use Rattle.solver.specs.declared.analysis.AnalyseRefusal.{AnalyseRefusal}
use Rattle.solver.specs.declared.analysis.AnalyseRefusal.TheVariants.{NoBound, Points, Memory}
use Rattle.solver.specs.Laws.{Laws}
use Rattle.solver.specs.Points.{passing, points_below}
use Rattle.solver.specs.Best.{IsBestEntry, MeetsEach, points_to, HasNoBound, HasManyPoints}
use Rattle.solver.specs.Outcome.{least_to, or_zero, best_points, best_of_window, bounded_entry, with_entry, next_entries, first_entries, as_cert, best_of}
use Rattle.conditions.specs.Conditions.{meets_end}
use Rattle.solver.specs.Answer.{IsAnswer}
use Rattle.solver.proofs.Unique.{found_least, end_found, bound_found, window_found}
use Rattle.solver.proofs.Least.{window_ends, window_each}
use Rattle.solver.proofs.Listed.{EntriesSoFar, entries_none, entries_more, have_entries, all_entries}

passing_below : (test : ℕ → Bool) (top n from : ℕ) → from + n ≤ top → AllByRecursion (λ a. a < top) (passing test from n)
passing_below test top zero from le = tt
passing_below test top (suc n) from le = elim (cases_Bool (test from)) [
  | inl t ↦ rw t (omega arith, passing_below test top n (suc from) (omega arith))
  | inr f ↦ rw f (passing_below test top n (suc from) (omega arith))
]

points_lie_below : (p : PolicyMeaning) (sheet : SheetParts) (i window : ℕ) → AllByRecursion (λ a. a < window) (points_below p sheet i window)
unfolding points_below
points_lie_below p sheet i window = passing_below (is_point p sheet i) window window 0 (omega arith)

-- offsets with their ends: the offsets are kept
module _ (end : ℕ → ℕ) where
  offsets_stay : (offsets : List ℕ) → map (λ (q : Point). q.offset) (map (λ a. point_of a (end a)) offsets) ≡ offsets
  offsets_stay [] = refl
  offsets_stay (a ∷ offsets) = ap (λ rest. a ∷ rest) (offsets_stay offsets)

  each_offset : (P : ℕ → ℕ → Type 0) (limit : ℕ) → ((a : ℕ) → a < limit → P a (end a)) → (offsets : List ℕ) → AllByRecursion (λ a. a < limit) offsets →
      AllByRecursion (λ (q : Point). P q.offset q.end) (map (λ a. point_of a (end a)) offsets)
  each_offset P limit f [] below = tt
  each_offset P limit f (a ∷ offsets) below = (f a below.0, each_offset P limit f offsets below.1)

module _ (p : PolicyMeaning) (m : CutMeaning) (sbf : ℕ → ℕ) (sheet : SheetParts) (laws : Laws p m sbf sheet) where
  -- the entry of the function is the best one
  pub best_entry_found : (i window : ℕ) → i < length sheet.tasks → IsLeast (IsWindow p m sbf sheet i) window →
      IsBestEntry p m sbf sheet i (best_of_window p m sbf sheet i window)
  unfolding best_of_window best_points
  best_entry_found i window in_range least =
      let up_to : window ≤ window = omega arith in
      let limit = window + (task_at sheet i).jitter in
      let end = λ (a : ℕ). or_zero (least_to (meets_end p m sbf sheet i a) window) in
      let lie = points_lie_below p sheet i window in
      let points = map (λ a. point_of a (end a)) (points_below p sheet i window) in
      let ends : AllByRecursion (λ q. IsLeast (MeetsEnd p m sbf sheet i q.offset) q.end) points =
      each_offset end (λ a x. IsLeast (MeetsEnd p m sbf sheet i a) x) window
      (λ a lt. found_least (MeetsEnd p m sbf sheet i a) window window _ (end_found p m sbf sheet i a window) up_to
      (window_ends p m sbf sheet laws i in_range window a least.holds lt)) (points_below p sheet i window) lie in
      let below : AllByRecursion (λ q. q.offset < window) points = each_offset end (λ a x. a < window) window (λ a lt. lt)
      (points_below p sheet i window) lie in
      let each : MeetsEach p m sbf sheet i points limit = window_each p m sbf sheet laws i in_range window points least.holds ends below in
      record {
        window = least;
        offsets = offsets_stay end (points_below p sheet i window);
        ends = ends;
        bound = found_least (MeetsEach p m sbf sheet i points) limit limit _ (bound_found p m sbf sheet i points limit) (omega arith) each;
        plain = refl;
      }

  pub its_window : (i window : ℕ) → (best_of_window p m sbf sheet i window).window ≡ window
  unfolding best_of_window
  its_window i window = refl

  module _ (horizon : ℕ) where
    -- the entries of the first n tasks, or why there is none for one of them
    abbrev IsOutcome : ℕ → Result (List Entry) AnalyseRefusal → Type 0
    IsOutcome n (Ok entries) = (room : ℕ) × EntriesSoFar p m sbf sheet horizon n room entries
    IsOutcome n (Err (NoBound i part)) = HasNoBound p m sbf sheet horizon i part
    IsOutcome n (Err (Points i)) = HasManyPoints p m sbf sheet horizon i
    IsOutcome n (Err Memory) = ⊥

    bounded_next : (i room : ℕ) (entries : List Entry) (e : Entry) → i < length sheet.tasks →
        EntriesSoFar p m sbf sheet horizon i room entries → IsBestEntry p m sbf sheet i e → e.window ≤ horizon →
        points_to entries i + length (points_below p sheet i e.window) ≤ most_points → IsOutcome (suc i) (bounded_entry horizon i entries e)
    bounded_next i room entries e l so_far best within few = elim (cases_Bool (nat_le e.bound horizon)) [
      | inl t ↦ rw t (
        room - length (points_below p sheet i e.window),
        rw (add-one i) at (entries_more p m sbf sheet horizon i room (length (points_below p sheet i e.window)) entries e so_far
            (record { window = within; bound = leb-true _ _ t; best = best }) refl (omega (arith, so_far.room_left))),
      )
      | inr f ↦ rw f (record {
        entries = entries;
        before = have_entries p m sbf sheet horizon i room entries l so_far;
        entry = e;
        best = best;
        within = within;
        few = omega (arith, few, ap length best.offsets, length-map e.points (λ (q : Point). q.offset));
        late = leb-false _ _ f;
      })
    ]

    entry_next : (i room : ℕ) (entries : List Entry) → i < length sheet.tasks → EntriesSoFar p m sbf sheet horizon i room entries → (found : Option ℕ) →
        IsLeastTo (IsWindow p m sbf sheet i) horizon found →
        IsOutcome (suc i) (with_entry p m sbf sheet horizon i entries found)
    entry_next i room entries l so_far None none = record { before = (entries, have_entries p m sbf sheet horizon i room entries l so_far); none = none }
    entry_next i room entries l so_far (Some window) found =
        elim (cases_Bool (nat_le (points_to entries i + length (points_below p sheet i window)) most_points)) [
          | inl t ↦
              let same = its_window i window in
              rw t
              (bounded_next i room entries (best_of_window p m sbf sheet i window) l so_far (best_entry_found i window l found.1) (omega (arith, same, found.0))
              (omega (arith, leb-true _ _ t, ap (λ (w : ℕ). length (points_below p sheet i w)) same)))
          | inr f ↦ rw f (record {
            entries = entries;
            before = have_entries p m sbf sheet horizon i room entries l so_far;
            window = window;
            within = found.0;
            least = found.1;
            many = leb-false _ _ f;
          })
        ]

    outcome_next : (i : ℕ) → i < length sheet.tasks → (r : Result (List Entry) AnalyseRefusal) → IsOutcome i r →
        IsOutcome (suc i) (next_entries p m sbf sheet horizon i r)
    outcome_next i l (Ok entries) so_far = entry_next i so_far.0 entries l so_far.1 _ (window_found p m sbf sheet i horizon)
    outcome_next i l (Err (NoBound k part)) h = h
    outcome_next i l (Err (Points k)) h = h
    outcome_next i l (Err Memory) h = h

    outcome_found : (n : ℕ) → n ≤ length sheet.tasks → IsOutcome n (first_entries p m sbf sheet horizon n)
    unfolding first_entries
    outcome_found zero le = (most_points, entries_none p m sbf sheet horizon)
    outcome_found (suc n) le = outcome_next n (omega arith) (first_entries p m sbf sheet horizon n) (outcome_found n (omega arith))

    answer_of : (r : Result (List Entry) AnalyseRefusal) → IsOutcome (length sheet.tasks) r → IsAnswer p m sbf sheet horizon (as_cert r)
    answer_of (Ok entries) h = all_entries p m sbf sheet horizon (length sheet.tasks) h.0 entries refl h.1
    answer_of (Err (NoBound i part)) h = h
    answer_of (Err (Points i)) h = h
    answer_of (Err Memory) h = h

    pub answer_found : IsAnswer p m sbf sheet horizon (best_of p m sbf sheet horizon)
    unfolding best_of
    answer_found = answer_of _ (outcome_found (length sheet.tasks) (omega arith))
