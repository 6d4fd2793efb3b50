-- Policies that say the same have the same best certificate.
use Rattle.std.proofs.Common.{◌≡◌, ℕ, zero, suc, ◌+◌, ◌<◌, ◌≤◌, ◌&&◌, Bool, cond, Option, Some, None, List, [], ◌∷◌, map, length, Result, Ok, Err}
use Rattle.std.proofs.Common.{refl, ap, ◌∙◌, arith}
use Rattle.lists.specs.Firsts.{first_of}
use Rattle.task_sheet.specs.declared.tasks.PolicyKind.{PolicyKind}
use Rattle.task_sheet.specs.SheetParts.{SheetParts}
use Rattle.task_sheet.specs.Sheets.{task_at}
use Rattle.policy.specs.PolicyMeaning.{PolicyMeaning}
use Rattle.preemption.specs.CutMeaning.{CutMeaning}
use Rattle.certificate.specs.declared.cert.Entry.{Entry}
use Rattle.certificate.specs.declared.cert.Point.{Point}
use Rattle.certificate.specs.Text.{point_of}
use Rattle.conditions.specs.Conditions.{covers_jitter, is_window, meets_end}
use Rattle.solver.specs.Points.{points_below}
use Rattle.solver.specs.declared.analysis.AnalyseRefusal.{AnalyseRefusal}
use Rattle.solver.specs.Outcome.{least_to, or_zero, meets_each, meets_bound, best_points, best_of_window, with_entry, next_entries, first_entries}
use Rattle.solver.specs.Outcome.{as_cert, best_of}
use Rattle.policy_pairs.proofs.Alike.{twin, IsAlike, points_same}
use Rattle.policy_pairs.proofs.AlikeConditions.{is_window_same, meets_end_same, rest_within_same}

least_same : (f g : ℕ → Bool) (n : ℕ) → ((k : ℕ) → f k ≡ g k) → least_to f n ≡ least_to g n
unfolding least_to
least_same f g zero same = rw (same 0) refl
least_same f g (suc n) same = rw (least_same f g n same, same (suc n)) refl

map_same : {A B : Type 0} (f g : A → B) → ((x : A) → f x ≡ g x) → (xs : List A) → map f xs ≡ map g xs
map_same f g same [] = refl
map_same f g same (x ∷ xs) = rw (same x, map_same f g same xs) refl

module _ (p q : PolicyMeaning) (m : CutMeaning) (sbf : ℕ → ℕ) (s : SheetParts) (k : PolicyKind) (same : IsAlike p q s (twin s k)) where
  module _ (i : ℕ) (here : i < length s.tasks) where
    each_same : (points : List Point) (bound : ℕ) → meets_each p m sbf s i points bound ≡ meets_each q m sbf (twin s k) i points bound
    each_same [] bound = refl
    each_same (x ∷ xs) bound = rw (rest_within_same p q m sbf s k same i here x.offset x.end bound, each_same xs bound) refl

    bound_same : (points : List Point) (bound : ℕ) → meets_bound p m sbf s i points bound ≡ meets_bound q m sbf (twin s k) i points bound
    bound_same points bound = ap (λ (w : Bool). covers_jitter s i bound && w) (each_same points bound)

    best_points_same : (window : ℕ) → best_points p m sbf s i window ≡ best_points q m sbf (twin s k) i window
    unfolding best_points
    best_points_same window =
        let ends = map_same (λ a. point_of a (or_zero (least_to (meets_end p m sbf s i a) window)))
        (λ a. point_of a (or_zero (least_to (meets_end q m sbf (twin s k) i a) window)))
        (λ a. ap (λ (w : Option ℕ). point_of a (or_zero w)) (least_same _ _ window (meets_end_same p q m sbf s k same i here a)))
        (points_below p s i window) in
        ends ∙ ap (map (λ a. point_of a (or_zero (least_to (meets_end q m sbf (twin s k) i a) window)))) (points_same p q m s k same i here window)

    -- the entry of these points
    abbrev entry_of : ℕ → List Point → Option ℕ → Entry
    entry_of window points bound = record { window = window; bound = or_zero bound; points = points; terms = [] }

    best_entry_same : (window : ℕ) → best_of_window p m sbf s i window ≡ best_of_window q m sbf (twin s k) i window
    unfolding best_of_window
    best_entry_same window =
        let points = best_points p m sbf s i window in
        let limit = window + (task_at s i).jitter in
        ap (entry_of window points) (least_same _ _ limit (bound_same points)) ∙
        ap (λ (w : List Point). entry_of window w (least_to (meets_bound q m sbf (twin s k) i w) limit)) (best_points_same window)

    with_same : (horizon : ℕ) (entries : List Entry) (window : Option ℕ) →
        with_entry p m sbf s horizon i entries window ≡ with_entry q m sbf (twin s k) horizon i entries window
    with_same horizon entries None = refl
    with_same horizon entries (Some window) = rw (points_same p q m s k same i here window, best_entry_same window) refl

    next_same : (horizon : ℕ) (before : Result (List Entry) AnalyseRefusal) →
        next_entries p m sbf s horizon i before ≡ next_entries q m sbf (twin s k) horizon i before
    next_same horizon (Err e) = refl
    next_same horizon (Ok entries) =
        with_same horizon entries (least_to (is_window p m sbf s i) horizon) ∙
        ap (with_entry q m sbf (twin s k) horizon i entries) (least_same _ _ horizon (is_window_same p q m sbf s k same i here))

  entries_same : (horizon n : ℕ) → n ≤ length s.tasks → first_entries p m sbf s horizon n ≡ first_entries q m sbf (twin s k) horizon n
  unfolding first_entries
  entries_same horizon zero few = refl
  entries_same horizon (suc n) few =
      next_same n (omega arith) horizon (first_entries p m sbf s horizon n) ∙
      ap (next_entries q m sbf (twin s k) horizon n) (entries_same horizon n (omega arith))

  pub best_same : (horizon : ℕ) → best_of p m sbf s horizon ≡ best_of q m sbf (twin s k) horizon
  unfolding best_of
  best_same horizon = ap as_cert (entries_same horizon (length s.tasks) (omega arith))
