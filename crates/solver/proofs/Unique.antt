-- A search finds the one least number.
use Rattle.std.specs.List.{AllByRecursion}
use Rattle.std.proofs.Common.{◌≡◌, ℕ, zero, suc, ◌+◌, ◌<◌, ◌≤◌, Bool, true, cond, Option, Some, None, List, [], ◌∷◌, ◌++◌, length, Ok, refl, ap, ◌∙◌}
use Rattle.std.proofs.Common.{arith, inl, inr}
use Rattle.std.proofs.lemmas.Bool.{both_ways, cases_lt, cases_Bool, and_parts, and_from, leb-true, le-leb}
use Rattle.lists.specs.Limits.{most_points}
use Rattle.lists.specs.Firsts.{first_of}
use Rattle.lists.specs.Searches.{IsLeast, IsLeastTo}
use Rattle.task_sheet.specs.SheetParts.{SheetParts}
use Rattle.task_sheet.specs.Sheets.{task_at}
use Rattle.policy.specs.PolicyMeaning.{PolicyMeaning}
use Rattle.preemption.specs.CutMeaning.{CutMeaning}
use Rattle.certificate.specs.declared.cert.Entry.{Entry}
use Rattle.certificate.specs.declared.cert.Point.{Point}
use Rattle.demand.specs.Meeting.{IsWindow, MeetsEnd, MeetsBound}
use Rattle.conditions.proofs.MeetFacts.{window_means, window_true, end_means, end_true, bound_means}
use Rattle.conditions.specs.Conditions.{covers_jitter, is_window, ends_within, meets_end, rest_within}
use Rattle.solver.specs.Points.{points_below}
use Rattle.solver.specs.Best.{MeetsEach, points_to}
use Rattle.solver.specs.Outcome.{least_to, or_zero, meets_each, meets_bound, best_points, best_of_window, first_entries}
use Rattle.solver.proofs.Jumps.{least_here}

-- a test that decides a fact finds its least number
module _ (P : ℕ → Type 0) (test : ℕ → Bool) (means : (n : ℕ) → test n ≡ true → P n) (from : (n : ℕ) → P n → test n ≡ true) where
  here : (n : ℕ) → ((k : ℕ) → k < n → P k → ⊥) → IsLeastTo P n (cond (test n) (Some n) None)
  here n none = elim (cases_Bool (test n)) [
    | inl t ↦ rw t (omega arith, least_here P n (means n t) none)
    | inr f ↦ rw f (λ k l h. elim (cases_lt k n) [
      | inl c ↦ none k c h
      | inr c ↦
          let e : n ≡ k = omega arith in
          both_ways (test n) f (ap test e ∙ from k h)
    ])
  ]

  more : (n : ℕ) (before : Option ℕ) → IsLeastTo P n before → IsLeastTo P (suc n) (first_of before (cond (test (suc n)) (Some (suc n)) None))
  more n (Some k) found = (omega (arith, found.0), found.1)
  more n None none = here (suc n) (λ k l h. none k (omega arith) h)

  pub least_to_is : (limit : ℕ) → IsLeastTo P limit (least_to test limit)
  unfolding least_to
  least_to_is zero = here 0 (λ k l h. omega arith)
  least_to_is (suc n) = more n (least_to test n) (least_to_is n)

-- there is one least number
pub same_least : (P : ℕ → Type 0) (k n : ℕ) → IsLeast P k → IsLeast P n → k ≡ n
same_least P k n a b = omega (arith, a.least n b.holds, b.least k a.holds)

-- a search finds the least number
pub found_is : (P : ℕ → Type 0) (limit n : ℕ) (found : Option ℕ) → IsLeastTo P limit found → n ≤ limit → IsLeast P n → found ≡ Some n
found_is P limit n (Some k) found le least = ap (λ (x : ℕ). Some x) (same_least P k n found.1 least)
found_is P limit n None none le least = absurd (none n le least.holds)

-- where some number up to the limit has the property, the least of them is found
pub found_least : (P : ℕ → Type 0) (limit n : ℕ) (found : Option ℕ) → IsLeastTo P limit found → n ≤ limit → P n → IsLeast P (or_zero found)
found_least P limit n (Some k) least le h = least.1
found_least P limit n None none le h = absurd (none n le h)

-- what is found lies within the limit
found_within : (P : ℕ → Type 0) (limit : ℕ) (found : Option ℕ) → IsLeastTo P limit found → or_zero found ≤ limit
found_within P limit None none = omega arith
found_within P limit (Some n) least = least.0

module _ (p : PolicyMeaning) (m : CutMeaning) (sbf : ℕ → ℕ) (sheet : SheetParts) (i : ℕ) where
  pub end_found : (a limit : ℕ) → IsLeastTo (MeetsEnd p m sbf sheet i a) limit (least_to (meets_end p m sbf sheet i a) limit)
  end_found a limit = least_to_is (MeetsEnd p m sbf sheet i a) (meets_end p m sbf sheet i a) (end_means p m sbf sheet i a) (end_true p m sbf sheet i a) limit

  each_means : (qs : List Point) (bound : ℕ) → meets_each p m sbf sheet i qs bound ≡ true →
      AllByRecursion (λ q. MeetsBound p m sbf sheet i q.offset q.end bound) qs
  each_means [] bound h = tt
  each_means (q ∷ qs) bound h =
      let parts = and_parts _ (meets_each p m sbf sheet i qs bound) h in
      let own = and_parts (ends_within sheet i q.offset q.end bound) (rest_within p m sbf sheet i q.offset q.end bound) parts.0 in
      (bound_means p m sbf sheet i q.offset q.end bound own.0 own.1, each_means qs bound parts.1)

  each_true : (qs : List Point) (bound : ℕ) → AllByRecursion (λ q. MeetsBound p m sbf sheet i q.offset q.end bound) qs →
      meets_each p m sbf sheet i qs bound ≡ true
  each_true [] bound meets = refl
  each_true (q ∷ qs) bound meets = and_from _ _ (and_from _ _ (le-leb _ _ meets.0.end) (le-leb _ _ meets.0.enough)) (each_true qs bound meets.1)

  all_mean : (qs : List Point) (bound : ℕ) → meets_bound p m sbf sheet i qs bound ≡ true → MeetsEach p m sbf sheet i qs bound
  all_mean qs bound h =
      let parts = and_parts (covers_jitter sheet i bound) (meets_each p m sbf sheet i qs bound) h in
      record { covers = leb-true _ _ parts.0; each = each_means qs bound parts.1 }

  all_true : (qs : List Point) (bound : ℕ) → MeetsEach p m sbf sheet i qs bound → meets_bound p m sbf sheet i qs bound ≡ true
  all_true qs bound meets = and_from (covers_jitter sheet i bound) (meets_each p m sbf sheet i qs bound) (le-leb _ _ meets.covers)
      (each_true qs bound meets.each)

  pub bound_found : (qs : List Point) (limit : ℕ) → IsLeastTo (MeetsEach p m sbf sheet i qs) limit (least_to (meets_bound p m sbf sheet i qs) limit)
  bound_found qs limit = least_to_is (MeetsEach p m sbf sheet i qs) (meets_bound p m sbf sheet i qs) (all_mean qs) (all_true qs) limit

  -- the bound for a window is at most the window and the jitter
  pub entry_within : (window : ℕ) → (best_of_window p m sbf sheet i window).bound ≤ window + (task_at sheet i).jitter
  unfolding best_of_window
  entry_within window =
      let limit = window + (task_at sheet i).jitter in
      let points = best_points p m sbf sheet i window in
      found_within (MeetsEach p m sbf sheet i points) limit _ (bound_found points limit)

  pub window_found : (limit : ℕ) → IsLeastTo (IsWindow p m sbf sheet i) limit (least_to (is_window p m sbf sheet i) limit)
  window_found limit = least_to_is (IsWindow p m sbf sheet i) (is_window p m sbf sheet i) (window_means p m sbf sheet i) (window_true p m sbf sheet i) limit

-- the function goes on with the entry of the least window
pub next_entry : (p : PolicyMeaning) (m : CutMeaning) (sbf : ℕ → ℕ) (sheet : SheetParts) (horizon i : ℕ) (entries : List Entry) →
    first_entries p m sbf sheet horizon i ≡ Ok entries → (window : ℕ) → window ≤ horizon → IsLeast (IsWindow p m sbf sheet i) window →
    points_to entries i + length (points_below p sheet i window) ≤ most_points → (best_of_window p m sbf sheet i window).bound ≤ horizon →
    first_entries p m sbf sheet horizon (suc i) ≡ Ok (entries ++ best_of_window p m sbf sheet i window ∷ [])
unfolding first_entries
next_entry p m sbf sheet horizon i entries before window le least few within =
    rw (before, found_is (IsWindow p m sbf sheet i) horizon window _ (window_found p m sbf sheet i horizon) le least, le-leb _ _ few, le-leb _ _ within) refl
