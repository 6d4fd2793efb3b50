-- A sheet that a seed makes has a best certificate.
use Rattle.std.proofs.Common.{◌≡◌, ℕ, zero, suc, ◌+◌, ◌*◌, ◌<◌, ◌≤◌, Bool, List, [], ◌∷◌, ◌++◌, length, Ok, refl, ◌∙◌, ap, inl, inr, arith}
use Rattle.std.proofs.lemmas.Bool.{cases_Bool}
use Rattle.std.proofs.lemmas.List.{length-map}
use Rattle.std.proofs.Math.Seq.{get_or-append_seam}
use Rattle.task_sheet.specs.SheetParts.{SheetParts}
use Rattle.policy.specs.Policies.{edf_meaning}
use Rattle.policy.specs.PolicyMeaning.{PolicyMeaning}
use Rattle.preemption.specs.CutMeaning.{CutMeaning}
use Rattle.preemption.specs.Kinds.{per_task_meaning}
use Rattle.search_space.specs.Points.{is_point}
use Rattle.certificate.specs.declared.cert.Version.TheVariants.{One}
use Rattle.certificate.specs.declared.cert.Entry.{Entry}
use Rattle.certificate.specs.declared.cert.Cert.{Cert}
use Rattle.certificate.specs.Text.{point_of}
use Rattle.conditions.specs.Conditions.{no_entry, meets_end}
use Rattle.solver.specs.Points.{passing, points_below}
use Rattle.solver.specs.Best.{nth_entry, points_to}
use Rattle.solver.specs.Outcome.{least_to, or_zero, best_points, best_of_window, first_entries, best_of}
use Rattle.solver.proofs.Listed.{points_before}
use Rattle.solver.proofs.Unique.{entry_within, next_entry}
use Rattle.simulated_run.proofs.GrowthFacts.{length_more}
use Rattle.exercise.specs.GeneratedSheet.{generated_sheet}
use Rattle.exercise.proofs.LoadFacts.{task_jitter}
use Rattle.exercise.proofs.SheetFacts.{sheet_count}
use Rattle.exercise.proofs.WindowFacts.{HasWindow, has_window}

passing_most : (test : ℕ → Bool) (n from : ℕ) → length (passing test from n) ≤ n
passing_most test zero from = omega arith
passing_most test (suc n) from = elim (cases_Bool (test from)) [
  | inl t ↦ rw t (omega (arith, passing_most test n (suc from)))
  | inr f ↦ rw f (omega (arith, passing_most test n (suc from)))
]

module _ (p : PolicyMeaning) (m : CutMeaning) (sbf : ℕ → ℕ) (sheet : SheetParts) (i window : ℕ) where
  -- a window has no more points than ticks
  pub points_most : length (points_below p sheet i window) ≤ window
  unfolding points_below
  points_most = passing_most (is_point p sheet i) window 0

  pub entry_points : length (best_of_window p m sbf sheet i window).points ≡ length (points_below p sheet i window)
  unfolding best_of_window best_points
  entry_points = length-map (points_below p sheet i window) (λ (a : ℕ). point_of a (or_zero (least_to (meets_end p m sbf sheet i a) window)))

-- the points of one entry more
points_more : (entries : List Entry) (e : Entry) (n : ℕ) → length entries ≡ n → points_to (entries ++ e ∷ []) (suc n) ≡ points_to entries n + length e.points
points_more entries e n count =
    omega (
      arith,
      points_before entries e n (omega arith),
      ap (λ (x : Entry). length x.points) (get_or-append_seam entries e [] no_entry),
      ap (λ (k : ℕ). length (nth_entry (entries ++ e ∷ []) k).points) count,
    )

-- the first k tasks have their entries
pub record HasEntries (seed n k : ℕ) : Type 0 where
  pub entries : List Entry
  pub listed : first_entries edf_meaning per_task_meaning (λ d. d) (generated_sheet seed n) 1000000 k ≡ Ok entries
  pub count : length entries ≡ k
  pub few : points_to entries k ≤ k * 6400

none_yet : (seed n : ℕ) → first_entries edf_meaning per_task_meaning (λ d. d) (generated_sheet seed n) 1000000 0 ≡ Ok []
unfolding first_entries
none_yet seed n = refl

entry_more : (seed n k : ℕ) → k < n → n ≤ 64 → HasEntries seed n k → HasWindow seed n k → HasEntries seed n (suc k)
entry_more seed n k here b before own =
    let sheet : SheetParts = generated_sheet seed n in
    let e : Entry = best_of_window edf_meaning per_task_meaning (λ d. d) sheet k own.window in
    let points : length e.points ≤ 6400 =
    omega (
      arith,
      entry_points edf_meaning per_task_meaning (λ d. d) sheet k own.window,
      points_most edf_meaning per_task_meaning (λ d. d) sheet k own.window,
      own.small,
    ) in
    record {
      entries = before.entries ++ e ∷ [];
      listed = next_entry edf_meaning per_task_meaning (λ d. d) sheet 1000000 k before.entries before.listed own.window (omega (arith, own.small)) own.least
          (omega (arith, before.few, points_most edf_meaning per_task_meaning (λ d. d) sheet k own.window, own.small))
          (omega (arith, entry_within edf_meaning per_task_meaning (λ d. d) sheet k own.window, task_jitter seed n k here, own.small));
      count = length_more before.entries e ∙ ap suc before.count;
      few = omega (arith, points_more before.entries e k before.count, before.few);
    }

pub has_entries : (seed n k : ℕ) → 1 ≤ n → n ≤ 64 → k ≤ n → HasEntries seed n k
has_entries seed n zero some few b = record { entries = []; listed = none_yet seed n; count = refl; few = omega arith }
has_entries seed n (suc k) some few b = entry_more seed n k (omega arith) few (has_entries seed n k some few (omega arith))
    (has_window seed n k (omega arith) few)

-- the best certificate
pub record HasBest (seed n : ℕ) : Type 0 where
  pub cert : Cert
  pub best : best_of edf_meaning per_task_meaning (λ d. d) (generated_sheet seed n) 1000000 ≡ Ok cert

pub has_best : (seed n : ℕ) → 1 ≤ n → n ≤ 64 → HasBest seed n
unfolding best_of
has_best seed n some few =
    let all = has_entries seed n n some few (omega arith) in
    record { cert = record { version = One; entries = all.entries }; best = rw (sheet_count seed n, all.listed) refl }
