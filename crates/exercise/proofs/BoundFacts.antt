-- No response time of an exercise is above the greatest bound.
use Rattle.std.proofs.Common.{◌≡◌, ℕ, zero, suc, ◌+◌, ◌<◌, ◌≤◌, Bool, true, false, not, cond, max, Option, Some, None, List, [], ◌∷◌, ◌++◌, length}
use Rattle.std.proofs.Common.{get_or, refl, inl, inr, arith}
use Rattle.std.proofs.lemmas.Bool.{cases_eq, cases_lt, eq-eqb, ne_eqb, le-leb}
use Rattle.std.proofs.lemmas.List.Elements.{All-get_or}
use Rattle.lists.specs.Sums.{max_below}
use Rattle.lists.specs.Firsts.{first_of, must, first_below}
use Rattle.lists.proofs.FirstFacts.{none_below}
use Rattle.task_sheet.specs.SheetParts.{SheetParts}
use Rattle.policy.specs.Policies.{edf_meaning}
use Rattle.preemption.specs.Kinds.{per_task_meaning}
use Rattle.run_model.specs.declared.run.Run.{Run}
use Rattle.run_model.specs.Runs.{job_at, is_done, IsDone}
use Rattle.schedule_laws.specs.Bounded.{IsBounded}
use Rattle.abstract_rta.specs.Bounds.{PointsBound}
use Rattle.certificate.specs.declared.cert.Entry.{Entry}
use Rattle.certificate.specs.Text.{IsEntry}
use Rattle.conditions.specs.Conditions.{no_entry, entry_at}
use Rattle.conditions.specs.Meets.{pairs_of}
use Rattle.conditions.proofs.MeetFacts.{pairs_count, cert_means}
use Rattle.audit.specs.declared.verdict.Seen.{Seen}
use Rattle.audit.specs.Responses.{since, done_before, response_of, is_of, seen_among, seen_of, seen_below}
use Rattle.exercise.specs.GeneratedSheet.{generated_sheet}
use Rattle.exercise.proofs.SheetFacts.{sheet_count, sheet_valid}
use Rattle.exercise.specs.Greatest.{greatest_by}
use Rattle.exercise.specs.Exercises.{dense_run_of, exercise_of, ExerciseHolds}

-- one tick more at which a job may be done, not past the bound
tick_early : (a b n : ℕ) (before : Option ℕ) (done : Bool) → n ≤ a + b → since a before ≤ b → since a (first_of before (must (not done) n)) ≤ b
tick_early a b n (Some t) done l h = h
tick_early a b n None true l h = omega arith
tick_early a b n None false l h = omega arith

since_early : (test : ℕ → Bool) (a b n : ℕ) → n ≤ a + b + 1 → since a (first_below (λ t. must (not (test t)) t) n) ≤ b
since_early test a b zero h = omega arith
since_early test a b (suc n) h = tick_early a b n (first_below (λ t. must (not (test t)) t) n) (test n) (omega arith) (since_early test a b n (omega arith))

tick_late : (a b : ℕ) (before later : Option ℕ) → (before ≡ None → ⊥) → since a before ≤ b → since a (first_of before later) ≤ b
tick_late a b (Some t) later found h = h
tick_late a b None later found h = absurd (found refl)

since_done : (test : ℕ → Bool) (a b n : ℕ) → test (a + b) ≡ true → a + b < n → since a (first_below (λ t. must (not (test t)) t) n) ≤ b
since_done test a b zero done h = absurd (omega arith)
since_done test a b (suc n) done h = elim (cases_lt (a + b) n) [
  | inl c ↦
      tick_late a b (first_below (λ t. must (not (test t)) t) n) (must (not (test n)) n)
      (λ z. (let none : Some (a + b) ≡ None = rw done at (none_below (λ t. must (not (test t)) t) n (a + b) z c) in absurd (cc)))
      (since_done test a b n done c)
  | inr c ↦ since_early test a b (suc n) (omega arith)
]

-- a job that is done within the bound, where the run is so long, has at most the bound as its response time
response_most : (run : Run) (k bound : ℕ) →
    ((job_at run k).arrival + bound ≤ length run.ticks → IsDone run k ((job_at run k).arrival + bound)) →
    response_of run k ≤ bound
unfolding done_before
response_most run k bound h = elim (cases_lt (length run.ticks) ((job_at run k).arrival + bound)) [
  | inl c ↦ since_early (is_done run k) (job_at run k).arrival bound (length run.ticks + 1) (omega arith)
  | inr c ↦ since_done (is_done run k) (job_at run k).arrival bound (length run.ticks + 1) (le-leb _ _ (h c)) (omega arith)
]

max_most : (f : ℕ → ℕ) (limit n : ℕ) → ((k : ℕ) → k < n → f k ≤ limit) → max_below f n ≤ limit
max_most f limit zero h = omega arith
max_most f limit (suc n) h = omega (arith, max_most f limit n (λ k b. h k (omega arith)), h n (omega arith))

worst_most : (run : Run) (o limit n : ℕ) → ((k : ℕ) → k < n → (job_at run k).task ≡ o → response_of run k ≤ limit) → (seen_among run o n).worst ≤ limit
unfolding seen_among
worst_most run o limit n h = max_most (λ k. cond (is_of run o k) (response_of run k) 0) limit n (λ k b. elim (cases_eq (job_at run k).task o) [
  | inl e ↦ rw (eq-eqb (job_at run k).task o e) (h k b e)
  | inr ne ↦ rw (ne_eqb (job_at run k).task o ne) (omega arith)
])

greatest_push : {X : Type 0} (f : X → ℕ) (xs : List X) (x : X) → greatest_by f (xs ++ x ∷ []) ≡ max (greatest_by f xs) (f x)
greatest_push f [] x = omega arith
greatest_push f (y ∷ xs) x = omega (arith, greatest_push f xs x)

greatest_one : {X : Type 0} (f : X → ℕ) (d : X) (xs : List X) (i : ℕ) → i < length xs → f (get_or xs i d) ≤ greatest_by f xs
greatest_one f d [] i h = absurd (omega arith)
greatest_one f d (x ∷ xs) zero h = omega arith
greatest_one f d (x ∷ xs) (suc i) h = omega (arith, greatest_one f d xs i (omega arith))

-- every response time of the first n tasks is within the limit
seen_most : (run : Run) (limit n : ℕ) →
    ((o : ℕ) → o < n → (k : ℕ) → k < length run.jobs → (job_at run k).task ≡ o → response_of run k ≤ limit) →
    greatest_by (λ s. s.worst) (seen_below run n) ≤ limit
seen_most run limit zero h = omega arith
seen_most run limit (suc n) h =
    omega (
      arith,
      greatest_push (λ (s : Seen). s.worst) (seen_below run n) (seen_of run n),
      seen_most run limit n (λ o b. h o (omega arith)),
      worst_most run n limit (length run.jobs) (h n (omega arith)),
    )

module _ (seed tasks : ℕ) (law : PointsBound edf_meaning per_task_meaning (λ d. d)) (some : 1 ≤ tasks) (few : tasks ≤ 64)
    (holds : ExerciseHolds seed tasks) where
  task_bounded : (o : ℕ) → o < tasks → IsBounded edf_meaning per_task_meaning (λ d. d) (generated_sheet seed tasks) o (entry_at holds.cert o).bound
  task_bounded o b =
      let sheet : SheetParts = generated_sheet seed tasks in
      let meets = cert_means edf_meaning per_task_meaning (λ d. d) sheet false holds.cert holds.meets in
      let in_range : o < length sheet.tasks = omega (arith, sheet_count seed tasks) in
      let task = meets.tasks o in_range in
      let fits : IsEntry (entry_at holds.cert o) = All-get_or IsEntry holds.cert.entries o no_entry (omega (arith, meets.count)) holds.within.entries in
      let e : Entry = entry_at holds.cert o in
      let listed : 1 ≤ length (pairs_of e.points) = omega (arith, fits.some, pairs_count e.points) in
      law sheet (sheet_valid seed tasks some few) (λ i l. refl) o e.window e.bound (pairs_of e.points) in_range task.covers task.window listed task.points

  task_below : (o : ℕ) → o < tasks → (entry_at holds.cert o).bound ≤ greatest_by (λ e. e.bound) holds.cert.entries
  task_below o b =
      let meets = cert_means edf_meaning per_task_meaning (λ d. d) (generated_sheet seed tasks) false holds.cert holds.meets in
      greatest_one (λ (e : Entry). e.bound) no_entry holds.cert.entries o (omega (arith, meets.count, sheet_count seed tasks))

  -- the greatest response time is at most the greatest bound
  pub worst_within : (exercise_of seed tasks).worst ≤ (exercise_of seed tasks).greatest
  unfolding exercise_of
  worst_within =
      let run : Run = dense_run_of seed tasks in
      rw holds.best
      (seen_most run (greatest_by (λ e. e.bound) holds.cert.entries) tasks
      (λ o b k l e. (
      let own : response_of run k ≤ (entry_at holds.cert o).bound =
      response_most run k (entry_at holds.cert o).bound (task_bounded o b run holds.complies k l e) in
      omega (arith, task_below o b)
      )))
