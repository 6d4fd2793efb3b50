-- A sheet that a seed makes: its tasks, and that it is valid.
use Rattle.std.proofs.Common.{◌≡◌, ℕ, zero, suc, ◌+◌, ◌*◌, ◌%◌, ◌<◌, ◌≤◌, add-one, refl, ◌∙◌, ap, List, [], ◌∷◌, ◌++◌, length, get_or, arith, inl, inr}
use Rattle.std.proofs.lemmas.Bool.{cases_lt}
use Rattle.std.proofs.lemmas.List.{get_or_at, get_or_append_left}
use Rattle.task_sheet.specs.declared.tasks.PolicyKind.TheVariants.{Edf}
use Rattle.task_sheet.specs.declared.tasks.SupplySpec.TheVariants.{Unit as Whole}
use Rattle.task_sheet.specs.declared.tasks.Task.{Task}
use Rattle.task_sheet.specs.Sheets.{parts_of, no_task, task_at, IsTask, IsValidSheet}
use Rattle.simulated_run.specs.Words.{word, next, after}
use Rattle.simulated_run.proofs.GrowthFacts.{length_more}
use Rattle.exercise.specs.GeneratedSheet.{scale_of, cost_of, period_of, task_by, generated_task, first_tasks, generated_sheet}
use Rattle.exercise.proofs.WordFacts.{after_one, scale_high, cost_low, cost_high, period_low, period_high}
use Rattle.exercise.proofs.TaskFacts.{task_valid, names_differ}

pub tasks_count : (seed n k : ℕ) → length (first_tasks seed n k) ≡ k
tasks_count seed n zero = refl
tasks_count seed n (suc k) = length_more (first_tasks seed n k) (generated_task seed n k) ∙ ap suc (tasks_count seed n k)

pub nth_task : (seed n k i : ℕ) → i < k → get_or (first_tasks seed n k) i no_task ≡ generated_task seed n i
nth_task seed n zero i l = absurd (omega arith)
nth_task seed n (suc k) i l =
    let count : length (first_tasks seed n k) ≡ k = tasks_count seed n k in
    elim (cases_lt i k) [
      | inl c ↦ get_or_append_left (first_tasks seed n k) (generated_task seed n k ∷ []) no_task i (omega arith) ∙ nth_task seed n k i c
      | inr c ↦
          let e : k ≡ i = omega arith in
          get_or_at (first_tasks seed n k) (generated_task seed n k) [] no_task i (omega arith) ∙ ap (generated_task seed n) e
    ]

-- it has n tasks
pub sheet_count : (seed n : ℕ) → length (generated_sheet seed n).tasks ≡ n
unfolding generated_sheet
sheet_count seed n = tasks_count seed n n

-- and these
pub sheet_task : (seed n i : ℕ) → i < n → task_at (generated_sheet seed n) i ≡ generated_task seed n i
unfolding generated_sheet
sheet_task seed n i l = nth_task seed n n i l

pub generated_valid : (seed n i : ℕ) → 1 ≤ n → n ≤ 64 → i < n → IsTask (generated_task seed n i)
unfolding generated_task
generated_valid seed n i some few l =
    task_valid i (period_of seed n i) (cost_of seed i) (omega arith) (omega (arith, period_low seed n i))
    (omega (arith, period_high seed n i)) (cost_low seed i) (omega (arith, cost_high seed i, scale_high seed i))

differ : (seed n i k : ℕ) → i < k → k < n → n ≤ 64 → (generated_task seed n i).name ≡ (generated_task seed n k).name → ⊥
unfolding generated_task
differ seed n i k l b few = names_differ i k (period_of seed n i) (cost_of seed i) (period_of seed n k) (cost_of seed k) l (omega arith)

pub sheet_valid : (seed n : ℕ) → 1 ≤ n → n ≤ 64 → IsValidSheet (generated_sheet seed n)
unfolding generated_sheet
sheet_valid seed n some few =
    let count : length (first_tasks seed n n) ≡ n = tasks_count seed n n in
    record {
      supply = tt;
      some = omega arith;
      few = omega arith;
      each = λ i l. rw (nth_task seed n n i (omega arith)) (generated_valid seed n i some few (omega arith));
      distinct = λ i k l b. rw (nth_task seed n n i (omega arith), nth_task seed n n k (omega arith)) (differ seed n i k l (omega arith) few);
    }

-- the task that two words make
task_drawn : (seed n i state middle scale cost : ℕ) → state ≡ after (2 * i) seed → middle ≡ next state →
    scale ≡ 1 + word state % 50 → cost ≡ 1 + word middle % scale →
    task_by i (2 * n * scale) cost ≡ generated_task seed n i
unfolding generated_task period_of cost_of scale_of
task_drawn seed n i state middle scale cost s m first second =
    let one : middle ≡ after (2 * i + 1) seed = m ∙ after_one i seed state s in
    rw (second, one, first, s) refl

-- one task more
pub task_more : (seed n i state middle scale cost : ℕ) (task : Task) (before now : List Task) →
    state ≡ after (2 * i) seed → middle ≡ next state → scale ≡ 1 + word state % 50 → cost ≡ 1 + word middle % scale →
    task ≡ task_by i (2 * n * scale) cost → before ≡ first_tasks seed n i → now ≡ before ++ task ∷ [] → now ≡ first_tasks seed n (i + 1)
task_more seed n i state middle scale cost task before now s m first second e b more =
    let whole : task ≡ generated_task seed n i = e ∙ task_drawn seed n i state middle scale cost s m first second in
    rw (add-one, more, b, whole) refl

pub sheet_from : (seed n i : ℕ) (tasks : List Task) → i ≡ n → tasks ≡ first_tasks seed n i → parts_of Edf Whole tasks ≡ generated_sheet seed n
unfolding generated_sheet
sheet_from seed n i tasks e t = rw (t, e) refl
