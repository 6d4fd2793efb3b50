-- When the jobs of a task are released.
use Rattle.std.proofs.Common.{◌≡◌, ℕ, suc, ◌+◌, ◌%◌, ◌<◌, ◌≤◌, ◌==◌, cond, max, List, [], ◌∷◌, ◌++◌, length, refl, inl, inr, arith}
use Rattle.std.proofs.lemmas.Bool.{cases_eq, eq-eqb, ne_eqb}
use Rattle.task_sheet.specs.declared.tasks.Job.{Job}
use Rattle.run_model.specs.declared.run.Run.{Run}
use Rattle.run_model.specs.Runs.{job_at, no_job}
use Rattle.simulated_run.specs.declared.mode.Mode.{Mode}
use Rattle.simulated_run.specs.declared.mode.Mode.TheVariants.{Dense, Seed}
use Rattle.simulated_run.specs.Words.{word}
use Rattle.simulated_run.specs.Jobs.{released_by, last_release_from, last_release}
use Rattle.std.specs.Prelude.{slice_index_or}

seeded : (seed jitter t last state : ℕ) → (P : ℕ → Type 0) → (jitter ≡ 0 → P t) → (1 ≤ jitter → P (max (t + word state % (jitter + 1)) last)) →
    P (released_by (Seed seed) jitter t last state)
seeded seed jitter t last state P none some = elim (cases_eq jitter 0) [
  | inl z ↦ rw (eq-eqb jitter 0 z) (none z)
  | inr nz ↦ rw (ne_eqb jitter 0 nz) (some (omega arith))
]

-- no earlier than the arrival
pub release_after : (mode : Mode) (jitter t last state : ℕ) → t ≤ released_by mode jitter t last state
release_after Dense jitter t last state = omega arith
release_after (Seed seed) jitter t last state = seeded seed jitter t last state (λ r. t ≤ r) (λ z. omega arith) (λ some. omega arith)

-- later by the jitter at most
pub release_soon : (mode : Mode) (jitter t last state : ℕ) → last ≤ t + jitter → released_by mode jitter t last state ≤ t + jitter
release_soon Dense jitter t last state h = omega arith
release_soon (Seed seed) jitter t last state h = seeded seed jitter t last state (λ r. r ≤ t + jitter) (λ z. omega arith) (λ some. omega arith)

-- the next job is not released earlier
pub release_again : (mode : Mode) (jitter t last state other : ℕ) →
    released_by mode jitter t last state ≤ released_by mode jitter t (released_by mode jitter t last state) other
release_again Dense jitter t last state other = omega arith
release_again (Seed seed) jitter t last state other = elim (cases_eq jitter 0) [
  | inl z ↦ rw (eq-eqb jitter 0 z) (omega arith)
  | inr nz ↦ rw (ne_eqb jitter 0 nz) (omega arith)
]

-- nor one that arrives later
pub release_later : (mode : Mode) (jitter t last state : ℕ) → released_by mode jitter t last state ≤ released_by mode jitter (suc t) last state
release_later Dense jitter t last state = omega arith
release_later (Seed seed) jitter t last state = elim (cases_eq jitter 0) [
  | inl z ↦ rw (eq-eqb jitter 0 z) (omega arith)
  | inr nz ↦ rw (ne_eqb jitter 0 nz) (omega arith)
]

from_more : (o before : ℕ) (jobs : List Job) (j : Job) →
    last_release_from o before (jobs ++ j ∷ []) ≡ cond (j.task == o) j.release (last_release_from o before jobs)
from_more o before [] j = refl
from_more o before (i ∷ jobs) j = from_more o (cond (i.task == o) i.release before) jobs j

-- with one job more
pub last_more : (o : ℕ) (jobs : List Job) (j : Job) → last_release o (jobs ++ j ∷ []) ≡ cond (j.task == o) j.release (last_release o jobs)
unfolding last_release
last_more o jobs j = from_more o 0 jobs j

from_within : (o before b : ℕ) (jobs : List Job) → before ≤ b →
    ((k : ℕ) → k < length jobs → (slice_index_or jobs k no_job).task ≡ o → (slice_index_or jobs k no_job).release ≤ b) →
    last_release_from o before jobs ≤ b
from_within o before b [] h each = h
from_within o before b (j ∷ jobs) h each = elim (cases_eq j.task o) [
  | inl own ↦ rw (eq-eqb j.task o own) (from_within o j.release b jobs (each 0 (omega arith) own) (λ k c. each (suc k) (omega arith)))
  | inr other ↦ rw (ne_eqb j.task o other) (from_within o before b jobs h (λ k c. each (suc k) (omega arith)))
]

-- what no job of the task is released after
pub last_within : (o b : ℕ) (run : Run) → ((k : ℕ) → k < length run.jobs → (job_at run k).task ≡ o → (job_at run k).release ≤ b) →
    last_release o run.jobs ≤ b
unfolding last_release
last_within o b run each = from_within o 0 b run.jobs (omega arith) each
