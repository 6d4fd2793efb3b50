-- A run of a sheet that a seed makes has few jobs, and these few segments.
use Rattle.std.proofs.Common.{◌≡◌, ℕ, zero, suc, ◌+◌, ◌-◌, ◌*◌, ◌/◌, ◌<◌, ◌≤◌, Bool, true, cond, length, refl, ap, subst, arith}
use Rattle.std.proofs.lemmas.Bool.{and_from, eq-eqb}
use Rattle.std.proofs.lemmas.Bool.Decides.{nat_tests}
use Rattle.std.proofs.lemmas.Nat.{le-div}
use Rattle.std.proofs.Math.Nat.{mul-le-mul_right, mul-div-le}
use Rattle.lists.specs.Sums.{sum_below}
use Rattle.lists.proofs.SumFacts.{sum_bound}
use Rattle.curve.specs.Curves.{alpha_of}
use Rattle.task_sheet.specs.declared.tasks.Job.{Job}
use Rattle.task_sheet.specs.declared.tasks.Task.{Task}
use Rattle.task_sheet.specs.Sheets.{task_at, IsValidSheet}
use Rattle.policy.specs.Policies.{edf_meaning}
use Rattle.policy.specs.Lawful.{edf_lawful}
use Rattle.preemption.specs.Cuts.{fits}
use Rattle.preemption.specs.Kinds.{per_task_meaning}
use Rattle.preemption.specs.Lawful.{per_task_lawful, per_task_tabled}
use Rattle.run_model.specs.declared.run.Run.{Run}
use Rattle.run_model.specs.Runs.{no_job, job_at}
use Rattle.run_text.specs.Text.{segments_of}
use Rattle.schedule_laws.specs.Compliance.{arrives_in, arrivals_of, IsCompliant}
use Rattle.abstract_rta.proofs.Windows.{in_window, all_by_task}
use Rattle.simulated_run.specs.declared.mode.Mode.{Mode}
use Rattle.simulated_run.specs.SimulatedRun.{World, world_of, simulated_run}
use Rattle.simulated_run.proofs.Soundness.{IsLawful}
use Rattle.simulated_run.proofs.Stages.{begun}
use Rattle.exercise.specs.GeneratedSheet.{period_of, generated_task, generated_sheet}
use Rattle.exercise.proofs.WordFacts.{period_low}
use Rattle.exercise.proofs.SheetFacts.{sheet_count, sheet_task, sheet_valid}
use Rattle.exercise.proofs.LoadFacts.{alpha_most, task_curve}
use Rattle.exercise.proofs.SegmentFacts.{segments_few, sum_by_most}

all_counted : (test : ℕ → Bool) (m : ℕ) → ((k : ℕ) → k < m → test k ≡ true) → sum_below (λ k. cond {A = ℕ} (test k) 1 0) m ≡ m
all_counted test zero h = refl
all_counted test (suc m) h = omega (arith, all_counted test m (λ k b. h k (omega arith)), ap (λ (b : Bool). cond {A = ℕ} b 1 0) (h m (omega arith)))

-- the jobs of one task in t ticks
curve_most : (seed n o t : ℕ) → 1 ≤ n → o < n → alpha_of (task_at (generated_sheet seed n) o).curve t ≤ t / (2 * n) + 1
curve_most seed n o t some b =
    let period : ℕ = period_of seed n o in
    let fewer : 2 * n * (t / period) ≤ period * (t / period) = mul-le-mul_right (t / period) (period_low seed n o) in
    let share : t / period ≤ t / (2 * n) = le-div (t / period) t (2 * n) (omega arith) (omega (arith, mul-div-le t period)) in
    rw (task_curve seed n o b) (omega (arith, alpha_most period t))

-- a run with the jobs of t ticks
pub record IsEarlyRun (seed n t : ℕ) (run : Run) : Type 0 where
  pub complies : IsCompliant edf_meaning per_task_meaning (λ d. d) (generated_sheet seed n) run
  pub early : (k : ℕ) → k < length run.jobs → (job_at run k).arrival < t

-- what arrives before t is in the window from 0 to t
counted_early : (t : ℕ) (j : Job) → j.arrival < t → arrives_in j.task 0 (0 + t) j ≡ true
counted_early t j h = and_from _ _ (eq-eqb j.task j.task refl) (grind (arith, nat_tests))

jobs_most : (seed n t : ℕ) (run : Run) → 1 ≤ n → IsEarlyRun seed n t run → length run.jobs ≤ n * (t / (2 * n) + 1)
unfolding arrivals_of
jobs_most seed n t run some ok =
    let tasks : (k : ℕ) → k < length run.jobs → (job_at run k).task < n = λ k b. omega (arith, (ok.complies.valid.jobs k b).task, sheet_count seed n) in
    let long : 0 + t - 0 ≡ t = omega arith in
    let each =
    all_by_task (λ o. 1) (λ o. t) (λ o. 0) n run tasks (λ o. t / (2 * n) + 1)
    (λ o b. omega (
      arith,
      ok.complies.curves o 0 (0 + t) (omega (arith, sheet_count seed n)) (omega arith),
      ap (alpha_of (task_at (generated_sheet seed n) o).curve) long,
      curve_most seed n o t some b,
    ))
    in
    omega (
      arith,
      each,
      all_counted (in_window (λ o. t) (λ o. 0) run) (length run.jobs) (λ k b. counted_early t (job_at run k) (ok.early k b)),
      sum_bound (λ o. 1 * (t / (2 * n) + 1)) (t / (2 * n) + 1) n (λ o b. omega arith),
    )

-- at most 5,000 jobs, and one for each task
pub jobs_few : (seed n t : ℕ) (run : Run) → 1 ≤ n → IsEarlyRun seed n t run → 2 * length run.jobs ≤ t + 2 * n
jobs_few seed n t run some ok = omega (arith, jobs_most seed n t run some ok, mul-div-le t (2 * n))

job_few : (seed n t : ℕ) (run : Run) → IsEarlyRun seed n t run → (k : ℕ) → k < length run.jobs → length (job_at run k).segs ≤ 50
job_few seed n t run ok k b =
    let own = ok.complies.valid.jobs k b in
    let o : ℕ = (job_at run k).task in
    let task : task_at (generated_sheet seed n) o ≡ generated_task seed n o = sheet_task seed n o (omega (arith, own.task, sheet_count seed n)) in
    segments_few seed n o (job_at run k) (subst (λ (x : Task). fits x (job_at run k) ≡ true) task own.fit)

pub segments_most : (seed n t : ℕ) (run : Run) → IsEarlyRun seed n t run → segments_of run.jobs ≤ length run.jobs * 50
segments_most seed n t run ok = sum_by_most (λ (j : Job). length j.segs) no_job 50 run.jobs (job_few seed n t run ok)

-- the simulated run of t ticks has the jobs of t ticks
pub run_early : (seed n t : ℕ) (mode : Mode) → 1 ≤ n → n ≤ 64 →
    IsEarlyRun seed n t (simulated_run (world_of edf_meaning per_task_meaning (λ d. d) (generated_sheet seed n) mode) t)
unfolding simulated_run
run_early seed n t mode some few =
    let valid : IsValidSheet (generated_sheet seed n) = sheet_valid seed n some few in
    let w : World = world_of edf_meaning per_task_meaning (λ d. d) (generated_sheet seed n) mode in
    let laws : IsLawful w = record {
      sheet = valid;
      policy = edf_lawful (generated_sheet seed n) valid;
      cuts = λ o b. per_task_lawful (task_at (generated_sheet seed n) o) (valid.each o b);
      tabled = λ o b. per_task_tabled (task_at (generated_sheet seed n) o);
      starts = refl;
      rises = λ d. omega arith;
    } in
    let all = begun w laws t in
    record { complies = all.sound.complies; early = all.past }
