-- An exercise: a sheet that a seed makes, its best certificate, and its dense run.
use Rattle.std.specs.Prelude.{◌≡◌, ℕ, false, None, List, [], length, Result, Ok, Err}
use Rattle.std.specs.List.{sum_by}
use Rattle.policy.specs.Policies.{edf_meaning}
use Rattle.preemption.specs.Kinds.{per_task_meaning}
use Rattle.run_model.specs.declared.run.Run.{Run}
use Rattle.schedule_laws.specs.Compliance.{IsCompliant}
use Rattle.certificate.specs.declared.cert.Entry.{Entry}
use Rattle.certificate.specs.declared.cert.Cert.{Cert}
use Rattle.certificate.specs.Text.{IsWithinGrammar}
use Rattle.conditions.specs.Conditions.{failed_of}
use Rattle.solver.specs.Outcome.{best_of}
use Rattle.solver.specs.declared.analysis.AnalyseRefusal.{AnalyseRefusal}
use Rattle.simulated_run.specs.declared.mode.Mode.TheVariants.{Dense}
use Rattle.simulated_run.specs.SimulatedRun.{world_of, simulated_run}
use Rattle.audit.specs.declared.verdict.Seen.{Seen}
use Rattle.audit.specs.Responses.{seen_below}
use Rattle.exercise.specs.GeneratedSheet.{generated_sheet}
use Rattle.exercise.specs.declared.outcome.Exercise.{Exercise}
use Rattle.exercise.specs.Greatest.{greatest_by}

-- the best certificate of the sheet, with windows of up to 1,000,000 ticks
unfoldable pub best_cert_of : ℕ → ℕ → Result Cert AnalyseRefusal
best_cert_of seed tasks = best_of edf_meaning per_task_meaning (λ d. d) (generated_sheet seed tasks) 1000000

-- the dense run of the sheet, of 10,000 ticks
unfoldable pub dense_run_of : ℕ → ℕ → Run
dense_run_of seed tasks = simulated_run (world_of edf_meaning per_task_meaning (λ d. d) (generated_sheet seed tasks) Dense) 10000

-- the entries of a certificate, where there is one
abbrev pub entries_in : Result Cert AnalyseRefusal → List Entry
entries_in (Ok cert) = cert.entries
entries_in (Err e) = []

-- what an exercise counts, of the entries, of the run and of what is seen of each task in it
abbrev pub exercise_by : List Entry → Run → List Seen → Exercise
exercise_by entries run seen = record {
  points = sum_by (λ e. length e.points) entries;
  greatest = greatest_by (λ e. e.bound) entries;
  jobs = length run.jobs;
  done = sum_by (λ s. s.done) seen;
  worst = greatest_by (λ s. s.worst) seen;
}

-- the exercise of this seed, with so many tasks
unfoldable pub exercise_of : ℕ → ℕ → Exercise
exercise_of seed tasks = exercise_by (entries_in (best_cert_of seed tasks)) (dense_run_of seed tasks) (seen_below (dense_run_of seed tasks) tasks)

-- the best certificate meets the conditions, and the dense run complies
pub record ExerciseHolds (seed tasks : ℕ) : Type 0 where
  pub cert : Cert
  pub best : best_cert_of seed tasks ≡ Ok cert
  pub within : IsWithinGrammar cert
  pub meets : failed_of edf_meaning per_task_meaning (λ d. d) (generated_sheet seed tasks) false cert ≡ None
  pub complies : IsCompliant edf_meaning per_task_meaning (λ d. d) (generated_sheet seed tasks) (dense_run_of seed tasks)
