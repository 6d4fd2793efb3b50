use Rattle.std.specs.Prelude.{◌≡◌, ℕ, ◌≤◌, None, Ok}
use Rattle.task_sheet.specs.Sheets.{IsValidSheet}
use Rattle.certificate.specs.declared.cert.Cert.{Cert}
use Rattle.simulator.specs.Simulations.{refused_by}
use Rattle.exercise.specs.GeneratedSheet.{generated_sheet}
use Rattle.exercise.specs.Exercises.{best_cert_of, dense_run_of}

-- a sheet of 1 to 64 tasks that a seed makes is valid
abbrev pub GeneratedIsValid : Type 0
GeneratedIsValid = (seed n : ℕ) → 1 ≤ n → n ≤ 64 → IsValidSheet (generated_sheet seed n)

-- there is a best certificate, and the dense run passes no limit
pub record Succeeds (seed tasks : ℕ) : Type 0 where
  pub cert : Cert
  pub best : best_cert_of seed tasks ≡ Ok cert
  pub within_limits : refused_by (dense_run_of seed tasks).jobs ≡ None

-- an exercise of 1 to 64 tasks is never refused
abbrev pub ExerciseSucceeds : Type 0
ExerciseSucceeds = (seed tasks : ℕ) → 1 ≤ tasks → tasks ≤ 64 → Succeeds seed tasks
