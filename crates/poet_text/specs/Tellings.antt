-- How an ending is told to the two sinks.
use Rattle.std.specs.Prelude.{◌≡◌, ◌⊎◌, ℕ, List, Result, Ok, Err}
use Rattle.poet_io.specs.Faults.{Rose}
use Rattle.poet_io.specs.Sinks.{Appended, AppendedPart, Stayed, WroteLine}
use Rattle.poet_text.specs.declared.refusal.Refusal.{Refusal}
use Rattle.poet_text.specs.declared.printed.Printed.{Printed}
use Rattle.poet_text.specs.Refusals.{refusal_status, line_of, write_failed}
use Rattle.poet_text.specs.Endings.{Ending, printed_status, printed_text}

-- the two sinks at a moment
pub record Outlets : Type 0 where
  pub out : List ℕ
  pub out_faults : ℕ
  pub err : List ℕ
  pub err_faults : ℕ

abbrev pub outlets : {O E : Type 0} → (O → List ℕ) → (O → ℕ) → (E → List ℕ) → (E → ℕ) → O → E →
    Outlets
outlets out_written out_faults err_written err_faults out err =
    record {
      out = out_written out;
      out_faults = out_faults out;
      err = err_written err;
      err_faults = err_faults err;
    }

-- the text was written
pub record ToldText (print : Printed) (before after : Outlets) (status : ℕ) : Type 0 where
  pub status_is : status ≡ printed_status print
  pub text_is : Appended before.out after.out (printed_text print)
  pub silent : Stayed before.err after.err

-- the text could not be written
pub record ToldFault (print : Printed) (before after : Outlets) (status : ℕ) : Type 0 where
  pub status_is : status ≡ 4
  pub cause : Rose before.out_faults after.out_faults
  pub part : AppendedPart before.out after.out (printed_text print)
  pub line : WroteLine before.err after.err before.err_faults after.err_faults write_failed

-- the line of a refusal was written
pub record ToldLine (refusal : Refusal) (before after : Outlets) (status : ℕ) : Type 0 where
  pub status_is : status ≡ refusal_status refusal
  pub silent : Stayed before.out after.out
  pub line_is : WroteLine before.err after.err before.err_faults after.err_faults (line_of refusal)

-- how the writing of a text ended: with its status and nothing on err, or with status 4 and its line
abbrev pub Finished : {E : Type 0} → Result (Unit {0}) E → ℕ → List ℕ → List ℕ → ℕ → ℕ → ℕ → Type 0
Finished (Ok done) status before after faults_before faults_now answer =
    (answer ≡ status) × Stayed before after
Finished (Err fault) status before after faults_before faults_now answer =
    (answer ≡ 4) × WroteLine before after faults_before faults_now write_failed

-- how an ending was told
abbrev pub Told : Ending → Outlets → Outlets → ℕ → Type 0
Told (Ok print) before after status =
    ToldText print before after status ⊎ ToldFault print before after status
Told (Err refusal) before after status = ToldLine refusal before after status
