-- What the top call says of its status, of what it wrote and of its shelf.
use Rattle.std.specs.Prelude.{◌≡◌, ◌≢◌, ◌≤◌, ◌⊎◌, ℕ, false, List, Option, IsOk}
use Rattle.poet_io.specs.Faults.{Rose}
use Rattle.poet_io.specs.Shelves.{Files, IfTold, IsTold}
use Rattle.poet_io.specs.Sinks.{Appended, AppendedPart, Stayed, WroteLine}
use Rattle.poet_text.specs.declared.refusal.Source.{Source}
use Rattle.poet_text.specs.declared.refusal.Refusal.{Refusal}
use Rattle.poet_text.specs.declared.refusal.Refusal.TheVariants.{Usage, Read, Memory}
use Rattle.poet_text.specs.Refusals.{refusal_status, line_of, write_failed}
use Rattle.poet_text.specs.Words.{Asked}
use Rattle.poet_text.specs.Endings.{Ending, ending_status, out_text, err_text}
use Rattle.poet_text.specs.Tellings.{Outlets, Told}
use Rattle.poet_cli.specs.Readings.{ShelfAt}
use Rattle.poet_cli.specs.Program.{Does}

-- the outside at a moment: the shelf and the sinks
pub record Outside : Type 0 where
  pub shelf : ShelfAt
  pub sinks : Outlets

abbrev pub outside : ShelfAt → Outlets → Outside
outside shelf sinks = record { shelf = shelf; sinks = sinks }

-- the status is the answer's, and so is the text that out took
abbrev pub TellsAnswer : Ending → Outside → Outside → ℕ → Type 0
TellsAnswer ending before after status =
    (status ≡ ending_status ending) × Appended before.sinks.out after.sinks.out (out_text ending)

-- the line for a file that could not be read
pub record IsReadLine (answer : Files → Ending) (may : Refusal → Type 0) (before after : Outside)
    (line : List ℕ) : Type 0 where
  pub source : Source
  pub line_is : line ≡ line_of (Read source)
  pub may_fail : may (Read source)
  pub no_fault : ¬ Rose before.shelf.faults after.shelf.faults → IfTold before.shelf.files
      (λ files. line ≡ err_text (answer files))

-- the line of a refusal with this status that the command can give
pub record IsRefusalLine (may : Refusal → Type 0) (status : ℕ) (line : List ℕ) : Type 0 where
  pub refusal : Refusal
  pub may_be : may refusal
  pub status_is : status ≡ refusal_status refusal
  pub line_is : line ≡ line_of refusal

-- which line was written to err for a status from 2 on, whole where the faults of err did not rise
pub record SaysWhy (answer : Files → Ending) (may : Refusal → Type 0) (before after : Outside)
    (status : ℕ) : Type 0 where
  pub line : List ℕ
  pub one_line : WroteLine before.sinks.err after.sinks.err before.sinks.err_faults after.sinks.err_faults line
  pub refusal_is : status ≢ 4 → IsRefusalLine may status line
  pub usage_line : status ≡ 2 → line ≡ line_of Usage
  pub read_line : status ≡ 3 → IsReadLine answer may before after line
  pub write_line : status ≡ 4 → line ≡ write_failed
  pub refusal_line : 5 ≤ status → status ≤ 7 → IfTold before.shelf.files
      (λ files. line ≡ err_text (answer files))
  pub memory_line : status ≡ 8 → line ≡ line_of Memory

-- what a call leaves of its shelf: its files, no fewer faults, and nothing open where one could not be read
pub record LeavesShelf (before now : ShelfAt) (status : ℕ) : Type 0 where
  pub files : now.files ≡ before.files
  pub later : before.faults ≤ now.faults
  pub closed : status ≡ 3 → now.is_open ≡ false

-- what a call tells whose answer is this function of the files, and that may be refused so
pub record Answers (answer : Files → Ending) (may : Refusal → Type 0) (before after : Outside)
    (status : ℕ) : Type 0 where
  -- the answer is the defined one, but for faults and want of memory
  pub answer_is : status ≢ 3 → status ≢ 4 → status ≢ 8 →
      IfTold before.shelf.files (λ files. TellsAnswer (answer files) before after status)
  -- a failed read has its cause
  pub read_cause : status ≡ 3 → Rose before.shelf.faults after.shelf.faults
      ⊎ IsTold before.shelf.files (λ files. ending_status (answer files) ≡ 3)
  -- a failed write has its cause, and leaves a prefix of the text
  pub write_cause : status ≡ 4 → Rose before.sinks.out_faults after.sinks.out_faults
  pub write_part : status ≡ 4 → IfTold before.shelf.files (λ files.
      IsOk (answer files) × AppendedPart before.sinks.out after.sinks.out (out_text (answer files)))
  -- what is silent
  pub silent_out : 2 ≤ status → status ≢ 4 → Stayed before.sinks.out after.sinks.out
  pub silent_err : status ≤ 1 → Stayed before.sinks.err after.sinks.err
  pub few : status ≤ 8
  -- which line
  pub says_why : 2 ≤ status → SaysWhy answer may before after status
  -- with no fault counted the answer is the defined one, or memory
  pub complete : ¬ Rose before.shelf.faults after.shelf.faults →
      ¬ Rose before.sinks.out_faults after.sinks.out_faults →
      IfTold before.shelf.files
      (λ files. (status ≡ 8) ⊎ TellsAnswer (answer files) before after status)

-- how the command ended, by which calls of its shelf, and how that was told
pub record Did (asked : Option Asked) (before after : Outside) (status : ℕ) : Type 0 where
  pub ending : Ending
  pub does : Does asked before.shelf after.shelf ending
  pub told : Told ending before.sinks after.sinks status
