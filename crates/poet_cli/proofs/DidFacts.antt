-- The clauses of the top call, from how a command ended, by which calls of its shelf, and how that was told.
use Rattle.std.proofs.Common.{◌≡◌, ◌↔◌, ℕ, Option, None}
use Rattle.poet_text.specs.Words.{Asked}
use Rattle.poet_cli.specs.Openings.{OpensFront}
use Rattle.poet_cli.specs.Origins.{WasPrinted}
use Rattle.poet_cli.specs.Program.{answer_of, MayFail, files_of, Headline, Objection}
use Rattle.poet_cli.specs.TableHeadline.{TableHeadline}
use Rattle.poet_cli.specs.Clauses.{Outside, Answers, Did, LeavesShelf}
use Rattle.poet_cli.proofs.FoundFacts.{does_found}
use Rattle.poet_cli.proofs.MayFacts.{does_may, does_usage}
use Rattle.poet_cli.proofs.OpeningFacts.{does_open}
use Rattle.poet_cli.proofs.DoesFacts.{does_sound, does_leave, leaves_told}
use Rattle.poet_cli.proofs.EndingFacts.{answers_from, usage_told, holds_told, fails_told, read_told}
use Rattle.poet_cli.proofs.TableFacts.{table_told}

module _ (asked : Option Asked) (before after : Outside) (status : ℕ) (did : Did asked before after status) where
  pub did_answers : Answers (answer_of asked) (MayFail asked before.shelf.files) before after status
  did_answers =
      answers_from (answer_of asked) (MayFail asked before.shelf.files) before.shelf after.shelf before.sinks after.sinks status did.ending
      (does_found asked before.shelf after.shelf did.ending did.does) (does_may asked before.shelf after.shelf did.ending did.does) did.told

  pub did_open : OpensFront (files_of asked) before.shelf.log after.shelf.log
  did_open = does_open asked before.shelf after.shelf did.ending did.does

  pub did_usage : status ≡ 2 ↔ (asked ≡ None)
  did_usage = usage_told did.ending before.sinks after.sinks status did.told (does_usage asked before.shelf after.shelf did.ending did.does)

  pub did_headline : status ≡ 0 → WasPrinted before.sinks.out after.sinks.out (Headline asked before.shelf.files before.shelf.log after.shelf.log)
  did_headline = holds_told _ _ did.ending before.sinks after.sinks status did.told (does_sound asked before.shelf after.shelf did.ending did.does)

  pub did_table : status ≡ 0 → WasPrinted before.sinks.out after.sinks.out (TableHeadline asked before.shelf.files before.shelf.log after.shelf.log)
  did_table done = table_told asked before.shelf.files before.shelf.log after.shelf.log before.sinks.out after.sinks.out (did_headline done)

  pub did_objection : status ≡ 1 → WasPrinted before.sinks.out after.sinks.out (Objection asked before.shelf.files before.shelf.log after.shelf.log)
  did_objection = fails_told _ _ did.ending before.sinks after.sinks status did.told (does_sound asked before.shelf after.shelf did.ending did.does)

  pub did_leave : LeavesShelf before.shelf after.shelf status
  did_leave =
      leaves_told before.shelf after.shelf did.ending status (does_leave asked before.shelf after.shelf did.ending did.does)
      (read_told did.ending before.sinks after.sinks status did.told)
