-- What an analysis promises: of the certificate that it prints, or where it says that there is none.
use Rattle.std.specs.Prelude.{◌≡◌, ◌≤◌, ℕ, false, List, length, Some, Ok, Err}
use Rattle.task_sheet.specs.SheetParts.{SheetParts}
use Rattle.task_sheet.specs.Sheets.{task_at}
use Rattle.policy.specs.PolicyMeaning.{PolicyMeaning}
use Rattle.policy_more.specs.Meanings.{meaning_of}
use Rattle.preemption.specs.Kinds.{per_task_meaning}
use Rattle.supply.specs.Promises.{sbf_of}
use Rattle.certificate.specs.declared.cert.Cert.{Cert}
use Rattle.certificate.specs.Text.{IsWithinGrammar, text_of}
use Rattle.cert_check.specs.declared.judging.Verdict.TheVariants as verdict
use Rattle.cert_check.specs.Verdicts.{bounds_of, cert_verdict_of, AreSound}
use Rattle.solver.specs.declared.analysis.Part.{Part}
use Rattle.solver.specs.declared.analysis.AnalyseRefusal.{AnalyseRefusal}
use Rattle.solver.specs.declared.analysis.AnalyseRefusal.TheVariants as solver
use Rattle.solver.specs.Best.{IsUpTo, NoneSmaller, NoneMeets, NoneWhereNoBound}
use Rattle.poet_text.specs.declared.printed.Printed.TheVariants as printed
use Rattle.poet_text.specs.declared.refusal.Source.TheVariants as source
use Rattle.poet_text.specs.Refusals.{limit_of}
use Rattle.poet_text.specs.Endings.{next}
use Rattle.poet_text.specs.Printing.{no_bound_text}
use Rattle.poet_cli.specs.Headline.{accepted_for}
use Rattle.poet_cli.specs.Answers.{within, best_for, judge_by}

-- the numbers are up to the horizon, the certificate's text is within the limit of its file and is accepted,
-- its bounds hold in every compliant run, and no certificate that meets the conditions has a smaller window
-- or bound
pub record IsBestBy (p : PolicyMeaning) (sheet : SheetParts) (horizon : ℕ) (cert : Cert)
    : Type 0 where
  pub within : IsWithinGrammar cert
  pub up_to : IsUpTo horizon cert
  pub short : length (text_of cert) ≤ limit_of source.Certificate
  pub accepted : cert_verdict_of p per_task_meaning (sbf_of sheet.supply) sheet false
      (text_of cert) ≡ verdict.Accepted (bounds_of cert)
  pub sound : AreSound p per_task_meaning (sbf_of sheet.supply) sheet false (bounds_of cert)
  pub least : NoneSmaller p per_task_meaning (sbf_of sheet.supply) sheet cert

-- where a task has no window or no bound, no certificate with numbers up to the horizon meets the conditions; for
-- want of a bound none that has a point in each entry
abbrev pub IsNoneBy : PolicyMeaning → SheetParts → ℕ → AnalyseRefusal → Type 0
IsNoneBy p sheet horizon refusal =
    NoneWhereNoBound p per_task_meaning (sbf_of sheet.supply) sheet horizon refusal

-- where the certificate's text stands in its file, check accepts it and prints its bounds
abbrev pub Checks : SheetParts → Cert → Type 0
Checks sheet cert =
    next (within source.Certificate (Some (text_of cert))) (judge_by accepted_for false sheet)
    ≡ Ok (printed.Done (accepted_for sheet cert))

-- the best certificate of a sheet, by its own policy; and the text is this certificate's
pub record BestHolds (sheet : SheetParts) (horizon : ℕ) (text : List ℕ) : Type 0 where
  pub cert : Cert
  pub best : best_for sheet horizon ≡ Ok cert
  pub holds : IsBestBy (meaning_of sheet.policy) sheet horizon cert
  pub checks : Checks sheet cert
  pub printed : text ≡ text_of cert

-- no certificate with numbers up to the horizon meets the conditions, by the sheet's own policy, for want of a
-- bound none that has a point in each entry; and the text names a task that has no window or no bound
pub record NoneHolds (sheet : SheetParts) (horizon : ℕ) (text : List ℕ) : Type 0 where
  pub task : ℕ
  pub part : Part
  pub no_bound : best_for sheet horizon ≡ Err (solver.NoBound task part)
  pub none : NoneMeets (meaning_of sheet.policy) per_task_meaning
      (sbf_of sheet.supply) sheet horizon part
  pub printed : text ≡ no_bound_text (task_at sheet task).name part
