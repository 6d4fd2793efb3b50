-- What the best certificate is, from its parts.
use Rattle.std.proofs.Common.{◌≡◌, ℕ, false, Result, Ok, Err, None, IfOk, refl, ap, arith}
use Rattle.task_sheet.specs.SheetParts.{SheetParts}
use Rattle.task_sheet.specs.Sheets.{IsValidSheet}
use Rattle.policy.specs.PolicyMeaning.{PolicyMeaning}
use Rattle.preemption.specs.Kinds.{per_task_meaning}
use Rattle.supply.specs.Promises.{sbf_of}
use Rattle.certificate.specs.declared.cert.Cert.{Cert}
use Rattle.certificate.specs.Text.{IsWithinGrammar, text_of}
use Rattle.conditions.specs.Conditions.{failed_of}
use Rattle.cert_check.specs.declared.judging.Verdict.TheVariants as verdict
use Rattle.cert_check.specs.Verdicts.{bounds_of, cert_verdict_of}
use Rattle.cert_check.specs.Laws.{MeetingIsAccepted, AcceptedIsSound}
use Rattle.solver.specs.declared.analysis.AnalyseRefusal.{AnalyseRefusal}
use Rattle.solver.specs.Best.{points_to, IsBest, IsUpTo, NoneSmaller}
use Rattle.exercise.proofs.CountFacts.{points_all}
use Rattle.poet_text.proofs.LengthFacts.{text_short}
use Rattle.poet_cli.specs.Analyses.{IsBestBy}

module _ (p : PolicyMeaning) (sheet : SheetParts) (horizon : ℕ) where
  pub best_from : MeetingIsAccepted p per_task_meaning (sbf_of sheet.supply) →
      AcceptedIsSound p per_task_meaning (sbf_of sheet.supply) → IsValidSheet sheet → (r : Result Cert AnalyseRefusal) →
      IfOk r (IsBest p per_task_meaning (sbf_of sheet.supply) sheet horizon) →
      IfOk r (λ cert. failed_of p per_task_meaning (sbf_of sheet.supply) sheet false cert ≡ None) → IfOk r IsWithinGrammar →
      IfOk r (IsUpTo horizon) → IfOk r (NoneSmaller p per_task_meaning (sbf_of sheet.supply) sheet) →
      IfOk r (IsBestBy p sheet horizon)
  best_from accepts sound valid (Ok cert) best meets within up_to least =
      let accepted : cert_verdict_of p per_task_meaning (sbf_of sheet.supply) sheet false (text_of cert) ≡ verdict.Accepted
      (bounds_of cert) = accepts sheet false cert within meets in
      record {
        within = within;
        up_to = up_to;
        short = text_short cert best.version within (omega (arith, points_all cert.entries, ap (points_to cert.entries) best.count, best.few));
        accepted = accepted;
        sound = sound sheet valid (λ o b. refl) false (text_of cert) (bounds_of cert) accepted;
        least = least;
      }
  best_from accepts sound valid (Err e) best meets within up_to least = tt
