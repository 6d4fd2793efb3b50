-- What is printed of a certificate that is accepted.
use Rattle.std.proofs.Common.{◌≡◌, ℕ, false, List, Option, Some, None, Result, Ok, Err, refl, ap}
use Rattle.poet_io.specs.declared.text_refusal.TextRefusal.{TextRefusal}
use Rattle.poet_io.specs.declared.text_refusal.TextRefusal.TheVariants as texts
use Rattle.task_sheet.specs.SheetParts.{SheetParts}
use Rattle.policy_more.specs.Meanings.{meaning_of}
use Rattle.preemption.specs.Kinds.{per_task_meaning}
use Rattle.supply.specs.Promises.{sbf_of}
use Rattle.certificate.specs.declared.cert.Cert.{Cert}
use Rattle.certificate.specs.Text.{text_of}
use Rattle.certificate.specs.Parsing.{cert_of_text}
use Rattle.conditions.specs.declared.failed.Failed.{Failed}
use Rattle.cert_check.specs.declared.judging.Verdict.TheVariants as verdict
use Rattle.cert_check.specs.Verdicts.{bounds_of, judged_as, verdict_by, cert_verdict_of}
use Rattle.poet_text.specs.declared.printed.Printed.TheVariants as printed
use Rattle.poet_text.specs.declared.refusal.Source.TheVariants as source
use Rattle.poet_text.specs.Endings.{next}
use Rattle.poet_text.specs.Printing.{accepted_text}
use Rattle.poet_cli.specs.Headline.{accepted_for}
use Rattle.poet_cli.specs.Answers.{text_read, failed_for, judged_by, judge_by, best_for}
use Rattle.poet_cli.specs.Analyses.{IsBestBy, Checks}
use Rattle.poet_cli.specs.Works.{AnalyseDoes}
use Rattle.poet_cli.proofs.FoundFacts.{within_few}

accepted_by : (sheet : SheetParts) (cert : Cert) (failed : Option Failed) (bounds : List ℕ) → judged_as cert failed ≡ verdict.Accepted bounds →
    judged_by accepted_for sheet cert failed ≡ printed.Done (accepted_text sheet bounds)
accepted_by sheet cert None bounds e = let same : bounds_of cert ≡ bounds = cc in rw same refl
accepted_by sheet cert (Some failed) bounds e = absurd (cc)

accepted_read : (sheet : SheetParts) (failed : Cert → Option Failed) (read : Result Cert TextRefusal) (bounds : List ℕ) →
    verdict_by failed read ≡ verdict.Accepted bounds →
    next (text_read source.Certificate read) (λ cert. Ok (judged_by accepted_for sheet cert (failed cert))) ≡ Ok (printed.Done (accepted_text sheet bounds))
accepted_read sheet failed (Ok cert) bounds e = ap (λ x. Ok x) (accepted_by sheet cert (failed cert) bounds e)
accepted_read sheet failed (Err (texts.Line line)) bounds e = absurd (cc)
accepted_read sheet failed (Err texts.Memory) bounds e = absurd (cc)

accepted_judged : (sheet : SheetParts) (bytes bounds : List ℕ) →
    cert_verdict_of (meaning_of sheet.policy) per_task_meaning (sbf_of sheet.supply) sheet false bytes ≡ verdict.Accepted bounds →
    judge_by accepted_for false sheet bytes ≡ Ok (printed.Done (accepted_text sheet bounds))
unfolding cert_of_text cert_verdict_of
accepted_judged sheet bytes bounds e = accepted_read sheet (λ cert. failed_for sheet false cert) (cert_of_text bytes) bounds e

-- check accepts the best certificate
best_checks : (sheet : SheetParts) (horizon : ℕ) (cert : Cert) → IsBestBy (meaning_of sheet.policy) sheet horizon cert → Checks sheet cert
best_checks sheet horizon cert best =
    let here = within_few source.Certificate (text_of cert) best.short in
    rw here (accepted_judged sheet (text_of cert) (bounds_of cert) best.accepted)

-- the best certificate, and its text
pub analysis_judged : (sheet : SheetParts) (horizon : ℕ) (cert : Cert) (text : List ℕ) → text ≡ text_of cert → best_for sheet horizon ≡ Ok cert →
    IsBestBy (meaning_of sheet.policy) sheet horizon cert → AnalyseDoes horizon sheet (Ok (printed.Done text))
analysis_judged sheet horizon cert text same exact best =
    record {
      gives = rw (exact, same) refl;
      sound = record { cert = cert; best = exact; holds = best; checks = best_checks sheet horizon cert best; printed = same };
      refused = tt;
    }
