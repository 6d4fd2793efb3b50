-- The upgrade of the certificate that the bytes are.
use Rattle.std.proofs.Common.{◌≡◌, ◌≢◌, ◌<◌, ◌≤◌, nat_le, ℕ, Bool, true, false, if◌then◌else◌, List, length, Ok, Err, refl, sym, ap, subst, ◌∙◌, arith}
use Rattle.std.proofs.lemmas.Bool.{eq-eqb, ne_eqb, le-leb, leb-true, false_from_ne_true}
use Rattle.poet_io.specs.Texts.{Parses}
use Rattle.task_sheet.specs.SheetParts.{SheetParts}
use Rattle.policy_more.specs.Meanings.{meaning_of}
use Rattle.preemption.specs.Kinds.{per_task_meaning}
use Rattle.supply.specs.Promises.{sbf_of}
use Rattle.certificate.specs.declared.cert.Cert.{Cert}
use Rattle.certificate.specs.Text.{IsWithinGrammar, cert_format, text_of}
use Rattle.certificate.specs.Parsing.{cert_of_text}
use Rattle.conditions.specs.declared.failed.Cond.TheVariants.{K1}
use Rattle.conditions.specs.Conditions.{of_cert}
use Rattle.conditions.specs.Filled.{FailsAlike}
use Rattle.poet_text.specs.declared.printed.Printed.TheVariants as printed
use Rattle.poet_text.specs.declared.refusal.Source.TheVariants as source
use Rattle.poet_text.specs.declared.refusal.Refusal.TheVariants.{LongUpgrade}
use Rattle.poet_text.specs.Refusals.{limit_of}
use Rattle.poet_text.specs.Endings.{Ending}
use Rattle.poet_text.specs.Printing.{refused_text}
use Rattle.poet_cli.specs.Steps.{Gives}
use Rattle.poet_cli.specs.UpgradeAnswers.{upgraded, upgraded_by, upgrade_of, upgrade_by}
use Rattle.poet_cli.specs.Works.{UpgradeDoesOf, UpgradeDoes}

-- the answer by whether the text is within its limit, and by whether there is an entry for each task
abbrev by_length : Cert → Bool → Ending
by_length c fits = if fits then Ok (printed.Done (text_of c)) else Err LongUpgrade

abbrev by_count : SheetParts → Cert → Bool → Ending
by_count sheet cert counted = if counted then upgraded_by (upgraded sheet cert) else Ok (printed.JudgedNo (refused_text sheet (of_cert K1)))

module _ (sheet : SheetParts) (cert c : Cert) (count : length cert.entries ≡ length sheet.tasks) (is : c ≡ upgraded sheet cert) where
  counted : upgrade_of sheet cert ≡ upgraded_by c
  counted = ap (by_count sheet cert) (eq-eqb (length cert.entries) (length sheet.tasks) count) ∙ ap upgraded_by (sym is)

  pub upgraded_long : limit_of source.Certificate < length (text_of c) → UpgradeDoesOf sheet cert (Err LongUpgrade)
  upgraded_long long =
      let above : nat_le (length (text_of c)) (limit_of source.Certificate) ≡ false =
      false_from_ne_true _ (λ h. (let low : length (text_of c) ≤ limit_of source.Certificate = leb-true _ _ h in absurd (omega arith))) in
      record { gives = counted ∙ ap (by_length c) above; sound = tt; refused = tt }

  pub upgraded_done : (text : List ℕ) → length (text_of c) ≤ limit_of source.Certificate → text ≡ text_of c → IsWithinGrammar c →
      FailsAlike (meaning_of sheet.policy) per_task_meaning (sbf_of sheet.supply) sheet cert → UpgradeDoesOf sheet cert (Ok (printed.Done text))
  upgraded_done text short same fits alike =
      let within : nat_le (length (text_of c)) (limit_of source.Certificate) ≡ true = le-leb _ _ short in
      record {
        gives = counted ∙ ap (by_length c) within ∙ ap (λ (t : List ℕ). Ok (printed.Done t)) (sym same);
        sound = record {
          count = count;
          parses = record { within = subst IsWithinGrammar is fits; text = same ∙ ap text_of is };
          alike = alike;
        };
        refused = tt;
      }

pub upgraded_refused : (sheet : SheetParts) (cert : Cert) (text : List ℕ) → length cert.entries ≢ length sheet.tasks →
    text ≡ refused_text sheet (of_cert K1) → UpgradeDoesOf sheet cert (Ok (printed.JudgedNo text))
upgraded_refused sheet cert text count same = record {
  gives = ap (by_count sheet cert) (ne_eqb (length cert.entries) (length sheet.tasks) count) ∙ ap (λ (t : List ℕ). Ok (printed.JudgedNo t)) (sym same);
  sound = record { count = count; printed = same };
  refused = tt;
}

answer_read : (sheet : SheetParts) (bytes : List ℕ) (cert : Cert) → cert_of_text bytes ≡ Ok cert → upgrade_by sheet bytes ≡ upgrade_of sheet cert
answer_read sheet bytes cert reads = rw reads refl

pub upgrade_read : (sheet : SheetParts) (bytes : List ℕ) (cert : Cert) (ending : Ending) → cert_of_text bytes ≡ Ok cert →
    Parses cert_format bytes cert → UpgradeDoesOf sheet cert ending → UpgradeDoes sheet bytes ending
upgrade_read sheet bytes cert (Ok (printed.Done text)) reads parses does = record {
  gives = answer_read sheet bytes cert reads ∙ does.gives;
  sound = record { cert = cert; reads = parses; upgrade = does.sound };
  refused = tt;
}
upgrade_read sheet bytes cert (Ok (printed.JudgedNo text)) reads parses does = record {
  gives = answer_read sheet bytes cert reads ∙ does.gives;
  sound = record { cert = cert; reads = parses; failing = does.sound };
  refused = tt;
}
upgrade_read sheet bytes cert (Err refusal) reads parses does = record {
  gives = subst (λ (answer : Ending). Gives answer (Err refusal)) (sym (answer_read sheet bytes cert reads)) does.gives;
  sound = tt;
  refused = does.refused;
}
