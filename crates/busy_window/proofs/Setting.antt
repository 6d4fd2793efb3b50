-- What the proofs of step "What runs outside" of docs/ANALYSIS.md share:
-- a compliant run, and the laws of the cuts of its tasks.
use Rattle.std.proofs.Common.{ℕ, ◌<◌, length}
use Rattle.task_sheet.specs.SheetParts.{SheetParts}
use Rattle.task_sheet.specs.Sheets.{task_at}
use Rattle.policy.specs.PolicyMeaning.{PolicyMeaning}
use Rattle.preemption.specs.CutMeaning.{CutMeaning}
use Rattle.preemption.specs.CutLaws.{IsLawfulCut}
use Rattle.run_model.specs.declared.run.Run.{Run}
use Rattle.schedule_laws.specs.Compliance.{IsCompliant}

pub record Setting : Type 0 where
  pub p : PolicyMeaning
  pub m : CutMeaning
  pub sbf : ℕ → ℕ
  pub sheet : SheetParts
  pub run : Run
  pub cut : (o : ℕ) → o < length sheet.tasks → IsLawfulCut m (task_at sheet o)
  pub ok : IsCompliant p m sbf sheet run

abbrev pub setting_of : (p : PolicyMeaning) (m : CutMeaning) (sbf : ℕ → ℕ) (sheet : SheetParts) →
    ((o : ℕ) → o < length sheet.tasks → IsLawfulCut m (task_at sheet o)) →
    (run : Run) → IsCompliant p m sbf sheet run → Setting
setting_of p m sbf sheet cut run ok = record { p = p; m = m; sbf = sbf; sheet = sheet; run = run; cut = cut; ok = ok }
