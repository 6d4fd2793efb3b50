-- The verdict on a run.
use Rattle.std.specs.Prelude.{◌≡◌, ◌↔◌, ℕ, List, length, Option, Some, None}
use Rattle.task_sheet.specs.SheetParts.{SheetParts}
use Rattle.task_sheet.specs.Sheets.{IsValidSheet}
use Rattle.policy.specs.PolicyMeaning.{PolicyMeaning}
use Rattle.preemption.specs.CutMeaning.{CutMeaning}
use Rattle.run_model.specs.declared.run.Run.{Run}
use Rattle.schedule_laws.specs.Compliance.{IsCompliant}
use Rattle.audit.specs.declared.verdict.Fault.{Fault}
use Rattle.audit.specs.declared.verdict.Seen.{Seen}
use Rattle.audit.specs.declared.verdict.AuditVerdict.{AuditVerdict}
use Rattle.audit.specs.declared.verdict.AuditVerdict.TheVariants.{Compliant, Broken}
use Rattle.audit.specs.Faults.{first_broken}
use Rattle.audit.specs.Responses.{seen_below}

-- broken where there is a fault, else what is seen of each task
abbrev pub verdict_by : Option Fault → List Seen → AuditVerdict
verdict_by (Some fault) seen = Broken fault.rule fault.job fault.tick
verdict_by None seen = Compliant seen

-- the verdict on a run
abbrev pub verdict_of : PolicyMeaning → CutMeaning → (ℕ → ℕ) → SheetParts → Run → AuditVerdict
verdict_of p m sbf sheet run = verdict_by (first_broken p m sbf sheet run) (seen_below run (length sheet.tasks))

-- the verdict says whether the run complies
abbrev pub TellsCompliance : PolicyMeaning → CutMeaning → (ℕ → ℕ) → SheetParts → Run → AuditVerdict → Type 0
TellsCompliance p m sbf sheet run (Compliant seen) = IsCompliant p m sbf sheet run
TellsCompliance p m sbf sheet run (Broken of job tick) = IsCompliant p m sbf sheet run → ⊥

-- a run breaks no rule exactly where it complies
abbrev pub VerdictDecides : PolicyMeaning → CutMeaning → (ℕ → ℕ) → Type 0
VerdictDecides p m sbf =
    (sheet : SheetParts) → IsValidSheet sheet → (run : Run) →
    (first_broken p m sbf sheet run ≡ None) ↔ IsCompliant p m sbf sheet run
