use Rattle.std.proofs.Common.{◌≡◌, ℕ, zero, suc, length, Option, Some, None, refl, sym, subst, arith}
use Rattle.std.proofs.lemmas.List.{length_push}
use Rattle.task_sheet.specs.SheetParts.{SheetParts}
use Rattle.run_model.specs.declared.run.Run.{Run}
use Rattle.audit.specs.declared.verdict.Fault.{Fault}
use Rattle.audit.specs.declared.verdict.AuditVerdict.{AuditVerdict}
use Rattle.audit.specs.Responses.{seen_of, seen_below}
use Rattle.audit.specs.Verdicts.{verdict_by}
use Rattle.poet_text.specs.RunPrinting.{IsPrintableVerdict}

seen_count : (run : Run) (n : ℕ) → length (seen_below run n) ≡ n
seen_count run zero = refl
seen_count run (suc n) = omega (arith, length_push (seen_below run n) (seen_of run n), seen_count run n)

printable_by : (sheet : SheetParts) (run : Run) (fault : Option Fault) → IsPrintableVerdict sheet (verdict_by fault (seen_below run (length sheet.tasks)))
printable_by sheet run None = seen_count run (length sheet.tasks)
printable_by sheet run (Some fault) = tt

-- a verdict tells of as many tasks as there are
pub printable : (sheet : SheetParts) (run : Run) (fault : Option Fault) (v : AuditVerdict) →
    v ≡ verdict_by fault (seen_below run (length sheet.tasks)) → IsPrintableVerdict sheet v
printable sheet run fault v is = subst (IsPrintableVerdict sheet) (sym is) (printable_by sheet run fault)
