-- What is printed of a verdict on a run.
use Rattle.std.specs.Prelude.{◌≡◌, ℕ, List, [], ◌∷◌, ◌++◌, length, Option, codes}
use Rattle.task_sheet.specs.declared.tasks.Task.{Task}
use Rattle.task_sheet.specs.SheetParts.{SheetParts}
use Rattle.audit.specs.declared.verdict.Rule.{Rule}
use Rattle.audit.specs.declared.verdict.Rule.TheVariants.{Fit, Release, Valid, Curve, Supply, Idle, Segment, Priority}
use Rattle.audit.specs.declared.verdict.Seen.{Seen}
use Rattle.audit.specs.declared.verdict.AuditVerdict.{AuditVerdict}
use Rattle.audit.specs.declared.verdict.AuditVerdict.TheVariants.{Compliant, Broken}
use Rattle.poet_text.specs.declared.printed.Printed.{Printed}
use Rattle.poet_text.specs.declared.printed.Printed.TheVariants.{Done, JudgedNo}
use Rattle.poet_text.specs.Printing.{counted, named}

-- how many jobs there are and are done, and the worst response time, up to the line's end
unfoldable pub jobs_text : ℕ → ℕ → ℕ → List ℕ
jobs_text jobs done worst =
    counted (codes " jobs ") jobs ++ (counted (codes " done ") done ++ (counted (codes " worst ") worst ++ codes "\n"))

-- task NAME jobs J done M worst W
unfoldable pub seen_line : Task → Seen → List ℕ
seen_line task seen =
    codes "task " ++ (task.name ++
    (counted (codes " jobs ") seen.jobs ++ (counted (codes " done ") seen.done ++ (counted (codes " worst ") seen.worst ++ codes "\n"))))

-- a line for each task
abbrev pub seen_text : List Task → List Seen → List ℕ
seen_text [] seen = []
seen_text (task ∷ tasks) [] = []
seen_text (task ∷ tasks) (one ∷ seen) = seen_line task one ++ seen_text tasks seen

unfoldable pub compliant_text : SheetParts → List Seen → List ℕ
compliant_text sheet seen = codes "compliant\n" ++ seen_text sheet.tasks seen

abbrev pub rule_word : Rule → List ℕ
rule_word Fit = codes "fit"
rule_word Release = codes "release"
rule_word Valid = codes "valid"
rule_word Curve = codes "curve"
rule_word Supply = codes "supply"
rule_word Idle = codes "idle"
rule_word Segment = codes "segment"
rule_word Priority = codes "priority"

-- broken RULE job K tick T, without what the rule does not name
unfoldable pub broken_text : Rule → Option ℕ → Option ℕ → List ℕ
broken_text rule job tick = codes "broken " ++ (rule_word rule ++ (named (codes " job ") job ++ (named (codes " tick ") tick ++ codes "\n")))

abbrev pub audit_print : SheetParts → AuditVerdict → Printed
audit_print sheet (Compliant seen) = Done (compliant_text sheet seen)
audit_print sheet (Broken rule job tick) = JudgedNo (broken_text rule job tick)

-- there are as many lines as tasks
abbrev pub IsPrintableVerdict : SheetParts → AuditVerdict → Type 0
IsPrintableVerdict sheet (Compliant seen) = length seen ≡ length sheet.tasks
IsPrintableVerdict sheet (Broken rule job tick) = Unit {0}
