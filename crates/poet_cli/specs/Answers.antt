-- The answers of the commands that judge a certificate, and of `analyse`.
use Rattle.std.specs.Prelude.{ℕ, Bool, List, length, Option, Some, None, Result, Ok, Err, nat_le, if◌then◌else◌}
use Rattle.poet_io.specs.Shelves.{Files}
use Rattle.poet_io.specs.declared.text_refusal.TextRefusal.{TextRefusal}
use Rattle.poet_io.specs.declared.text_refusal.TextRefusal.TheVariants as texts
use Rattle.task_sheet.specs.SheetParts.{SheetParts}
use Rattle.task_sheet.specs.Sheets.{task_at}
use Rattle.task_sheet.specs.declared.refusal.SheetRefusal.{SheetRefusal}
use Rattle.task_sheet.specs.declared.refusal.SheetRefusal.TheVariants as sheets
use Rattle.sheet_text.specs.SheetRows.{sheet_of_text}
use Rattle.policy_more.specs.Meanings.{meaning_of}
use Rattle.preemption.specs.Kinds.{per_task_meaning}
use Rattle.supply.specs.Promises.{sbf_of}
use Rattle.conditions.specs.declared.failed.Failed.{Failed}
use Rattle.conditions.specs.Conditions.{failed_of}
use Rattle.certificate.specs.declared.cert.Cert.{Cert}
use Rattle.certificate.specs.Text.{text_of}
use Rattle.certificate.specs.Parsing.{cert_of_text}
use Rattle.solver.specs.declared.analysis.AnalyseRefusal.{AnalyseRefusal}
use Rattle.solver.specs.declared.analysis.AnalyseRefusal.TheVariants as solver
use Rattle.solver.specs.Outcome.{best_of}
use Rattle.poet_text.specs.declared.refusal.Source.{Source}
use Rattle.poet_text.specs.declared.refusal.Source.TheVariants as source
use Rattle.poet_text.specs.declared.refusal.Refusal.{Refusal}
use Rattle.poet_text.specs.declared.refusal.Refusal.TheVariants.{Read, Sheet, Text, Limit, Points, Memory}
use Rattle.poet_text.specs.declared.printed.Printed.{Printed}
use Rattle.poet_text.specs.declared.printed.Printed.TheVariants as printed
use Rattle.poet_text.specs.Refusals.{limit_of}
use Rattle.poet_text.specs.Endings.{Ending, next}
use Rattle.poet_text.specs.Printing.{refused_text, no_bound_text}

-- the bytes of a file, within the limit of its kind
abbrev pub within : Source → Option (List ℕ) → Result (List ℕ) Refusal
within which None = Err (Read which)
within which (Some bytes) =
    if nat_le (length bytes) (limit_of which) then Ok bytes else Err (Limit which)

abbrev pub file_in : Source → List ℕ → Files → Result (List ℕ) Refusal
file_in which name files = within which (files name)

-- a sheet, or why it is none; want of memory is of no sheet
abbrev pub sheet_read : Result SheetParts SheetRefusal → Result SheetParts Refusal
sheet_read (Ok sheet) = Ok sheet
sheet_read (Err sheets.Memory) = Err Memory
sheet_read (Err refusal) = Err (Sheet refusal)

-- the sheet that these bytes are
abbrev pub sheet_by : List ℕ → Result SheetParts Refusal
sheet_by bytes = sheet_read (sheet_of_text bytes)

-- the sheet of a file
abbrev pub sheet_in : List ℕ → Files → Result SheetParts Refusal
sheet_in name files = next (file_in source.Sheet name files) sheet_by

-- a value that a text gave, or why it gave none
abbrev pub text_read : {A : Type 0} → Source → Result A TextRefusal → Result A Refusal
text_read which (Ok value) = Ok value
text_read which (Err (texts.Line line)) = Err (Text which line)
text_read which (Err texts.Memory) = Err Memory

-- the first condition that a certificate fails to meet, by the sheet's own policy, preemption and supply
abbrev pub failed_for : SheetParts → Bool → Cert → Option Failed
failed_for sheet deadlines cert =
    failed_of (meaning_of sheet.policy) per_task_meaning (sbf_of sheet.supply) sheet deadlines cert

-- what is printed of a certificate: this text, if no condition fails
abbrev pub judged_by : (SheetParts → Cert → List ℕ) → SheetParts → Cert → Option Failed → Printed
judged_by print sheet cert None = printed.Done (print sheet cert)
judged_by print sheet cert (Some failed) = printed.JudgedNo (refused_text sheet failed)

-- the answer over a sheet and the bytes of a certificate
abbrev pub judge_by : (SheetParts → Cert → List ℕ) → Bool → SheetParts → List ℕ → Ending
judge_by print deadlines sheet bytes =
    next (text_read source.Certificate (cert_of_text bytes))
    (λ cert. Ok (judged_by print sheet cert (failed_for sheet deadlines cert)))

-- the best certificate up to the horizon, by the sheet's own policy, preemption and supply
abbrev pub best_for : SheetParts → ℕ → Result Cert AnalyseRefusal
best_for sheet horizon =
    best_of (meaning_of sheet.policy) per_task_meaning (sbf_of sheet.supply) sheet horizon

-- what is printed of an analysis: the certificate's text, or which task has no bound
abbrev pub analysed_by : SheetParts → Result Cert AnalyseRefusal → Ending
analysed_by sheet (Ok cert) = Ok (printed.Done (text_of cert))
analysed_by sheet (Err (solver.NoBound i part)) =
    Ok (printed.JudgedNo (no_bound_text (task_at sheet i).name part))
analysed_by sheet (Err (solver.Points i)) = Err (Points (task_at sheet i).name)
analysed_by sheet (Err solver.Memory) = Err Memory

-- the answer of `analyse` over a sheet
abbrev pub analyse_by : ℕ → SheetParts → Ending
analyse_by horizon sheet = analysed_by sheet (best_for sheet horizon)
