-- What a report tells, a row for each task.
use Rattle.std.specs.Prelude.{ℕ, Bool, not, List, nat_le, count_by}
use Rattle.std.specs.List.{zip}
use Rattle.task_sheet.specs.declared.tasks.Task.{Task}
use Rattle.task_sheet.specs.SheetParts.{SheetParts}
use Rattle.certificate.specs.declared.cert.Entry.{Entry}
use Rattle.certificate.specs.declared.cert.Cert.{Cert}

-- a task, and what the certificate claims of it
abbrev pub Row : Type 0
Row = Task × Entry

-- the tasks in their order
abbrev pub rows_of : SheetParts → Cert → List Row
rows_of sheet cert = zip sheet.tasks cert.entries

-- the bound is at most the deadline
abbrev pub is_met : Row → Bool
is_met row = nat_le row.1.bound row.0.deadline

-- how many bounds are above their deadlines
abbrev pub missed_of : List Row → ℕ
missed_of rows = count_by (λ row. not (is_met row)) rows
