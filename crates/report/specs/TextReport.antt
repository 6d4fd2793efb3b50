-- The report as a table.
use Rattle.std.specs.Prelude.{ℕ, ◌-◌, ◌*◌, List, ◌++◌, length, replicate, min, codes, decimal, if◌then◌else◌}
use Rattle.std.specs.List.{flat_map}
use Rattle.std.specs.Int.{div_ceil}
use Rattle.task_sheet.specs.SheetParts.{SheetParts}
use Rattle.certificate.specs.declared.cert.Cert.{Cert}
use Rattle.report.specs.Rows.{Row, rows_of, is_met, missed_of}

-- the bytes at the left of a column; longer ones take their length
abbrev pub left_in : ℕ → List ℕ → List ℕ
left_in width bytes = bytes ++ replicate (width - length bytes) 32

-- the bytes at the right of a column
abbrev pub right_in : ℕ → List ℕ → List ℕ
right_in width bytes = replicate (width - length bytes) 32 ++ bytes

-- what the sheet says of a task
abbrev pub task_columns : List ℕ → List ℕ → List ℕ → List ℕ
task_columns name cost deadline = left_in 16 name ++ (codes " " ++ (right_in 10 cost ++ (codes " " ++ right_in 10 deadline)))

-- what the certificate claims of it
abbrev pub claim_columns : List ℕ → List ℕ → List ℕ → List ℕ
claim_columns bound window points = right_in 10 bound ++ (codes " " ++ (right_in 10 window ++ (codes " " ++ right_in 7 points)))

-- how the two compare
abbrev pub result_columns : List ℕ → List ℕ → List ℕ
result_columns result bar = left_in 6 result ++ (codes " " ++ bar)

-- a line of eight columns, with a space between each two
abbrev pub line_of : List ℕ → List ℕ → List ℕ → List ℕ → List ℕ → List ℕ → List ℕ → List ℕ → List ℕ
line_of name cost deadline bound window points result bar =
    task_columns name cost deadline ++ (codes " " ++ (claim_columns bound window points ++ (codes " " ++ (result_columns result bar ++ codes "\n"))))

abbrev pub header : List ℕ
header = line_of (codes "task") (codes "cost") (codes "deadline") (codes "bound") (codes "window") (codes "points") (codes "result") (codes "use")

abbrev pub result_word : Row → List ℕ
result_word row = if is_met row then codes "met" else codes "missed"

-- how many twentieths of the deadline the bound takes, rounded up, and 20 at most
abbrev pub marks_of : ℕ → ℕ → ℕ
marks_of bound deadline = min 20 (div_ceil (bound * 20) deadline)

-- 20 bytes: a # for each of the twentieths, then a . for each of the others
abbrev pub bar_of : ℕ → List ℕ
bar_of marks = replicate marks 35 ++ replicate (20 - marks) 46

-- the line of a task
unfoldable pub row_line : Row → List ℕ
row_line row =
    line_of row.0.name (decimal row.0.cost) (decimal row.0.deadline) (decimal row.1.bound) (decimal row.1.window)
    (decimal (length row.1.points)) (result_word row)
    (bar_of (marks_of row.1.bound row.0.deadline))

-- tasks N missed M
abbrev pub last_line : List Row → List ℕ
last_line rows = codes "tasks " ++ (decimal (length rows) ++ (codes " missed " ++ (decimal (missed_of rows) ++ codes "\n")))

unfoldable pub text_report_of : SheetParts → Cert → List ℕ
text_report_of sheet cert = header ++ (flat_map row_line (rows_of sheet cert) ++ last_line (rows_of sheet cert))
