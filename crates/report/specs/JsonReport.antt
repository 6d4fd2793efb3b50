-- The report as a JSON value, and its text.
use Rattle.std.specs.Prelude.{ℕ, Bool, List, [], ◌∷◌, ◌++◌, length, map, codes, decimal, if◌then◌else◌}
use Rattle.json.specs.Print.{quoted}
use Rattle.serde_json.specs.Data.{Data, number, unsigned, boolean, string, array, object, member, no_members}
use Rattle.serde_json.specs.View.{items_of}
use Rattle.task_sheet.specs.SheetParts.{SheetParts}
use Rattle.task_sheet.specs.Words.{policy_word}
use Rattle.certificate.specs.declared.cert.Cert.{Cert}
use Rattle.report.specs.Rows.{Row, rows_of, is_met, missed_of}

abbrev pub truth_word : Bool → List ℕ
truth_word b = if b then codes "true" else codes "false"

-- the object of a task, its keys in the order of their bytes
abbrev pub row_text : Row → List ℕ
row_text row =
    codes "{\"bound\":" ++ (decimal row.1.bound ++ (codes ",\"cost\":" ++ (decimal row.0.cost ++ (codes ",\"deadline\":" ++ (decimal row.0.deadline
    ++ (codes ",\"met\":" ++ (truth_word (is_met row) ++ (codes ",\"name\":" ++ (quoted row.0.name ++ (codes ",\"points\":" ++ (decimal (length row.1.points)
    ++ (codes ",\"window\":" ++ (decimal row.1.window ++ codes "}")))))))))))))

-- the objects after the first, each behind a comma
abbrev pub more_rows_text : List Row → List ℕ
more_rows_text [] = []
more_rows_text (row ∷ rows) = codes "," ++ (row_text row ++ more_rows_text rows)

-- the objects, with commas between them
abbrev pub rows_text : List Row → List ℕ
rows_text [] = []
rows_text (row ∷ rows) = row_text row ++ more_rows_text rows

-- the report's line: one object
unfoldable pub json_report_of : SheetParts → Cert → List ℕ
json_report_of sheet cert =
    codes "{\"missed\":" ++ (decimal (missed_of (rows_of sheet cert)) ++ (codes ",\"policy\":\"" ++ (policy_word sheet.policy ++ (codes "\",\"tasks\":["
    ++ (rows_text (rows_of sheet cert) ++ codes "]}\n")))))

-- a task as a JSON value
abbrev pub row_data : Row → Data
row_data row =
    object (member (codes "bound") (number (unsigned row.1.bound))
    (member (codes "cost") (number (unsigned row.0.cost)) (member (codes "deadline") (number (unsigned row.0.deadline))
    (member (codes "met") (boolean (is_met row)) (member (codes "name") (string row.0.name) (member (codes "points") (number (unsigned (length row.1.points)))
    (member (codes "window") (number (unsigned row.1.window)) no_members)))))))

-- the report as a JSON value
abbrev pub report_data : SheetParts → Cert → Data
report_data sheet cert =
    object (member (codes "missed") (number (unsigned (missed_of (rows_of sheet cert)))) (member (codes "policy") (string (policy_word sheet.policy))
    (member (codes "tasks") (array (items_of (map row_data (rows_of sheet cert)))) no_members)))
