-- The text of the report's value.
use Rattle.std.proofs.Common.{◌≡◌, ℕ, Bool, true, false, List, [], ◌∷◌, ◌++◌, map, codes, decimal, refl, ap, ◌∙◌, sym, append_assoc}
use Rattle.serde_json.specs.Data.{Items, boolean, string, number, unsigned, array, object, member, no_members}
use Rattle.serde_json.specs.View.{items_of}
use Rattle.serde_json.specs.Written.{compact_text, items_text, has_float, items_have_float}
use Rattle.serde_json.proofs.OnLiterals.{serde_json_on_literals}
use Rattle.task_sheet.specs.declared.tasks.PolicyKind.{PolicyKind}
use Rattle.task_sheet.specs.declared.tasks.PolicyKind.TheVariants.{Fp, Edf, Fifo, Gel, Elf}
use Rattle.task_sheet.specs.SheetParts.{SheetParts}
use Rattle.task_sheet.specs.Words.{policy_word}
use Rattle.certificate.specs.declared.cert.Cert.{Cert}
use Rattle.report.specs.Rows.{Row, rows_of, is_met}
use Rattle.report.specs.JsonReport.{truth_word, row_text, more_rows_text, rows_text, row_data, report_data, json_report_of}

truth : (b : Bool) → compact_text (boolean b) ≡ truth_word b
unfolding serde_json_on_literals
truth true = refl
truth false = refl

row : (r : Row) → compact_text (row_data r) ≡ row_text r
unfolding serde_json_on_literals
row r = rw (truth (is_met r)) refl

-- an object, and those after it
one_more : (r : Row) (rs : List Row) → items_text true (items_of (map row_data rs)) ≡ more_rows_text rs ++ codes "]" →
    compact_text (row_data r) ++ items_text true (items_of (map row_data rs)) ≡ (row_text r ++ more_rows_text rs) ++ codes "]"
one_more r rs more =
    ap (λ (t : List ℕ). t ++ items_text true (items_of (map row_data rs))) (row r) ∙ ap (λ (t : List ℕ). row_text r ++ t) more ∙
    sym (append_assoc (row_text r) (more_rows_text rs) (codes "]"))

more_rows : (rs : List Row) → items_text true (items_of (map row_data rs)) ≡ more_rows_text rs ++ codes "]"
more_rows [] = refl
more_rows (r ∷ rs) = ap (λ (t : List ℕ). codes "," ++ t) (one_more r rs (more_rows rs))

rows : (rs : List Row) → items_text false (items_of (map row_data rs)) ≡ rows_text rs ++ codes "]"
rows [] = refl
rows (r ∷ rs) = one_more r rs (more_rows rs)

no_floats : (rs : List Row) → items_have_float (items_of (map row_data rs)) ≡ false
no_floats [] = refl
no_floats (r ∷ rs) = no_floats rs

pub no_float : (sheet : SheetParts) (cert : Cert) → has_float (report_data sheet cert) ≡ false
no_float sheet cert = rw (no_floats (rows_of sheet cert)) refl

closed : (inner : List ℕ) → ((inner ++ codes "]") ++ codes "}") ++ codes "\n" ≡ inner ++ codes "]}\n"
closed inner = append_assoc (inner ++ codes "]") (codes "}") (codes "\n") ∙ append_assoc inner (codes "]") (codes "}\n")

joined : (missed : ℕ) (middle inner : List ℕ) →
    (decimal missed ++ (middle ++ ((inner ++ codes "]") ++ codes "}"))) ++ codes "\n" ≡ decimal missed ++ (middle ++ (inner ++ codes "]}\n"))
joined missed middle inner =
    append_assoc (decimal missed) (middle ++ ((inner ++ codes "]") ++ codes "}")) (codes "\n")
    ∙ ap (λ (t : List ℕ). decimal missed ++ t) (append_assoc middle ((inner ++ codes "]") ++ codes "}") (codes "\n") ∙
    ap (λ (t : List ℕ). middle ++ t) (closed inner))

-- the object of a report, with the text of its tasks
object_text : (missed : ℕ) (p : PolicyKind) (tasks : Items) (inner : List ℕ) → items_text false tasks ≡ inner ++ codes "]" →
    compact_text (object (member (codes "missed") (number (unsigned missed))
    (member (codes "policy") (string (policy_word p)) (member (codes "tasks") (array tasks) no_members)))) ++ codes "\n"
    ≡ codes "{\"missed\":" ++ (decimal missed ++ (codes ",\"policy\":\"" ++ (policy_word p ++ (codes "\",\"tasks\":[" ++ (inner ++ codes "]}\n")))))
unfolding serde_json_on_literals
object_text missed Fp tasks inner h = rw h (ap (λ (t : List ℕ). codes "{\"missed\":" ++ t) (joined missed (codes ",\"policy\":\"fp\",\"tasks\":[") inner))
object_text missed Edf tasks inner h = rw h (ap (λ (t : List ℕ). codes "{\"missed\":" ++ t) (joined missed (codes ",\"policy\":\"edf\",\"tasks\":[") inner))
object_text missed Fifo tasks inner h = rw h (ap (λ (t : List ℕ). codes "{\"missed\":" ++ t) (joined missed (codes ",\"policy\":\"fifo\",\"tasks\":[") inner))
object_text missed Gel tasks inner h = rw h (ap (λ (t : List ℕ). codes "{\"missed\":" ++ t) (joined missed (codes ",\"policy\":\"gel\",\"tasks\":[") inner))
object_text missed Elf tasks inner h = rw h (ap (λ (t : List ℕ). codes "{\"missed\":" ++ t) (joined missed (codes ",\"policy\":\"elf\",\"tasks\":[") inner))

pub report : (sheet : SheetParts) (cert : Cert) → compact_text (report_data sheet cert) ++ codes "\n" ≡ json_report_of sheet cert
unfolding json_report_of
report sheet cert = object_text _ sheet.policy _ (rows_text (rows_of sheet cert)) (rows (rows_of sheet cert))
