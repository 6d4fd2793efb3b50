-- The rows of a report, one at a time.
use Rattle.std.proofs.Common.{◌≡◌, ℕ, ◌+◌, ◌<◌, ◌≤◌, false, true, not, List, [], ◌∷◌, ◌++◌, length, get_or, take, map, arith, refl, ap, sym}
use Rattle.std.proofs.Common.{append_assoc, append-nil, ◌∙◌}
use Rattle.std.specs.List.{zip, flat_map}
use Rattle.std.proofs.lemmas.List.Concat.{flat_map-append}
use Rattle.std.proofs.lemmas.List.{take_more, take_all, map-append}
use Rattle.std.proofs.lemmas.Slice.Zip.{length-zip, get_or-zip}
use Rattle.std.proofs.lemmas.List.Sums.{count_by_more_yes, count_by_more_no}
use Rattle.task_sheet.specs.declared.tasks.Task.{Task}
use Rattle.task_sheet.specs.Sheets.{no_task}
use Rattle.certificate.specs.declared.cert.Entry.{Entry}
use Rattle.report.specs.Rows.{Row, is_met, missed_of}

row_there : (ts : List Task) (es : List Entry) (i : ℕ) → length es ≡ length ts → i < length ts → i < length (zip ts es)
row_there ts es i same lt = omega (arith, length-zip ts es)

-- the row of task i
pub row_at : (ts : List Task) (es : List Entry) (i : ℕ) (e : Entry) → length es ≡ length ts → i < length ts →
    get_or (zip ts es) i (no_task, e) ≡ (get_or ts i no_task, get_or es i e)
row_at ts es i e same lt = get_or-zip ts es i (no_task, e) lt (omega arith)

pub next_row : (ts : List Task) (es : List Entry) (i : ℕ) (e : Entry) → length es ≡ length ts → i < length ts →
    take (i + 1) (zip ts es) ≡ take i (zip ts es) ++ (get_or ts i no_task, get_or es i e) ∷ []
next_row ts es i e same lt =
    take_more (zip ts es) i (no_task, e) (row_there ts es i same lt) ∙ ap (λ (r : Row). take i (zip ts es) ++ r ∷ []) (row_at ts es i e same lt)

pub one_more_missed : (ts : List Task) (es : List Entry) (i : ℕ) (e : Entry) → length es ≡ length ts → i < length ts →
    is_met (get_or ts i no_task, get_or es i e) ≡ false →
    missed_of (take (i + 1) (zip ts es)) ≡ missed_of (take i (zip ts es)) + 1
one_more_missed ts es i e same lt late =
    count_by_more_yes (λ r. not (is_met r)) (zip ts es) i (no_task, e) (row_there ts es i same lt) (rw (row_at ts es i e same lt, late) refl)

pub no_more_missed : (ts : List Task) (es : List Entry) (i : ℕ) (e : Entry) → length es ≡ length ts → i < length ts →
    is_met (get_or ts i no_task, get_or es i e) ≡ true →
    missed_of (take (i + 1) (zip ts es)) ≡ missed_of (take i (zip ts es))
no_more_missed ts es i e same lt met =
    count_by_more_no (λ r. not (is_met r)) (zip ts es) i (no_task, e) (row_there ts es i same lt) (rw (row_at ts es i e same lt, met) refl)

pub all_rows : (ts : List Task) (es : List Entry) (i : ℕ) → length ts ≤ i → take i (zip ts es) ≡ zip ts es
all_rows ts es i le = take_all i (zip ts es) (omega (arith, length-zip ts es))

pub rows_count : (ts : List Task) (es : List Entry) → length es ≡ length ts → length (zip ts es) ≡ length ts
rows_count ts es same = omega (arith, length-zip ts es)

-- what is written of the rows so far, and of one more
pub next_text : (f : Row → List ℕ) (front text more : List ℕ) (ts : List Task) (es : List Entry) (i : ℕ) (e : Entry) → length es ≡ length ts → i < length ts →
    text ≡ front ++ flat_map f (take i (zip ts es)) →
    more ≡ text ++ f (get_or ts i no_task, get_or es i e) → more ≡ front ++ flat_map f (take (i + 1) (zip ts es))
next_text f front text more ts es i e same lt so_far line =
    line ∙ ap (λ (x : List ℕ). x ++ f (get_or ts i no_task, get_or es i e)) so_far ∙ append_assoc front _ _
    ∙ ap (λ (x : List ℕ). front ++ x)
    (sym (ap (flat_map f) (next_row ts es i e same lt) ∙ flat_map-append f (take i (zip ts es)) _ ∙
    ap (λ (x : List ℕ). flat_map f (take i (zip ts es)) ++ x) (append-nil _)))

-- what is made of the rows so far, and of one more
pub next_values : {A B : Type 0} (view : B → A) (f : Row → A) (values more : List B) (v : B) (ts : List Task) (es : List Entry)
    (i : ℕ) (e : Entry) → length es ≡ length ts → i < length ts →
    map view values ≡ map f (take i (zip ts es)) → more ≡ values ++ v ∷ [] → view v ≡ f (get_or ts i no_task, get_or es i e) →
    map view more ≡ map f (take (i + 1) (zip ts es))
next_values view f values more v ts es i e same lt so_far pushed made =
    ap (map view) pushed ∙ map-append view values (v ∷ []) ∙ rw (so_far, made) refl ∙
    sym (ap (map f) (next_row ts es i e same lt) ∙ map-append f (take i (zip ts es)) _)
