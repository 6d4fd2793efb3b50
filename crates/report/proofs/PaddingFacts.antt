-- What a format's options write, as columns.
use Rattle.std.proofs.Common.{◌≡◌, ℕ, zero, suc, ◌-◌, ◌^◌, ◌<◌, ◌≤◌, ◌==◌, true, false, Bool, List, [], ◌∷◌, ◌++◌, cond, length, replicate, take, inl}
use Rattle.std.proofs.Common.{inr, arith, lit<, refl, append-nil, ap, ◌∙◌}
use Rattle.std.proofs.Math.Nat.{sub-zero, sub_self}
use Rattle.std.specs.List.{list_all, repeat}
use Rattle.std.specs.Fmt.{decimal, is_char_start, char_count, take_chars, padded, padded_integral, format_spec, styled_text, styled_decimal}
use Rattle.std.proofs.lemmas.Str.Ascii.{encode_ascii}
use Rattle.std.proofs.lemmas.List.{length-replicate, take-replicate}
use Rattle.std.proofs.lemmas.Bool.{and_parts, leb-true, cases_Bool}
use Rattle.std.proofs.lemmas.Bool.Decides.{nat_tests}
use Rattle.lists.specs.Ranges.{is_between}
use Rattle.task_sheet.specs.Rules.{is_name}
use Rattle.report.specs.Rows.{Row, is_met}
use Rattle.report.specs.TextReport.{right_in, bar_of, result_word}

repeat_one : (n x : ℕ) → repeat n (x ∷ []) ≡ replicate n x
repeat_one zero x = refl
repeat_one (suc n) x = ap (λ (l : List ℕ). x ∷ l) (repeat_one n x)

char_starts : (b : ℕ) → b < 128 → is_char_start b ≡ true
char_starts b h = grind (arith, nat_tests)

-- a printable byte
printable_small : (b : ℕ) → is_between 33 126 b ≡ true → b < 128
printable_small b h = omega (arith, leb-true b 126 (and_parts _ _ h).1)

-- printable bytes are a character each
printable_count : (bs : List ℕ) → list_all (is_between 33 126) bs ≡ true → char_count bs ≡ length bs
unfolding char_count
printable_count [] h = refl
printable_count (b ∷ bs) h =
    let parts = and_parts _ _ h in
    rw (char_starts b (printable_small b parts.0), printable_count bs parts.1) (omega arith)

zero_test : (n : ℕ) → 0 < n → (n == 0) ≡ false
zero_test n h = grind (arith, nat_tests)

cond_same : (t : Bool) (x y z : List ℕ) → x ≡ z → y ≡ z → cond t x y ≡ z
cond_same true x y z p q = p
cond_same false x y z p q = q

-- no text has more characters than bytes
take_whole : (n : ℕ) (bs : List ℕ) → length bs ≤ n → take_chars n bs ≡ bs
unfolding take_chars
take_whole n [] h = refl
take_whole n (b ∷ bs) h =
    cond_same (is_char_start b) (cond (n == 0) [] (b ∷ take_chars (n - 1) bs)) (b ∷ take_chars n bs) (b ∷ bs)
    (rw (zero_test n (omega arith)) (ap (λ (l : List ℕ). b ∷ l) (take_whole (n - 1) bs (omega arith))))
    (ap (λ (l : List ℕ). b ∷ l) (take_whole n bs (omega arith)))

-- what an option `<` writes of printable bytes
pub left_padded : (width fill : ℕ) (bs : List ℕ) → length bs < 2 ^ 63 → fill < 128 → list_all (is_between 33 126) bs ≡ true →
    padded (format_spec fill 1 0 width (2 ^ 64 - 1)) bs ≡ bs ++ replicate (width - length bs) fill
unfolding padded
left_padded width fill bs short small h =
    rw (take_whole (2 ^ 64 - 1) bs (omega arith), printable_count bs h, encode_ascii fill small, repeat_one (width - length bs - 0) fill, sub-zero) refl

-- what an option `>` writes of a number
pub right_padded : (width : ℕ) (bs : List ℕ) → padded_integral (format_spec 32 3 0 width (2 ^ 64 - 1)) false [] bs ≡ right_in width bs
unfolding padded_integral char_count
right_padded width bs = rw (sub-zero, sub-zero, sub_self (width - length bs), encode_ascii 32 (lit< tt), repeat_one (width - length bs) 32) (simp append-nil)

-- a column at its left, as a format's hole writes it
pub left_column : (width fill : ℕ) (bs : List ℕ) → 0 < width → length bs < 2 ^ 63 → fill < 128 → list_all (is_between 33 126) bs ≡ true →
    styled_text (format_spec fill 1 0 width (2 ^ 64 - 1)) bs ≡ bs ++ replicate (width - length bs) fill
left_column width fill bs some short small h = rw (zero_test width some) (left_padded width fill bs short small h)

-- a number at a column's right
pub right_column : (width n : ℕ) → 0 < width → styled_decimal (format_spec 32 3 0 width (2 ^ 64 - 1)) n ≡ right_in width (decimal n)
right_column width n some = rw (zero_test width some) (right_padded width (decimal n))

some_marks : (m : ℕ) → list_all (is_between 33 126) (replicate m 35) ≡ true
some_marks zero = refl
some_marks (suc m) = some_marks m

-- the bar
pub bar_column : (m : ℕ) (bs : List ℕ) → m ≤ 20 → bs ≡ take m (replicate 20 35) → styled_text (format_spec 46 1 0 20 (2 ^ 64 - 1)) bs ≡ bar_of m
bar_column m bs few cut =
    let marks : bs ≡ replicate m 35 = cut ∙ take-replicate m 20 35 few in
    rw marks (left_column 20 46 (replicate m 35) (lit< tt) (omega (arith, length-replicate {A = ℕ} m 35)) (lit< tt)
    (some_marks m) ∙ rw (length-replicate {A = ℕ} m 35) refl)

pub name_length : (bs : List ℕ) → is_name bs ≡ true → length bs < 2 ^ 63
name_length bs h = omega (arith, leb-true (length bs) 32 (and_parts _ _ (and_parts _ _ h).0).1)

pub word_length : (row : Row) → length (result_word row) < 2 ^ 63
word_length row = elim (cases_Bool (is_met row)) [ inl e ↦ rw e (lit< tt) | inr e ↦ rw e (lit< tt) ]

pub word_printable : (row : Row) → list_all (is_between 33 126) (result_word row) ≡ true
word_printable row = elim (cases_Bool (is_met row)) [ inl e ↦ rw e refl | inr e ↦ rw e refl ]
