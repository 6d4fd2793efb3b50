-- Each byte leads from a place to a place, and the lines fit.
use Rattle.std.proofs.Common.{◌≡◌, ℕ, suc, zero, ◌+◌, ◌-◌, ◌*◌, ◌<◌, ◌≤◌, ◌==◌, false, not, ◌&&◌, cond, nat_le, length, slice_index, codes, refl}
use Rattle.std.proofs.Common.{arith, decimal, length-append}
use Rattle.std.specs.Char.{is_ascii_digit}
use Rattle.std.proofs.lemmas.Bool.{and_parts}
use Rattle.lists.specs.Limits.{most_tasks, most_points}
use Rattle.poet_io.proofs.DecimalFacts.{digit_from_test}
use Rattle.certificate.proofs.FieldFacts.{cases, eq_from_test, ne_from_test, le_from_test, digit_is_inside, nine_fits}
use Rattle.certificate.specs.Machine.{word_text, after_word, least, greatest, ender, at_place, after_entry, after_point, after_end, after_number}
use Rattle.certificate.specs.Machine.{in_word, version_digit, digit_of, most, most_word, most_field, is_good_at, IsProgress, first_digit, more_digits}
use Rattle.certificate.specs.Machine.{next_place, IsPlace, IsRight, IsRightWord, bad}
use Rattle.certificate.specs.declared.cert.Version.{Version}
use Rattle.certificate.specs.declared.cert.Version.TheVariants.{One, Two}
use Rattle.certificate.specs.declared.place.Word.{Word}
use Rattle.certificate.specs.declared.place.Word.TheVariants as word
use Rattle.certificate.specs.declared.place.Field.{Field}
use Rattle.certificate.specs.declared.place.Field.TheVariants as field
use Rattle.certificate.specs.declared.place.Expected.{Expected}
use Rattle.certificate.specs.declared.place.Expected.TheVariants.{Rest, VersionDigit, Number, Digits, Over, Nothing}
use Rattle.certificate.specs.declared.place.Place.{Place}
use Rattle.std.proofs.lemmas.Fmt.{length-decimal-le}

-- n is the line after the byte x, which was `line` before
record Counts (x : ℕ) (q : Expected) (line n : ℕ) : Type 0 where
  pub one : n ≤ line + 1
  pub inside : (x == 10) ≡ false → n ≤ line
  pub bad : is_good_at q ≡ false → n ≤ line

task_len : (i : ℕ) → i < most_tasks → length (word_text word.Task i) ≤ 26
task_len i h = omega (arith, length-append (decimal i) (codes " "), length-decimal-le 20 i (omega arith) (omega arith) (omega arith))

most_top : (e : Expected) (i k : ℕ) → i < most_tasks → IsRight e i k → most e i k ≤ 768006937
most_top (Rest word.Head at) i k h r = omega (arith, r.0)
most_top (Rest word.Tasks at) i k h r = omega (arith, r.0)
most_top VersionDigit i k h r = omega arith
most_top (Rest word.Task at) i k h r = omega (arith, r.0, task_len i h)
most_top (Rest word.Point at) i k h r = omega (arith, r.0)
most_top (Rest word.End at) i k h r = omega (arith, r.0)
most_top (Number field.Tasks) i k h r = omega arith
most_top (Number field.Window) i k h r = omega arith
most_top (Number (field.Bound w)) i k h r = omega arith
most_top (Number (field.Count w b)) i k h r = omega arith
most_top (Number field.Offset) i k h r = omega arith
most_top (Number (field.Finish a)) i k h r = omega arith
most_top (Number (field.Blocking p)) i k h r = omega arith
most_top (Number (field.Own p b)) i k h r = omega arith
most_top (Number (field.Others p b o)) i k h r = omega arith
most_top (Number (field.Need p b o t)) i k h r = omega arith
most_top (Digits field.Tasks v) i k h r = omega arith
most_top (Digits field.Window v) i k h r = omega arith
most_top (Digits (field.Bound w) v) i k h r = omega arith
most_top (Digits (field.Count w b) v) i k h r = omega arith
most_top (Digits field.Offset v) i k h r = omega arith
most_top (Digits (field.Finish a) v) i k h r = omega arith
most_top (Digits (field.Blocking p) v) i k h r = omega arith
most_top (Digits (field.Own p b) v) i k h r = omega arith
most_top (Digits (field.Others p b o) v) i k h r = omega arith
most_top (Digits (field.Need p b o t) v) i k h r = omega arith
most_top Over i k h r = omega arith
most_top Nothing i k h r = omega arith

bad_lines : (x top line n : ℕ) → top ≤ 768006937 → line ≤ top → Counts x Nothing line n → IsProgress bad.0 n
bad_lines x top line n small le c = record { right = record { few = omega arith; points = omega arith; right = tt }; small = omega (arith, c.bad refl) }

right_after : (w : Word) (i k : ℕ) → IsRightWord w k → IsRight (after_word w) i k
right_after word.Head i k h = tt
right_after word.Tasks i k h = tt
right_after word.Task i k h = tt
right_after word.Point i k h = h
right_after word.End i k h = tt

most_after : (w : Word) (i k at : ℕ) → i < most_tasks → at + 1 ≡ length (word_text w i) → most_word w at i k + 1 ≤ most (after_word w) i k
most_after word.Head i k at h e = omega arith
most_after word.Tasks i k at h e = omega arith
most_after word.Task i k at h e = omega (arith, task_len i h)
most_after word.Point i k at h e = omega arith
most_after word.End i k at h e = omega arith

most_next : (w : Word) (i k at : ℕ) → most_word w at i k + 1 ≤ most_word w (at + 1) i k
most_next word.Head i k at = omega arith
most_next word.Tasks i k at = omega arith
most_next word.Task i k at = omega arith
most_next word.Point i k at = omega arith
most_next word.End i k at = omega arith

word_lines : (v : Version) (w : Word) (i m k at x line n : ℕ) → IsPlace (at_place v (Rest w at) i m k) → line ≤ most_word w at i k →
    Counts x (in_word v i m k w at x).0.expected line n → IsProgress (in_word v i m k w at x).0 n
word_lines v w i m k at x line n p le =
    cases (slice_index (word_text w i) at == x)
    (λ here. cases (at + 1 == length (word_text w i))
    (λ last. rw (here, last) (λ c. record {
      right = record { few = p.few; points = p.points; right = right_after w i k p.right.1 };
      small = omega (arith, c.one, most_after w i k at (omega (arith, p.few)) (eq_from_test (at + 1) (length (word_text w i)) last));
    }))
    (λ last. rw (here, last) (λ c. record {
      right = record { few = p.few; points = p.points; right = (omega (arith, p.right.0, ne_from_test (at + 1) (length (word_text w i)) last), p.right.1) };
      small = omega (arith, c.one, most_next w i k at);
    })))
    (λ here. rw here (λ c. bad_lines x (most_word w at i k) line n (most_top (Rest w at) i k (omega (arith, p.few)) p.right) le c))

first_lines : (v : Version) (f : Field) (i m k x line n : ℕ) → IsPlace (at_place v (Number f) i m k) → line ≤ most_field f i k →
    Counts x (first_digit v i m k f x).0.expected line n → IsProgress (first_digit v i m k f x).0 n
first_lines v f i m k x line n p le =
    cases (is_ascii_digit x && nat_le (least f) (x - 48))
    (λ test.
    let t = and_parts (is_ascii_digit x) (nat_le (least f) (x - 48)) test in
    let d = digit_from_test x t.0 in
    rw test (λ c. record {
      right =
          record {
            few = p.few;
            points = p.points;
            right =
                (le_from_test (least f) (x - 48) t.1, omega (arith, d.1, nine_fits f), p.right);
          };
      small = omega (arith, c.inside (digit_is_inside x t.0));
    }))
    (λ test. rw test (λ c. bad_lines x (most_field f i k) line n (most_top (Number f) i k (omega (arith, p.few)) p.right) le c))

entry_lines : (v : Version) (i m n : ℕ) → i + m < most_tasks → n ≤ 20 + suc i * 3000027 → IsProgress (after_entry v i m) n
entry_lines v i zero n few le = record { right = record { few = omega arith; points = omega arith; right = (omega arith, tt) }; small = omega arith }
entry_lines v i (suc m) n few le = record { right = record { few = omega arith; points = omega arith; right = (omega arith, tt) }; small = omega arith }

point_lines : (v : Version) (i m k n : ℕ) → i + m < most_tasks → k ≤ most_points → n ≤ 47 + i * 3000027 + 3 * (most_points - k) →
    IsProgress (after_point v i m k) n
point_lines v i m zero n few top le = entry_lines v i m n few (omega arith)
point_lines v i m (suc k) n few top le = record { right = record { few = few; points = top; right = (omega arith, omega arith) }; small = omega arith }

end_lines : (v : Version) (i m k a x line n : ℕ) → i + m < most_tasks → k ≤ most_points → 1 ≤ k → line ≤ most_field (field.Finish a) i k → n ≤ line + 1 →
    ((ender v (field.Finish a) == 10) ≡ false → n ≤ line) → IsProgress (after_end v i m k a x).0 n
end_lines One i m k a x line n few top some le one inside = point_lines One i m (k - 1) n few (omega arith) (omega arith)
end_lines Two i m k a x line n few top some le one inside =
    record { right = record { few = few; points = top; right = some }; small = omega (arith, inside refl) }

number_lines : (v : Version) (f : Field) (i m k x line n : ℕ) → IsPlace (at_place v (Digits f x) i m k) → line ≤ most_field f i k → n ≤ line + 1 →
    ((ender v f == 10) ≡ false → n ≤ line) → IsProgress (after_number v i m k f x).0 n
number_lines v field.Tasks i m k x line n p le one inside =
    record { right = record { few = omega (arith, p.right.1); points = omega arith; right = (omega arith, tt) }; small = omega arith }
number_lines v field.Window i m k x line n p le one inside =
    record { right = record { few = p.few; points = p.points; right = tt }; small = omega (arith, inside refl) }
number_lines v (field.Bound w) i m k x line n p le one inside =
    record { right = record { few = p.few; points = p.points; right = tt }; small = omega (arith, inside refl) }
number_lines v (field.Count w r) i m k x line n p le one inside =
    record { right = record { few = p.few; points = p.right.1; right = (omega arith, p.right.0) }; small = omega arith }
number_lines v field.Offset i m k x line n p le one inside =
    record { right = record { few = p.few; points = p.points; right = p.right.2 }; small = omega (arith, inside refl) }
number_lines v (field.Finish a) i m k x line n p le one inside = end_lines v i m k a x line n p.few p.points p.right.2 le one inside
number_lines v (field.Blocking q) i m k x line n p le one inside =
    record { right = record { few = p.few; points = p.points; right = p.right.2 }; small = omega (arith, inside refl) }
number_lines v (field.Own q b) i m k x line n p le one inside =
    record { right = record { few = p.few; points = p.points; right = p.right.2 }; small = omega (arith, inside refl) }
number_lines v (field.Others q b o) i m k x line n p le one inside =
    record { right = record { few = p.few; points = p.points; right = p.right.2 }; small = omega (arith, inside refl) }
number_lines v (field.Need q b o h) i m k x line n p le one inside = point_lines v i m (k - 1) n p.few (omega (arith, p.points))
    (omega (arith, p.points, p.right.2))

more_lines : (v : Version) (f : Field) (i m k y x line n : ℕ) → IsPlace (at_place v (Digits f y) i m k) → line ≤ most_field f i k →
    Counts x (more_digits v i m k f y x).0.expected line n → IsProgress (more_digits v i m k f y x).0 n
more_lines v f i m k y x line n p le =
    cases (x == ender v f)
    (λ end.
    let e = eq_from_test x (ender v f) end in
    rw end (λ c. number_lines v f i m k y line n p le c.one (λ no. c.inside (rw e no))))
    (λ end. cases (is_ascii_digit x && (not (y == 0) && nat_le (y * 10 + (x - 48)) (greatest f)))
    (λ test.
    let t = and_parts (is_ascii_digit x) (not (y == 0) && nat_le (y * 10 + (x - 48)) (greatest f)) test in
    let q = and_parts (not (y == 0)) (nat_le (y * 10 + (x - 48)) (greatest f)) t.1 in
    rw (end, test) (λ c. record {
      right =
          record {
            few = p.few;
            points = p.points;
            right =
                (omega (arith, p.right.0), le_from_test (y * 10 + (x - 48)) (greatest f) q.1, p.right.2);
          };
      small = omega (arith, c.inside (digit_is_inside x t.0));
    }))
    (λ test. rw (end, test) (λ c. bad_lines x (most_field f i k) line n (most_top (Digits f y) i k (omega (arith, p.few)) p.right) le c)))

version_lines : (x line n : ℕ) → line ≤ 11 → Counts x (version_digit x).0.expected line n → IsProgress (version_digit x).0 n
version_lines x line n le =
    cases (x == digit_of One)
    (λ one. rw one (λ c. record { right = record { few = omega arith; points = omega arith; right = (omega arith, tt) }; small = omega (arith, c.one) }))
    (λ one. cases (x == digit_of Two)
    (λ two. rw (one, two) (λ c. record { right = record { few = omega arith; points = omega arith; right = (omega arith, tt) }; small = omega (arith, c.one) }))
    (λ two. rw (one, two) (λ c. bad_lines x 11 line n (omega arith) le c)))

lines_at : (v : Version) (e : Expected) (i m k x line n : ℕ) → IsPlace (at_place v e i m k) → line ≤ most e i k →
    Counts x (next_place (at_place v e i m k) x).0.expected line n →
    IsProgress (next_place (at_place v e i m k) x).0 n
lines_at v (Rest w at) i m k x line n p le c = word_lines v w i m k at x line n p le c
lines_at v VersionDigit i m k x line n p le c = version_lines x line n le c
lines_at v (Number f) i m k x line n p le c = first_lines v f i m k x line n p le c
lines_at v (Digits f y) i m k x line n p le c = more_lines v f i m k y x line n p le c
lines_at v Over i m k x line n p le c = bad_lines x 768006936 line n (omega arith) le c
lines_at v Nothing i m k x line n p le c = bad_lines x 768006937 line n (omega arith) le c

counts : (x : ℕ) (q : Expected) (line : ℕ) → Counts x q line (cond (x == 10 && is_good_at q) (line + 1) line)
counts x q line = cases (x == 10)
    (λ a. cases (is_good_at q)
    (λ b. rw (a, b) (record { one = omega arith; inside = λ no. absurd (cc); bad = λ no. absurd (cc) }))
    (λ b. rw (a, b) (record { one = omega arith; inside = λ no. omega arith; bad = λ no. omega arith })))
    (λ a. rw a (record { one = omega arith; inside = λ no. omega arith; bad = λ no. omega arith }))

pub lines_next : (p : Place) (x line : ℕ) → IsProgress p line →
    IsProgress (next_place p x).0 (cond (x == 10 && is_good_at (next_place p x).0.expected) (line + 1) line)
lines_next p x line h = lines_at p.version p.expected p.task p.after p.points x line _ h.right h.small (counts x (next_place p x).0.expected line)

pub line_fits : (p : Place) (line : ℕ) → IsProgress p line → line ≤ 768006937
line_fits p line h = omega (arith, h.small, most_top p.expected p.task p.points (omega (arith, h.right.few)) h.right.right)
