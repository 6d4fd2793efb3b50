-- Where a certificate's text stands after some bytes, and what the next byte does.
use Rattle.std.specs.Prelude.{◌≡◌, ℕ, Some, None, suc, zero, ◌+◌, ◌-◌, ◌*◌, ◌<◌, ◌≤◌, ◌==◌, Bool, true, false, not, ◌&&◌, if◌then◌else◌, nat_le, List}
use Rattle.std.specs.Prelude.{[], ◌∷◌, ◌++◌, length, slice_index, codes, decimal}
use Rattle.std.specs.Char.{is_ascii_digit}
use Rattle.lists.specs.Limits.{greatest_number, most_tasks, most_points}
use Rattle.certificate.specs.Progress.{Progress}
use Rattle.certificate.specs.Text.{point_of, greatest_term}
use Rattle.certificate.specs.declared.cert.Version.{Version}
use Rattle.certificate.specs.declared.cert.Version.TheVariants.{One, Two}
use Rattle.certificate.specs.declared.cert.Terms.{Terms}
use Rattle.certificate.specs.declared.place.Word.{Word}
use Rattle.certificate.specs.declared.place.Word.TheVariants as word
use Rattle.certificate.specs.declared.place.Field.{Field}
use Rattle.certificate.specs.declared.place.Field.TheVariants as field
use Rattle.certificate.specs.declared.place.Expected.{Expected}
use Rattle.certificate.specs.declared.place.Expected.TheVariants.{Rest, VersionDigit, Number, Digits, Over, Nothing}
use Rattle.certificate.specs.declared.place.Place.{Place}
use Rattle.certificate.specs.declared.step.LineStep.{LineStep}
use Rattle.certificate.specs.declared.step.LineStep.TheVariants as says

-- the bytes of a word, at the i-th entry
abbrev pub word_text : Word → ℕ → List ℕ
word_text word.Head i = codes "poet-cert "
word_text word.Tasks i = codes "\ntasks "
word_text word.Task i = codes "task " ++ (decimal i ++ codes " ")
word_text word.Point i = codes "p "
word_text word.End i = codes "end\n"

-- what comes behind a word
abbrev pub after_word : Word → Expected
after_word word.Head = VersionDigit
after_word word.Tasks = Number field.Tasks
after_word word.Task = Number field.Window
after_word word.Point = Number field.Offset
after_word word.End = Over

-- what the last byte of a word says
abbrev pub word_step : Word → LineStep
word_step word.End = says.End
word_step _ = says.More

-- the least number of a field
abbrev pub least : Field → ℕ
least field.Tasks = 1
least (field.Count w r) = 1
least _ = 0

-- the greatest number of a field
abbrev pub greatest : Field → ℕ
greatest field.Tasks = most_tasks
greatest (field.Count w r) = most_points
greatest (field.Blocking p) = greatest_term
greatest (field.Own p b) = greatest_term
greatest (field.Others p b o) = greatest_term
greatest (field.Need p b o h) = greatest_term
greatest _ = greatest_number

-- the byte behind a point's end: the first version has no terms
abbrev pub end_ender : Version → ℕ
end_ender One = 10
end_ender Two = 32

-- the byte behind a field's number: a newline or a space
abbrev pub ender : Version → Field → ℕ
ender v field.Tasks = 10
ender v (field.Count w r) = 10
ender v (field.Finish a) = end_ender v
ender v (field.Need p b o h) = 10
ender v _ = 32

-- the place with this expected, in the i-th entry, when m entries and k points follow
abbrev pub at_place : Version → Expected → ℕ → ℕ → ℕ → Place
at_place v e i m k = record { version = v; expected = e; task = i; after = m; points = k }

-- no certificate's text begins so
abbrev pub bad : Place × LineStep
bad = (at_place One Nothing 0 0 0, says.Bad)

-- behind the i-th entry, when m follow
abbrev pub after_entry : Version → ℕ → ℕ → Place
after_entry v i zero = at_place v (Rest word.End 0) 0 0 0
after_entry v i (suc m) = at_place v (Rest word.Task 0) (suc i) m 0

-- behind a point of the i-th entry, when m entries follow and k points are still to come
abbrev pub after_point : Version → ℕ → ℕ → ℕ → Place
after_point v i m zero = after_entry v i m
after_point v i m (suc k) = at_place v (Rest word.Point 0) i m (suc k)

abbrev pub terms_of : ℕ → ℕ → ℕ → ℕ → Terms
terms_of b o h n = record { blocking = b; own = o; others = h; need = n }

-- behind the end x of the point at a
abbrev pub after_end : Version → ℕ → ℕ → ℕ → ℕ → ℕ → Place × LineStep
after_end One i m k a x = (after_point One i m (k - 1), says.Point a x None)
after_end Two i m k a x = (at_place Two (Number (field.Blocking (point_of a x))) i m k, says.More)

-- behind a field's number n
abbrev pub after_number : Version → ℕ → ℕ → ℕ → Field → ℕ → Place × LineStep
after_number v i m k field.Tasks n = (at_place v (Rest word.Task 0) 0 (n - 1) 0, says.Tasks n)
after_number v i m k field.Window n = (at_place v (Number (field.Bound n)) i m k, says.More)
after_number v i m k (field.Bound w) n = (at_place v (Number (field.Count w n)) i m k, says.More)
after_number v i m k (field.Count w r) n = (at_place v (Rest word.Point 0) i m n, says.Entry i w r n)
after_number v i m k field.Offset n = (at_place v (Number (field.Finish n)) i m k, says.More)
after_number v i m k (field.Finish a) n = after_end v i m k a n
after_number v i m k (field.Blocking p) n = (at_place v (Number (field.Own p n)) i m k, says.More)
after_number v i m k (field.Own p b) n = (at_place v (Number (field.Others p b n)) i m k, says.More)
after_number v i m k (field.Others p b o) n = (at_place v (Number (field.Need p b o n)) i m k, says.More)
after_number v i m k (field.Need p b o h) n = (after_point v i m (k - 1), says.Point p.offset p.end (Some (terms_of b o h n)))

-- the byte x where the word's byte `at` must come
abbrev pub in_word : Version → ℕ → ℕ → ℕ → Word → ℕ → ℕ → Place × LineStep
in_word v i m k w at x =
    let text = word_text w i in
    if slice_index text at == x then (if at + 1 == length text then (at_place v (after_word w) i m k, word_step w) else
    (at_place v (Rest w (at + 1)) i m k, says.More)) else bad

-- the digit of a version
abbrev pub digit_of : Version → ℕ
digit_of One = 49
digit_of Two = 50

-- the byte x where the version's digit must come
abbrev pub version_digit : ℕ → Place × LineStep
version_digit x =
    if x == digit_of One then (at_place One (Rest word.Tasks 0) 0 0 0, says.More) else
    (if x == digit_of Two then (at_place Two (Rest word.Tasks 0) 0 0 0, says.More) else bad)

-- the byte x where a field's first digit must come
abbrev pub first_digit : Version → ℕ → ℕ → ℕ → Field → ℕ → Place × LineStep
first_digit v i m k f x =
    if is_ascii_digit x && nat_le (least f) (x - 48) then (at_place v (Digits f (x - 48)) i m k, says.More) else bad

-- the byte x behind digits that stand for n
abbrev pub more_digits : Version → ℕ → ℕ → ℕ → Field → ℕ → ℕ → Place × LineStep
more_digits v i m k f n x =
    if x == ender v f then after_number v i m k f n else
    (if is_ascii_digit x && (not (n == 0) && nat_le (n * 10 + (x - 48)) (greatest f)) then
    (at_place v (Digits f (n * 10 + (x - 48))) i m k, says.More) else bad)

-- the byte x where `e` is expected
abbrev pub next_at : Version → Expected → ℕ → ℕ → ℕ → ℕ → Place × LineStep
next_at v (Rest w at) i m k x = in_word v i m k w at x
next_at v VersionDigit i m k x = version_digit x
next_at v (Number f) i m k x = first_digit v i m k f x
next_at v (Digits f n) i m k x = more_digits v i m k f n x
next_at v Over i m k x = bad
next_at v Nothing i m k x = bad

-- the place after one more byte, and what the byte says
abbrev pub next_place : Place → ℕ → Place × LineStep
next_place p x = next_at p.version p.expected p.task p.after p.points x

-- a point's word comes only where a point is still to come
abbrev pub IsRightWord : Word → ℕ → Type 0
IsRightWord word.Point k = 1 ≤ k
IsRightWord _ k = Unit {0}

-- a point's number comes only where a point is still to come
abbrev pub IsRightField : Field → ℕ → Type 0
IsRightField field.Offset k = 1 ≤ k
IsRightField (field.Finish a) k = 1 ≤ k
IsRightField (field.Blocking p) k = 1 ≤ k
IsRightField (field.Own p b) k = 1 ≤ k
IsRightField (field.Others p b o) k = 1 ≤ k
IsRightField (field.Need p b o h) k = 1 ≤ k
IsRightField _ k = Unit {0}

-- a word has a byte left, and the digits so far stand for a number of the field
abbrev pub IsRight : Expected → ℕ → ℕ → Type 0
IsRight (Rest w at) i k = (at < length (word_text w i)) × IsRightWord w k
IsRight VersionDigit i k = Unit {0}
IsRight (Number f) i k = IsRightField f k
IsRight (Digits f v) i k = (least f ≤ v) × (v ≤ greatest f) × IsRightField f k
IsRight Over i k = Unit {0}
IsRight Nothing i k = Unit {0}

-- a place that bytes can lead to
pub record IsPlace (p : Place) : Type 0 where
  pub few : p.task + p.after < most_tasks
  pub points : p.points ≤ most_points
  pub right : IsRight p.expected p.task p.points

-- before the first byte
abbrev pub start : Place
start = at_place One (Rest word.Head 0) 0 0 0

-- some certificate's text begins as what led here
abbrev pub is_good_at : Expected → Bool
is_good_at Nothing = false
is_good_at _ = true

-- what led here is a certificate's text
abbrev pub is_over_at : Expected → Bool
is_over_at Over = true
is_over_at _ = false

-- how far a text was read, one byte on
abbrev pub after_byte : Progress → ℕ → Progress
after_byte l x =
    let p = (next_place l.place x).0 in
    record { place = p; line = (if x == 10 && is_good_at p.expected then l.line + 1 else l.line) }

-- how far a text was read, more bytes on
abbrev pub after_bytes : Progress → List ℕ → Progress
after_bytes l [] = l
after_bytes l (x ∷ xs) = after_bytes (after_byte l x) xs

-- nothing was read
abbrev pub beginning : Progress
beginning = record { place = start; line = 1 }

-- the value stands for the bytes that were fed
pub record StandsFor (l : Progress) (bytes : List ℕ) : Type 0 where
  pub is : l ≡ after_bytes beginning bytes

-- what the lines say that end in the bytes, behind what was said before, and the place after them
abbrev pub walk : List LineStep → Place → List ℕ → List LineStep × Place
walk ss p [] = (ss, p)
walk ss p (x ∷ t) = walk (if x == 10 then ss ++ (next_place p x).1 ∷ [] else ss) (next_place p x).0 t

-- a line that the place does not pass, so that 64 bits hold it: each byte of a word is counted as if it ended a line
abbrev pub most_word : Word → ℕ → ℕ → ℕ → ℕ
most_word word.Head at i k = 1 + at
most_word word.Tasks at i k = 12 + at
most_word word.Task at i k = 20 + i * 3000027 + at
most_word word.Point at i k = 47 + i * 3000027 + 3 * (most_points - k) + at
most_word word.End at i k = 768006932 + at

-- the same, at a field
abbrev pub most_field : Field → ℕ → ℕ → ℕ
most_field field.Tasks i k = 19
most_field field.Window i k = 46 + i * 3000027
most_field (field.Bound w) i k = 46 + i * 3000027
most_field (field.Count w r) i k = 46 + i * 3000027
most_field _ i k = 49 + i * 3000027 + 3 * (most_points - k)

-- the same, where `e` is expected
abbrev pub most : Expected → ℕ → ℕ → ℕ
most (Rest w at) i k = most_word w at i k
most VersionDigit i k = 11
most (Number f) i k = most_field f i k
most (Digits f v) i k = most_field f i k
most Over i k = 768006936
most Nothing i k = 768006937

-- a place and a line that bytes can lead to
pub record IsProgress (place : Place) (line : ℕ) : Type 0 where
  pub right : IsPlace place
  pub small : line ≤ most place.expected place.task place.points
