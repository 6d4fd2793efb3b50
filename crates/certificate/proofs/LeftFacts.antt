-- What may follow at each place: what leads over the end is the text of a certificate.
use Rattle.std.proofs.Common.{◌≡◌, ℕ, suc, zero, ◌+◌, ◌-◌, ◌*◌, ◌/◌, ◌%◌, ◌<◌, ◌≤◌, ◌==◌, not, ◌&&◌, nat_le, Some, None, List, [], ◌∷◌, ◌++◌, length}
use Rattle.std.proofs.Common.{get_or, drop, slice_index, codes, refl, sym, ap, subst, ◌∙◌, arith, append_assoc, decimal, All}
use Rattle.std.specs.List.{flat_map}
use Rattle.std.proofs.lemmas.List.Elements.{All-nil, All-cons}
use Rattle.std.specs.Char.{is_ascii_digit}
use Rattle.std.proofs.lemmas.List.{append-nil, drop_more, drop_all, length-map}
use Rattle.std.proofs.lemmas.Fmt.{decimal_digit, decimal_step_wide}
use Rattle.std.proofs.lemmas.Bool.{and_parts}
use Rattle.lists.specs.Limits.{most_points, most_tasks}
use Rattle.certificate.proofs.FieldFacts.{cases, eq_from_test, le_from_test, positive_from_test, digit_and, greatest_small}
use Rattle.certificate.specs.Text.{PointLine, point_of, point_line, point_text, points_text, head_of, entries_text, greatest_term, IsEntry}
use Rattle.certificate.specs.Text.{HasTermsOf, cert_format}
use Rattle.certificate.specs.declared.cert.Version.{Version}
use Rattle.certificate.specs.declared.cert.Version.TheVariants.{One, Two}
use Rattle.certificate.proofs.PointFacts.{are_lines, points_in, terms_in}
use Rattle.certificate.specs.FirstLines.{IsLineOf}
use Rattle.poet_io.specs.Texts.{Parses}
use Rattle.certificate.specs.declared.cert.Entry.{Entry}
use Rattle.certificate.specs.declared.cert.Point.{Point}
use Rattle.certificate.specs.declared.cert.Cert.{Cert}
use Rattle.certificate.specs.Machine.{word_text, after_word, least, greatest, ender, at_place, after_entry, after_point, terms_of, after_end}
use Rattle.certificate.specs.Machine.{after_number, in_word, digit_of, version_digit, first_digit, more_digits, next_place, start, IsPlace, IsRight}
use Rattle.certificate.specs.declared.place.Word.{Word}
use Rattle.certificate.specs.declared.place.Word.TheVariants as word
use Rattle.certificate.specs.declared.place.Field.{Field}
use Rattle.certificate.specs.declared.place.Field.TheVariants as field
use Rattle.certificate.specs.declared.place.Expected.{Expected}
use Rattle.certificate.specs.declared.place.Expected.TheVariants.{Rest, VersionDigit, Number, Digits, Over, Nothing}
use Rattle.certificate.specs.declared.place.Place.{Place}

-- a language: the texts that may follow
abbrev pub Lang : Type 1
Lang = List ℕ → Type 0

-- these bytes, and then a text of K
pub record Then (w : List ℕ) (K : Lang) (t : List ℕ) : Type 0 where
  pub rest : List ℕ
  pub is : t ≡ w ++ rest
  pub after : K rest

-- a version, and then a text of K for it
pub record Versioned (K : Version → Lang) (t : List ℕ) : Type 0 where
  pub version : Version
  pub rest : List ℕ
  pub is : t ≡ digit_of version ∷ rest
  pub after : K version rest

-- a number in the field's range, the byte behind it, and then a text of K for the number
pub record Numeral (v : Version) (f : Field) (K : ℕ → Lang) (t : List ℕ) : Type 0 where
  pub n : ℕ
  pub rest : List ℕ
  pub low : least f ≤ n
  pub high : n ≤ greatest f
  pub is : t ≡ decimal n ++ (ender v f ∷ rest)
  pub after : K n rest

-- the same, where the digits of y have come
pub record MoreDigits (v : Version) (f : Field) (y : ℕ) (K : ℕ → Lang) (t : List ℕ) : Type 0 where
  pub n : ℕ
  pub digits : List ℕ
  pub rest : List ℕ
  pub low : least f ≤ n
  pub high : n ≤ greatest f
  pub begins : decimal n ≡ decimal y ++ digits
  pub is : t ≡ digits ++ (ender v f ∷ rest)
  pub after : K n rest

-- the terms of a point from each of them on, and then a text of K
abbrev pub NeedLeft : Version → Point → ℕ → ℕ → ℕ → Lang → Lang
NeedLeft v p b o h K = Numeral v (field.Need p b o h) (λ n. K)

abbrev pub OthersLeft : Version → Point → ℕ → ℕ → Lang → Lang
OthersLeft v p b o K = Numeral v (field.Others p b o) (λ h. NeedLeft v p b o h K)

abbrev pub OwnLeft : Version → Point → ℕ → Lang → Lang
OwnLeft v p b K = Numeral v (field.Own p b) (λ o. OthersLeft v p b o K)

abbrev pub TermsLeft : Version → Point → Lang → Lang
TermsLeft One p K = K
TermsLeft Two p K = Numeral Two (field.Blocking p) (λ b. OwnLeft Two p b K)

abbrev pub EndLeft : Version → ℕ → Lang → Lang
EndLeft v a K = Numeral v (field.Finish a) (λ x. TermsLeft v (point_of a x) K)

abbrev pub PointLeft : Version → Lang → Lang
PointLeft v K = Then (codes "p ") (Numeral v field.Offset (λ a. EndLeft v a K))

abbrev pub PointsLeft : Version → Lang → ℕ → Lang
PointsLeft v K zero = K
PointsLeft v K (suc k) = PointLeft v (PointsLeft v K k)

abbrev pub EntryLeft : Version → ℕ → Lang → Lang
EntryLeft v i K = Then (word_text word.Task i)
    (Numeral v field.Window (λ w. Numeral v (field.Bound w) (λ r. Numeral v (field.Count w r) (λ k. PointsLeft v K k))))

-- m entries from the i-th on, and the end
abbrev pub EntriesLeft : Version → ℕ → ℕ → Lang
EntriesLeft v i zero = λ t. t ≡ codes "end\n"
EntriesLeft v i (suc m) = EntryLeft v i (EntriesLeft v (suc i) m)

abbrev pub AfterNumber : Version → ℕ → ℕ → ℕ → Field → ℕ → Lang
AfterNumber v i m k field.Tasks n = EntriesLeft v 0 n
AfterNumber v i m k field.Window w = Numeral v (field.Bound w) (λ r. Numeral v (field.Count w r) (λ k. PointsLeft v (EntriesLeft v (suc i) m) k))
AfterNumber v i m k (field.Bound w) r = Numeral v (field.Count w r) (λ k. PointsLeft v (EntriesLeft v (suc i) m) k)
AfterNumber v i m k (field.Count w r) n = PointsLeft v (EntriesLeft v (suc i) m) n
AfterNumber v i m k field.Offset a = EndLeft v a (PointsLeft v (EntriesLeft v (suc i) m) (k - 1))
AfterNumber v i m k (field.Finish a) x = TermsLeft v (point_of a x) (PointsLeft v (EntriesLeft v (suc i) m) (k - 1))
AfterNumber v i m k (field.Blocking p) b = OwnLeft v p b (PointsLeft v (EntriesLeft v (suc i) m) (k - 1))
AfterNumber v i m k (field.Own p b) o = OthersLeft v p b o (PointsLeft v (EntriesLeft v (suc i) m) (k - 1))
AfterNumber v i m k (field.Others p b o) h = NeedLeft v p b o h (PointsLeft v (EntriesLeft v (suc i) m) (k - 1))
AfterNumber v i m k (field.Need p b o h) n = PointsLeft v (EntriesLeft v (suc i) m) (k - 1)

abbrev pub TasksLeft : Version → Lang
TasksLeft v = Then (word_text word.Tasks 0) (Numeral v field.Tasks (λ n. EntriesLeft v 0 n))

abbrev pub AfterWord : Version → ℕ → ℕ → ℕ → Word → Lang
AfterWord v i m k word.Head = Versioned TasksLeft
AfterWord v i m k word.Tasks = Numeral v field.Tasks (AfterNumber v i m k field.Tasks)
AfterWord v i m k word.Task = Numeral v field.Window (AfterNumber v i m k field.Window)
AfterWord v i m k word.Point = Numeral v field.Offset (AfterNumber v i m k field.Offset)
AfterWord v i m k word.End = λ t. t ≡ []

abbrev pub LeftAt : Version → Expected → ℕ → ℕ → ℕ → Lang
LeftAt v (Rest w at) i m k = Then (drop at (word_text w i)) (AfterWord v i m k w)
LeftAt v VersionDigit i m k = Versioned TasksLeft
LeftAt v (Number f) i m k = Numeral v f (AfterNumber v i m k f)
LeftAt v (Digits f y) i m k = MoreDigits v f y (AfterNumber v i m k f)
LeftAt v Over i m k = λ t. t ≡ []
LeftAt v Nothing i m k = λ t. ⊥

abbrev pub Left : Place → Lang
Left p = LeftAt p.version p.expected p.task p.after p.points

-- behind a word, a number, a point
left_after_word : (v : Version) (w : Word) (i m k : ℕ) (t : List ℕ) → LeftAt v (after_word w) i m k t → AfterWord v i m k w t
left_after_word v word.Head i m k t h = h
left_after_word v word.Tasks i m k t h = h
left_after_word v word.Task i m k t h = h
left_after_word v word.Point i m k t h = h
left_after_word v word.End i m k t h = h

left_after_entry : (v : Version) (i m : ℕ) (t : List ℕ) → Left (after_entry v i m) t → EntriesLeft v (suc i) m t
left_after_entry v i zero t h = rw h.after at h.is
left_after_entry v i (suc m) t h = h

left_after_point : (v : Version) (i m k : ℕ) (t : List ℕ) → Left (after_point v i m k) t → PointsLeft v (EntriesLeft v (suc i) m) k t
left_after_point v i m zero t h = left_after_entry v i m t h
left_after_point v i m (suc k) t h =
    let less : suc k - 1 ≡ k = omega arith in
    subst (λ (w : ℕ). PointLeft v (PointsLeft v (EntriesLeft v (suc i) m) w) t) less h

left_after_end : (v : Version) (i m k a x : ℕ) (t : List ℕ) → Left (after_end v i m k a x).0 t →
    TermsLeft v (point_of a x) (PointsLeft v (EntriesLeft v (suc i) m) (k - 1)) t
left_after_end One i m k a x t h = left_after_point One i m (k - 1) t h
left_after_end Two i m k a x t h = h

left_after_number : (v : Version) (f : Field) (i m k n : ℕ) (t : List ℕ) → least f ≤ n → Left (after_number v i m k f n).0 t → AfterNumber v i m k f n t
left_after_number v field.Tasks i m k zero t low h = absurd (omega arith)
left_after_number v field.Tasks i m k (suc n) t low h =
    let less : suc n - 1 ≡ n = omega arith in
    subst (λ (w : ℕ). LeftAt v (Rest word.Task 0) 0 w 0 t) less h
left_after_number v field.Window i m k n t low h = h
left_after_number v (field.Bound w) i m k n t low h = h
left_after_number v (field.Count w r) i m k zero t low h = absurd (omega arith)
left_after_number v (field.Count w r) i m k (suc n) t low h = left_after_point v i m (suc n) t h
left_after_number v field.Offset i m k n t low h = h
left_after_number v (field.Finish a) i m k n t low h = left_after_end v i m k a n t h
left_after_number v (field.Blocking p) i m k n t low h = h
left_after_number v (field.Own p b) i m k n t low h = h
left_after_number v (field.Others p b o) i m k n t low h = h
left_after_number v (field.Need p b o r) i m k n t low h = left_after_point v i m (k - 1) t h

back_word : (v : Version) (w : Word) (i m k at x : ℕ) (t : List ℕ) → at < length (word_text w i) →
    Left (in_word v i m k w at x).0 t → Then (drop at (word_text w i)) (AfterWord v i m k w) (x ∷ t)
back_word v w i m k at x t fits =
    let text = word_text w i in
    let more : drop at text ≡ get_or text at 0 ∷ drop (at + 1) text = drop_more text at 0 fits in
    cases (slice_index text at == x)
    (λ here. let e : slice_index text at ≡ x = eq_from_test (slice_index text at) x here in
    cases (at + 1 == length text)
    (λ last.
    let none : drop (at + 1) text ≡ [] = drop_all (at + 1) text (omega (arith, eq_from_test (at + 1) (length text) last)) in
    rw (here, last) (λ h. record { rest = t; is = rw (more, e, none) refl; after = left_after_word v w i m k t h }))
    (λ last. rw (here, last) (λ h. record { rest = h.rest; is = rw (more, e) (ap (λ (l : List ℕ). x ∷ l) h.is); after = h.after })))
    (λ here. rw here (λ h. absurd h))

back_version : (x : ℕ) (t : List ℕ) → Left (version_digit x).0 t → Versioned TasksLeft (x ∷ t)
back_version x t =
    cases (x == digit_of One)
    (λ one. let e : x ≡ digit_of One =
    eq_from_test x (digit_of One) one in rw one (λ h. record { version = One; rest = t; is = ap (λ (y : ℕ). y ∷ t) e; after = h }))
    (λ one. cases (x == digit_of Two)
    (λ two. let e : x ≡ digit_of Two = eq_from_test x (digit_of Two) two in rw (one, two)
    (λ h. record { version = Two; rest = t; is = ap (λ (y : ℕ). y ∷ t) e; after = h }))
    (λ two. rw (one, two) (λ h. absurd h)))

back_first : (v : Version) (f : Field) (i m k x : ℕ) (t : List ℕ) → Left (first_digit v i m k f x).0 t → Numeral v f (AfterNumber v i m k f) (x ∷ t)
back_first v f i m k x t =
    cases (is_ascii_digit x && nat_le (least f) (x - 48))
    (λ test.
    let d = digit_and x (nat_le (least f) (x - 48)) test in
    let w : 48 + (x - 48) ≡ x = omega (arith, d.0) in
    rw test (λ h. record {
      n = h.n;
      rest = h.rest;
      low = h.low;
      high = h.high;
      is = rw (h.begins, decimal_digit (x - 48) (omega (arith, d.0, d.1)), w) (ap (λ (l : List ℕ). x ∷ l) h.is);
      after = h.after;
    }))
    (λ test. rw test (λ h. absurd h))

digit_more : (y d : ℕ) → 0 < y → d < 10 → y * 10 + d ≤ greatest_term → decimal (y * 10 + d) ≡ decimal y ++ (48 + d) ∷ []
digit_more y d pos small fits =
    let q : (y * 10 + d) / 10 ≡ y = omega arith in
    let r : (y * 10 + d) % 10 ≡ d = omega arith in
    decimal_step_wide (y * 10 + d) (omega arith) (omega arith) ∙ rw (q, r) refl

back_more : (v : Version) (f : Field) (i m k y x : ℕ) (t : List ℕ) → least f ≤ y → y ≤ greatest f →
    Left (more_digits v i m k f y x).0 t → MoreDigits v f y (AfterNumber v i m k f) (x ∷ t)
back_more v f i m k y x t low high =
    cases (x == ender v f)
    (λ end. rw end (λ h. record {
      n = y;
      digits = [];
      rest = t;
      low = low;
      high = high;
      begins = sym (append-nil (decimal y));
      is = ap (λ (z : ℕ). z ∷ t) (eq_from_test x (ender v f) end);
      after = left_after_number v f i m k y t low h;
    }))
    (λ end. cases (is_ascii_digit x && (not (y == 0) && nat_le (y * 10 + (x - 48)) (greatest f)))
    (λ test.
    let d = digit_and x (not (y == 0) && nat_le (y * 10 + (x - 48)) (greatest f)) test in
    let q = and_parts (not (y == 0)) (nat_le (y * 10 + (x - 48)) (greatest f)) d.2 in
    let w : 48 + (x - 48) ≡ x = omega (arith, d.0) in
    let more = digit_more y (x - 48) (positive_from_test y q.0) (omega (arith, d.0, d.1))
    (omega (arith, le_from_test (y * 10 + (x - 48)) (greatest f) q.1, greatest_small f)) in
    rw (end, test) (λ h. record {
      n = h.n;
      digits = x ∷ h.digits;
      rest = h.rest;
      low = h.low;
      high = h.high;
      begins = h.begins ∙ ap (λ (l : List ℕ). l ++ h.digits) more ∙ append_assoc (decimal y) ((48 + (x - 48)) ∷ []) h.digits ∙
          ap (λ (z : ℕ). decimal y ++ z ∷ h.digits) w;
      is = ap (λ (l : List ℕ). x ∷ l) h.is;
      after = h.after;
    }))
    (λ test. rw (end, test) (λ h. absurd h)))

back_at : (v : Version) (e : Expected) (i m k x : ℕ) (t : List ℕ) → IsRight e i k → Left (next_place (at_place v e i m k) x).0 t → LeftAt v e i m k (x ∷ t)
back_at v (Rest w at) i m k x t right h = back_word v w i m k at x t right.0 h
back_at v VersionDigit i m k x t right h = back_version x t h
back_at v (Number f) i m k x t right h = back_first v f i m k x t h
back_at v (Digits f y) i m k x t right h = back_more v f i m k y x t right.0 right.1 h
back_at v Over i m k x t right h = absurd h
back_at v Nothing i m k x t right h = absurd h

pub back : (p : Place) (x : ℕ) (t : List ℕ) → IsPlace p → Left (next_place p x).0 t → Left p (x ∷ t)
back p x t right h = back_at p.version p.expected p.task p.after p.points x t right.right h

-- no place is without a text that may follow
pub record HasText (K : Lang) : Type 0 where
  pub text : List ℕ
  pub holds : K text

some_then : (w : List ℕ) (K : Lang) → HasText K → HasText (Then w K)
some_then w K h = record { text = w ++ h.text; holds = record { rest = h.text; is = refl; after = h.holds } }

in_range : (f : Field) → least f ≤ greatest f
in_range field.Tasks = omega arith
in_range (field.Count w r) = omega arith
in_range field.Window = omega arith
in_range (field.Bound w) = omega arith
in_range field.Offset = omega arith
in_range (field.Finish a) = omega arith
in_range (field.Blocking p) = omega arith
in_range (field.Own p b) = omega arith
in_range (field.Others p b o) = omega arith
in_range (field.Need p b o h) = omega arith

some_numeral : (v : Version) (f : Field) (K : ℕ → Lang) → ((n : ℕ) → HasText (K n)) → HasText (Numeral v f K)
some_numeral v f K h =
    let s = h (least f) in
    record {
      text = decimal (least f) ++ (ender v f ∷ s.text);
      holds =
          record { n = least f; rest = s.text; low = omega arith; high = in_range f; is = refl; after = s.holds };
    }

some_digits : (v : Version) (f : Field) (y : ℕ) (K : ℕ → Lang) → least f ≤ y → y ≤ greatest f → ((n : ℕ) → HasText (K n)) → HasText (MoreDigits v f y K)
some_digits v f y K low high h =
    let s = h y in
    record {
      text = ender v f ∷ s.text;
      holds = record {
        n = y;
        digits = [];
        rest = s.text;
        low = low;
        high = high;
        begins =
            sym (append-nil (decimal y));
        is = refl;
        after = s.holds;
      };
    }

some_need : (v : Version) (p : Point) (b o h : ℕ) (K : Lang) → HasText K → HasText (NeedLeft v p b o h K)
some_need v p b o h K s = some_numeral v (field.Need p b o h) _ (λ n. s)

some_others : (v : Version) (p : Point) (b o : ℕ) (K : Lang) → HasText K → HasText (OthersLeft v p b o K)
some_others v p b o K s = some_numeral v (field.Others p b o) _ (λ h. some_need v p b o h K s)

some_own : (v : Version) (p : Point) (b : ℕ) (K : Lang) → HasText K → HasText (OwnLeft v p b K)
some_own v p b K s = some_numeral v (field.Own p b) _ (λ o. some_others v p b o K s)

some_terms : (v : Version) (p : Point) (K : Lang) → HasText K → HasText (TermsLeft v p K)
some_terms One p K s = s
some_terms Two p K s = some_numeral Two (field.Blocking p) _ (λ b. some_own Two p b K s)

some_end : (v : Version) (a : ℕ) (K : Lang) → HasText K → HasText (EndLeft v a K)
some_end v a K s = some_numeral v (field.Finish a) _ (λ x. some_terms v (point_of a x) K s)

some_points : (v : Version) (K : Lang) (k : ℕ) → HasText K → HasText (PointsLeft v K k)
some_points v K zero h = h
some_points v K (suc k) h = some_then (codes "p ") _ (some_numeral v field.Offset _ (λ a. some_end v a _ (some_points v K k h)))

some_entries : (v : Version) (i m : ℕ) → HasText (EntriesLeft v i m)
some_entries v i zero = record { text = codes "end\n"; holds = refl }
some_entries v i (suc m) =
    some_then (word_text word.Task i) _
    (some_numeral v field.Window _
    (λ w. some_numeral v (field.Bound w) _ (λ r. some_numeral v (field.Count w r) _ (λ k. some_points v _ k (some_entries v (suc i) m)))))

some_after : (v : Version) (f : Field) (i m k n : ℕ) → HasText (AfterNumber v i m k f n)
some_after v field.Tasks i m k n = some_entries v 0 n
some_after v field.Window i m k w =
    some_numeral v (field.Bound w) _ (λ r. some_numeral v (field.Count w r) _ (λ k. some_points v _ k (some_entries v (suc i) m)))
some_after v (field.Bound w) i m k r = some_numeral v (field.Count w r) _ (λ k. some_points v _ k (some_entries v (suc i) m))
some_after v (field.Count w r) i m k n = some_points v _ n (some_entries v (suc i) m)
some_after v field.Offset i m k a = some_end v a _ (some_points v _ (k - 1) (some_entries v (suc i) m))
some_after v (field.Finish a) i m k x = some_terms v (point_of a x) _ (some_points v _ (k - 1) (some_entries v (suc i) m))
some_after v (field.Blocking p) i m k n = some_own v p n _ (some_points v _ (k - 1) (some_entries v (suc i) m))
some_after v (field.Own p b) i m k n = some_others v p b n _ (some_points v _ (k - 1) (some_entries v (suc i) m))
some_after v (field.Others p b o) i m k n = some_need v p b o n _ (some_points v _ (k - 1) (some_entries v (suc i) m))
some_after v (field.Need p b o h) i m k n = some_points v _ (k - 1) (some_entries v (suc i) m)

some_tasks : (v : Version) → HasText (TasksLeft v)
some_tasks v = some_then (word_text word.Tasks 0) _ (some_numeral v field.Tasks _ (λ n. some_entries v 0 n))

some_version : HasText (Versioned TasksLeft)
some_version =
    let s = some_tasks One in
    record { text = digit_of One ∷ s.text; holds = record { version = One; rest = s.text; is = refl; after = s.holds } }

some_word : (v : Version) (w : Word) (i m k : ℕ) → HasText (AfterWord v i m k w)
some_word v word.Head i m k = some_version
some_word v word.Tasks i m k = some_numeral v field.Tasks _ (some_after v field.Tasks i m k)
some_word v word.Task i m k = some_numeral v field.Window _ (some_after v field.Window i m k)
some_word v word.Point i m k = some_numeral v field.Offset _ (some_after v field.Offset i m k)
some_word v word.End i m k = record { text = []; holds = refl }

some_at : (v : Version) (e : Expected) (i m k : ℕ) → IsRight e i k → (e ≡ Nothing → ⊥) → HasText (LeftAt v e i m k)
some_at v (Rest w at) i m k right good = some_then (drop at (word_text w i)) _ (some_word v w i m k)
some_at v VersionDigit i m k right good = some_version
some_at v (Number f) i m k right good = some_numeral v f _ (some_after v f i m k)
some_at v (Digits f y) i m k right good = some_digits v f y _ right.0 right.1 (some_after v f i m k)
some_at v Over i m k right good = record { text = []; holds = refl }
some_at v Nothing i m k right good = absurd (good refl)

pub some_left : (p : Place) → IsPlace p → (p.expected ≡ Nothing → ⊥) → HasText (Left p)
some_left p right good = some_at p.version p.expected p.task p.after p.points right.right good

-- what is left at the start is the text of a certificate
pub record HasPoints (v : Version) (K : Lang) (k : ℕ) (t : List ℕ) : Type 0 where
  pub lines : List PointLine
  pub rest : List ℕ
  pub count : length lines ≡ k
  pub each : All (IsLineOf v) lines
  pub is : t ≡ flat_map point_text lines ++ rest
  pub after : K rest

-- one point, and what follows it
pub record HasPoint (v : Version) (K : Lang) (t : List ℕ) : Type 0 where
  pub line : PointLine
  pub rest : List ℕ
  pub one : IsLineOf v line
  pub is : t ≡ point_text line ++ rest
  pub after : K rest

plain_join : (t r s u a x : List ℕ) → t ≡ codes "p " ++ r → r ≡ a ++ (32 ∷ s) → s ≡ x ++ (10 ∷ u)
    → t ≡ (codes "p " ++ (a ++ (codes " " ++ (x ++ codes "\n")))) ++ u
plain_join t r s u a x e f g = rw (e, f, g) (simp append_assoc)

term_join : (t r s u c d e f a x b o h n : List ℕ) → t ≡ codes "p " ++ r → r ≡ a ++ (32 ∷ s) → s ≡ x ++ (32 ∷ u)
    → u ≡ b ++ (32 ∷ c) → c ≡ o ++ (32 ∷ d) → d ≡ h ++ (32 ∷ e) → e ≡ n ++ (10 ∷ f)
    → t ≡ (codes "p " ++ (a ++ (codes " " ++ (x ++ ((codes " " ++ (b ++ (codes " " ++ (o ++ (codes " " ++ (h ++ (codes " " ++ n))))))) ++ codes "\n"))))) ++ f
term_join t r s u c d e f a x b o h n i j k l p q z = rw (i, j, k, l, p, q, z) (simp append_assoc)

point_of_left : (v : Version) (K : Lang) (t : List ℕ) → PointLeft v K t → HasPoint v K t
point_of_left One K t h =
    let a = h.after in
    let x = a.after in
    record {
      line = point_line (point_of a.n x.n) None;
      rest = x.rest;
      one = record { point = record { offset = a.high; end = x.high }; terms = tt };
      is = plain_join t h.rest a.rest x.rest (decimal a.n) (decimal x.n) h.is a.is x.is;
      after = x.after;
    }
point_of_left Two K t h =
    let a = h.after in
    let x = a.after in
    let b = x.after in
    let o = b.after in
    let r = o.after in
    let n = r.after in
    record {
      line = point_line (point_of a.n x.n) (Some (terms_of b.n o.n r.n n.n));
      rest = n.rest;
      one = record { point = record { offset = a.high; end = x.high }; terms = record { blocking = b.high; own = o.high; others = r.high; need = n.high } };
      is = term_join t h.rest a.rest x.rest b.rest o.rest r.rest n.rest (decimal a.n) (decimal x.n) (decimal b.n) (decimal o.n)
          (decimal r.n) (decimal n.n) h.is a.is x.is b.is o.is r.is n.is;
      after = n.after;
    }

points_join : (t r line lines rest : List ℕ) → t ≡ line ++ r → r ≡ lines ++ rest → t ≡ (line ++ lines) ++ rest
points_join t r line lines rest e f = rw (e, f) (simp append_assoc)

points_of : (v : Version) (K : Lang) (k : ℕ) (t : List ℕ) → PointsLeft v K k t → HasPoints v K k t
points_of v K zero t h = record { lines = []; rest = t; count = refl; each = All-nil (IsLineOf v); is = refl; after = h }
points_of v K (suc k) t h =
    let one = point_of_left v (PointsLeft v K k) t h in
    let others = points_of v K k one.rest one.after in
    record {
      lines = one.line ∷ others.lines;
      rest = others.rest;
      count = ap suc others.count;
      each = All-cons (IsLineOf v) one.line others.lines one.one others.each;
      is = points_join t one.rest (point_text one.line) (flat_map point_text others.lines) others.rest one.is others.is;
      after = others.after;
    }

pub record HasEntries (v : Version) (i m : ℕ) (t : List ℕ) : Type 0 where
  pub entries : List Entry
  pub count : length entries ≡ m
  pub each : All IsEntry entries
  pub terms : All (HasTermsOf v) entries
  pub is : t ≡ entries_text i entries ++ codes "end\n"

entry_join : (t r s u v z rest i w b c n ps es : List ℕ) → t ≡ ((116 ∷ 97 ∷ 115 ∷ 107 ∷ 32 ∷ []) ++ (i ++ (32 ∷ []))) ++ r → r ≡ w ++ (32 ∷ s) →
    s ≡ b ++ (32 ∷ u) → u ≡ c ++ (10 ∷ v) → c ≡ n → v ≡ ps ++ z → z ≡ es ++ rest
    → t ≡ (((116 ∷ 97 ∷ 115 ∷ 107 ∷ 32 ∷ []) ++ (i ++ ((32 ∷ []) ++ (w ++ ((32 ∷ []) ++ (b ++ ((32 ∷ []) ++ (n ++ (10 ∷ []))))))))) ++ (ps ++ es)) ++ rest
entry_join t r s u v z rest i w b c n ps es e f g h k l q =
    let tail = w ++ (32 ∷ (b ++ (32 ∷ (n ++ (10 ∷ (ps ++ (es ++ rest))))))) in
    let first : (i ++ (32 ∷ [])) ++ tail ≡ i ++ (32 ∷ tail) = append_assoc i (32 ∷ []) tail in
    rw (e, f, g, h, k, l, q) (ap (λ (y : List ℕ). 116 ∷ 97 ∷ 115 ∷ 107 ∷ 32 ∷ y) first ∙ simp append_assoc)

entries_left : (v : Version) (i m : ℕ) (t : List ℕ) → EntriesLeft v i m t → HasEntries v i m t
entries_left v i zero t h = record { entries = []; count = refl; each = All-nil IsEntry; terms = All-nil (HasTermsOf v); is = h }
entries_left v i (suc m) t h =
    let w = h.after in
    let r = w.after in
    let k = r.after in
    let points = points_of v (EntriesLeft v (suc i) m) k.n k.rest k.after in
    let are = are_lines v points.lines points.each in
    let others = entries_left v (suc i) m points.rest points.after in
    let e : Entry = record { window = w.n; bound = r.n; points = points_in points.lines; terms = terms_in points.lines } in
    let count : length e.points ≡ k.n = length-map points.lines (λ (l : PointLine). l.point) ∙ points.count in
    record {
      entries = e ∷ others.entries;
      count = ap suc others.count;
      each = All-cons IsEntry e others.entries
          (record {
            window = w.high;
            bound = r.high;
            some = subst (λ (n : ℕ). 1 ≤ n) (sym count) k.low;
            few =
                subst (λ (n : ℕ). n ≤ most_points) (sym count) k.high;
            points = are.points;
          }) others.each;
      terms = All-cons (HasTermsOf v) e others.entries (record { count = are.count; each = are.terms }) others.terms;
      is = entry_join t h.rest w.rest r.rest k.rest points.rest (codes "end\n") (decimal i) (decimal w.n) (decimal r.n)
          (decimal k.n) (decimal (length e.points)) (points_text e) (entries_text (suc i) others.entries)
          h.is w.is r.is k.is (ap decimal (sym count))
          (points.is ∙ ap (λ (ls : List PointLine). flat_map point_text ls ++ points.rest) (sym are.same)) others.is;
    }

text_join : (v : Version) (t q r s rest c n es : List ℕ) → t ≡ codes "poet-cert " ++ q → q ≡ digit_of v ∷ r →
    r ≡ codes "\ntasks " ++ s → s ≡ c ++ (10 ∷ (es ++ rest)) → c ≡ n
    → t ≡ head_of v ++ (codes "tasks " ++ (n ++ (codes "\n" ++ (es ++ rest))))
text_join One t q r s rest c n es e f g h k = rw (e, f, g, h, k) refl
text_join Two t q r s rest c n es e f g h k = rw (e, f, g, h, k) refl

pub text_of_left : (t : List ℕ) → Left start t → (c : Cert) × Parses cert_format t c
text_of_left t h =
    let v = h.after.version in
    let tasks = h.after.after in
    let n = tasks.after in
    let es = entries_left v 0 n.n n.rest n.after in (
      record { version = v; entries = es.entries },
      record {
        within = record {
          some = subst (λ (n : ℕ). 1 ≤ n) (sym es.count) n.low;
          few =
              subst (λ (n : ℕ). n ≤ most_tasks) (sym es.count) n.high;
          entries = es.each;
          terms = es.terms;
        };
        text = text_join v t h.rest h.after.rest tasks.rest (codes "end\n") (decimal n.n) (decimal (length es.entries)) (entries_text 0 es.entries)
            h.is h.after.is tasks.is (n.is ∙ ap (λ (l : List ℕ). decimal n.n ++ (10 ∷ l)) es.is) (ap decimal (sym es.count));
      },
    )
