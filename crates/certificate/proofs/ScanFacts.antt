-- A point's line in front of the bytes, read at once.
use Rattle.std.proofs.Common.{◌≢◌, ◌≡◌, ℕ, suc, zero, ◌+◌, ◌-◌, ◌%◌, ◌^◌, ◌<◌, ◌≤◌, ◌==◌, Bool, cond, List, [], ◌∷◌, ◌++◌, Option, Some, None, length}
use Rattle.std.proofs.Common.{get_or, take, drop, codes, decimal, refl, sym, ap, subst, ◌∙◌, arith, append_assoc, length-append}
use Rattle.std.proofs.lemmas.List.{append-nil, length-take, length-take-le, get_or-take, take_at, nil_from_length, take-append-drop, take_rest, drop_more}
use Rattle.std.proofs.lemmas.List.Sums.{sum_by-cons}
use Rattle.std.proofs.lemmas.Fmt.{decimal_by_steps_wide}
use Rattle.std.proofs.lemmas.Str.Parse.{digits_value_short, numerals_by_value, tells_digits}
use Rattle.std.specs.Str.Parse.{AllDigits, digits_value}
use Rattle.poet_io.specs.Texts.{newlines}
use Rattle.poet_io.proofs.DecimalFacts.{IsOneLine, one_line_append, digit_is_no_newline, canonical}
use Rattle.certificate.specs.Text.{PointLine, point_line, terms_text, point_text}
use Rattle.certificate.specs.Steps.{point_step}
use Rattle.certificate.specs.Progress.{Progress}
use Rattle.certificate.specs.FirstLines.{IsFirstLine, IsLineOf, HasTerms, said_after}
use Rattle.certificate.specs.Machine.{at_place, after_point, after_bytes, next_place, walk, IsRight, IsProgress}
use Rattle.certificate.specs.declared.cert.Version.{Version}
use Rattle.certificate.specs.declared.cert.Version.TheVariants.{One, Two}
use Rattle.certificate.specs.declared.cert.Point.{Point}
use Rattle.certificate.specs.declared.cert.Terms.{Terms}
use Rattle.certificate.specs.declared.place.Word.TheVariants as word
use Rattle.certificate.specs.declared.place.Expected.{Expected}
use Rattle.certificate.specs.declared.place.Expected.TheVariants.{Rest, Nothing}
use Rattle.certificate.specs.declared.place.Place.{Place}
use Rattle.certificate.specs.declared.step.LineStep.{LineStep}
use Rattle.certificate.specs.declared.step.LineStep.TheVariants as says
use Rattle.certificate.proofs.WalkFacts.{one_point, walk-append}
use Rattle.certificate.proofs.ProgressFacts.{lines_all, place_of, said_count, newlines_push, point_good}
use Rattle.certificate.proofs.FeedFacts.{said_push, line_count}

decimal_wide_line : (n : ℕ) → n < 10 ^ 64 → IsOneLine (decimal n)
decimal_wide_line n h = decimal_by_steps_wide (λ n ds. IsOneLine ds)
    (λ n small. (digit_is_no_newline n small, tt))
    (λ n ds big one. one_line_append ds ((48 + n % 10) ∷ []) one (digit_is_no_newline (n % 10) (omega arith), tt)) n h

one_line_none : (xs : List ℕ) → IsOneLine xs → newlines xs ≡ 0
one_line_none [] h = refl
one_line_none (x ∷ xs) h = sum_by-cons (λ (y : ℕ). cond (y == 10) 1 0) x xs ∙ omega (arith, ap (λ (w : Bool). cond {A = ℕ} w 1 0) h.0, one_line_none xs h.1)

terms_one_line : (v : Version) (terms : Option Terms) → HasTerms v terms → IsOneLine (terms_text terms)
terms_one_line v None h = tt
terms_one_line One (Some t) h = absurd h
terms_one_line Two (Some t) h = (
  refl,
  one_line_append (decimal t.blocking) _ (decimal_wide_line t.blocking (omega (arith, h.blocking))) (
    refl,
    one_line_append (decimal t.own) _ (decimal_wide_line t.own (omega (arith, h.own))) (
      refl,
      one_line_append (decimal t.others) _ (decimal_wide_line t.others (omega (arith, h.others)))
          (refl, decimal_wide_line t.need (omega (arith, h.need))),
    ),
  ),
)

-- the line of a point without its newline
abbrev point_front : PointLine → List ℕ
point_front l = codes "p " ++ (decimal l.point.offset ++ (codes " " ++ (decimal l.point.end ++ terms_text l.terms)))

front_is : (l : PointLine) → point_text l ≡ point_front l ++ 10 ∷ []
front_is l = simp append_assoc

front_one_line : (v : Version) (l : PointLine) → IsLineOf v l → newlines (point_front l) ≡ 0
front_one_line v l h =
    one_line_none (point_front l) (
      refl,
      (
        refl,
        one_line_append (decimal l.point.offset) _ (decimal_wide_line l.point.offset (omega (arith, h.point.offset))) (
          refl,
          one_line_append (decimal l.point.end) (terms_text l.terms)
              (decimal_wide_line l.point.end (omega (arith, h.point.end))) (terms_one_line v l.terms h.terms),
        ),
      ),
    )

-- what the bytes in front of a text leave is what stands behind it
front_taken : (bytes text rest : List ℕ) → bytes ≡ text ++ rest → take (length bytes - length rest) bytes ≡ text
front_taken bytes text rest e =
    let n : length text ≡ length bytes - length rest = omega (arith, ap length e, length-append text rest) in
    ap (take (length bytes - length rest)) e ∙ take_at text rest (length bytes - length rest) n

pub point_first : (v : Version) (l : PointLine) (bytes rest : List ℕ) → IsLineOf v l → bytes ≡ point_text l ++ rest →
    IsFirstLine bytes (length bytes - length rest)
point_first v l bytes rest h e =
    let n = length bytes - length rest in
    let front = point_front l in
    let whole : bytes ≡ front ++ 10 ∷ rest = e ∙ ap (λ (t : List ℕ). t ++ rest) (front_is l) ∙ append_assoc front (10 ∷ []) rest in
    let count : length front ≡ n - 1 = omega (arith, ap length whole, length-append front (10 ∷ rest)) in
    record {
      within = omega arith;
      inside = ap newlines (ap (take (n - 1)) whole ∙ take_at front (10 ∷ rest) (n - 1) count) ∙ front_one_line v l h;
      whole = λ _. ap newlines (front_taken bytes (point_text l) rest e ∙ front_is l) ∙ newlines_push front 10 ∙ omega (arith, front_one_line v l h);
    }

-- where a point must come, its line leads behind it, and says it
record Leads (l : PointLine) (k line : ℕ) (p : Place) (s : LineStep) (done : Progress) : Type 0 where
  pub place : done.place ≡ p
  pub line_on : done.line ≡ line + 1
  pub step : s ≡ point_step l

leads : (v : Version) (l : PointLine) (i m k line : ℕ) (s : LineStep) → IsLineOf v l
    → Leads l k line (after_point v i m k)
    (said_after s (record { place = after_point v i m (suc k); line = line }) (point_text l))
    (after_bytes (record { place = after_point v i m (suc k); line = line }) (point_text l))
leads v l i m k line s h =
    let p = after_point v i m (suc k) in
    let start : Progress = record { place = p; line = line } in
    let front = point_front l in
    let walked : walk [] p (point_text l) ≡ (point_step l ∷ [], after_point v i m k) =
    ap (walk [] p) (sym (append-nil (point_text l))) ∙ one_point v l [] i m k [] h in
    let place : (after_bytes start (point_text l)).place ≡ after_point v i m k = place_of [] start (point_text l) ∙
    ap (λ (r : List LineStep × Place). r.1) walked in
    let good : (after_bytes start (point_text l)).place.expected ≡ Nothing → ⊥ = λ e. point_good v i m k (ap (λ (q : Place). q.expected) (sym place) ∙ e) in
    let count : newlines (point_text l) ≡ 1 = ap newlines (front_is l) ∙ newlines_push front 10 ∙ omega (arith, front_one_line v l h) in
    let none : (walk [] p front).0 ≡ [] = nil_from_length (walk [] p front).0 (said_count [] front [] p refl ∙ front_one_line v l h) in
    let said : (walk [] p (point_text l)).0 ≡ (walk [] p front).0 ++ (next_place (walk [] p front).1 10).1 ∷ [] =
    ap (λ (t : List ℕ). (walk [] p t).0) (front_is l) ∙ ap (λ (r : List LineStep × Place). r.0) (walk-append [] p front (10 ∷ [])) in
    let one : point_step l ∷ [] ≡ (next_place (walk [] p front).1 10).1 ∷ [] =
    ap (λ (r : List LineStep × Place). r.0) (sym walked) ∙ said ∙ ap (λ (ss : List LineStep). ss ++ (next_place (walk [] p front).1 10).1 ∷ []) none in
    record {
      place = place;
      line_on = line_count start (point_text l) good ∙ omega (arith, count);
      step = ap (said_after s start) (front_is l) ∙ said_push s start front 10 ∙
          ap (λ (q : Place). (next_place q 10).1) (place_of [] start front) ∙ sym (ap (λ (ss : List LineStep). get_or ss 0 (point_step l)) one);
    }

-- the same, of a place where a point's word must come
pub record ReadsPoint (place : Place) (line : ℕ) (l : PointLine) (s : LineStep) (text : List ℕ) : Type 0 where
  pub progress : after_bytes (record { place = place; line = line }) text ≡ record {
    place =
        after_point place.version place.task place.after (place.points - 1);
    line = line + 1;
  }
  pub step : said_after s (record { place = place; line = line }) text ≡ point_step l

reads_at : (v : Version) (l : PointLine) (i m k line : ℕ) (s : LineStep) → 1 ≤ k → IsLineOf v l →
    ReadsPoint (at_place v (Rest word.Point 0) i m k) line l s (point_text l)
reads_at v l i m zero line s some h = absurd (omega arith)
reads_at v l i m (suc k) line s some h =
    let r = leads v l i m k line s h in
    let less : k ≡ suc k - 1 = omega arith in
    record {
      progress = ap (λ (p : Place). record {
        place = p;
        line =
            (after_bytes (record { place = after_point v i m (suc k); line = line }) (point_text l)).line;
      }) r.place
          ∙ ap (λ (n : ℕ). record { place = after_point v i m k; line = n }) r.line_on ∙
          ap (λ (n : ℕ). record { place = after_point v i m n; line = line + 1 }) less;
      step = r.step;
    }

pub reads_point : (p : Place) (l : PointLine) (line : ℕ) (s : LineStep) (bytes rest : List ℕ) → p.expected ≡ Rest word.Point 0 →
    1 ≤ p.points → IsLineOf p.version l → bytes ≡ point_text l ++ rest
    → ReadsPoint p line l s (take (length bytes - length rest) bytes)
reads_point p l line s bytes rest e some h is =
    subst (ReadsPoint p line l s) (sym (front_taken bytes (point_text l) rest is))
    (subst (λ (x : _). ReadsPoint (at_place p.version x p.task p.after p.points) line l s (point_text l)) (sym e)
    (reads_at p.version l p.task p.after p.points line s some h))

-- where a point's word must come, a point is still to come
pub point_some : (p : Place) (line : ℕ) → p.expected ≡ Rest word.Point 0 → IsProgress p line → 1 ≤ p.points
point_some p line e h =
    let right : IsRight (Rest word.Point 0) p.task p.points = subst (λ (x : Expected). IsRight x p.task p.points) e h.right.right in
    right.1

-- bytes lead to the place behind a point
pub point_right : (p : Place) (l : PointLine) (line : ℕ) (bytes rest : List ℕ) → p.expected ≡ Rest word.Point 0 →
    IsProgress p line → IsLineOf p.version l → bytes ≡ point_text l ++ rest
    → IsProgress (after_point p.version p.task p.after (p.points - 1)) (line + 1)
point_right p l line bytes rest e right h is =
    let r = reads_point p l line says.More bytes rest e (point_some p line e right) h is in
    subst (λ (x : Progress). IsProgress x.place x.line) r.progress
    (lines_all (record { place = p; line = line }) (take (length bytes - length rest) bytes) right)

-- the same, as what a call leaves and says
pub point_progress : (p : Place) (l : PointLine) (line : ℕ) (bytes rest : List ℕ) → p.expected ≡ Rest word.Point 0 →
    IsProgress p line → IsLineOf p.version l → bytes ≡ point_text l ++ rest
    → record { place = after_point p.version p.task p.after (p.points - 1); line = line + 1 } ≡ after_bytes
    (record { place = p; line = line }) (take (length bytes - length rest) bytes)
point_progress p l line bytes rest e right h is = sym (reads_point p l line says.More bytes rest e (point_some p line e right) h is).progress

pub point_said : (p : Place) (l : PointLine) (line : ℕ) (s : LineStep) (bytes rest : List ℕ) → p.expected ≡ Rest word.Point 0 →
    IsProgress p line → IsLineOf p.version l → bytes ≡ point_text l ++ rest
    → point_step l ≡ said_after s (record { place = p; line = line }) (take (length bytes - length rest) bytes)
point_said p l line s bytes rest e right h is = sym (reads_point p l line s bytes rest e (point_some p line e right) h is).step

-- so few digits write a small number
digits_short : (bytes : List ℕ) (n v k : ℕ) → n ≤ k → AllDigits 10 (take n bytes) → v ≡ digits_value 10 (take n bytes) → v < 10 ^ k
digits_short bytes n v k few all value =
    let short : length (take n bytes) ≤ k = omega (arith, few, length-take n bytes) in
    subst (λ (w : ℕ). w < 10 ^ k) (sym value) (digits_value_short (numerals_by_value (AllDigits 10) tells_digits) (take n bytes) k all short)

pub one_more_fits : (bytes : List ℕ) (n v : ℕ) → n < 18 → AllDigits 10 (take n bytes) → v ≡ digits_value 10 (take n bytes) → v < 10 ^ 17
one_more_fits bytes n v few all value = digits_short bytes n v 17 (omega arith) all value

pub digits_small : (bytes : List ℕ) (n v : ℕ) → n ≤ 18 → AllDigits 10 (take n bytes) → v ≡ digits_value 10 (take n bytes) → v < 10 ^ 18
digits_small bytes n v few all value = digits_short bytes n v 18 few all value

-- a number in front of the bytes
pub number_in_front : (bytes : List ℕ) (n v ender : ℕ) → n < length bytes → 0 < n → AllDigits 10 (take n bytes) →
    v ≡ digits_value 10 (take n bytes) → v < 10 ^ 18
    → get_or bytes n 0 ≡ ender → (get_or bytes 0 0 ≡ 48 → n ≡ 1) → bytes ≡ decimal v ++ (ender ∷ drop (n + 1) bytes)
number_in_front bytes n v ender inside some all value small next lead =
    let long : length (take n bytes) ≡ n = length-take-le n bytes (omega arith) in
    let first : get_or (take n bytes) 0 0 ≡ get_or bytes 0 0 = get_or-take n bytes 0 0 some in
    let is : take n bytes ≡ decimal v = canonical (take n bytes) v (omega arith) all value (omega arith) (λ e. long ∙ lead (sym first ∙ e)) in
    sym (take-append-drop n bytes) ∙ ap (λ (t : List ℕ). t ++ drop n bytes) is ∙
    ap (λ (t : List ℕ). decimal v ++ t) (drop_more bytes n 0 inside ∙ ap (λ (x : ℕ). x ∷ drop (n + 1) bytes) next)

-- the same, with what follows as a slice gives it
pub number_taken : (bytes : List ℕ) (n v ender : ℕ) → n < length bytes → n ≢ 0 → AllDigits 10 (take n bytes) → v ≡ digits_value 10 (take n bytes) → v < 10 ^ 18
    → get_or bytes n 0 ≡ ender → (get_or bytes 0 0 ≡ 48 → n ≤ 1) → bytes ≡ decimal v ++ (ender ∷ take (length bytes - (n + 1)) (drop (n + 1) bytes))
number_taken bytes n v ender inside some all value small next lead =
    number_in_front bytes n v ender inside (omega arith) all value small next (λ e. omega (arith, lead e))
    ∙ ap (λ (t : List ℕ). decimal v ++ (ender ∷ t)) (sym (take_rest bytes (n + 1)))

-- a point's word in front of the bytes
pub word_in_front : (bytes text : List ℕ) → 2 ≤ length bytes → get_or bytes 0 0 ≡ 112 → get_or bytes 1 0 ≡ 32 → drop 2 bytes ≡ text → bytes ≡ 112 ∷ (32 ∷ text)
word_in_front [] text h e f g = absurd (omega arith)
word_in_front (x ∷ []) text h e f g = absurd (omega arith)
word_in_front (x ∷ (y ∷ bytes)) text h e f g =
    ap (λ (a : ℕ). a ∷ (y ∷ bytes)) e ∙ ap (λ (a : ℕ). 112 ∷ (a ∷ bytes)) f ∙ ap (λ (t : List ℕ). 112 ∷ (32 ∷ t)) g

-- a whole line in front of the bytes
pub plain_in_front : (bytes rest : List ℕ) (p : Point) →
    bytes ≡ 112 ∷ (32 ∷ (decimal p.offset ++ (32 ∷ (decimal p.end ++ (10 ∷ rest))))) → bytes ≡ point_text (point_line p None) ++ rest
plain_in_front bytes rest p e = e ∙ simp append_assoc

pub terms_in_front : (bytes more rest : List ℕ) (p : Point) (t : Terms) → bytes ≡ 112 ∷ (32 ∷ (decimal p.offset ++ (32 ∷ (decimal p.end ++ (32 ∷ more)))))
    → more ≡ decimal t.blocking ++ (32 ∷ (decimal t.own ++ (32 ∷ (decimal t.others ++ (32 ∷ (decimal t.need ++ (10 ∷ rest)))))))
    → bytes ≡ point_text (point_line p (Some t)) ++ rest
terms_in_front bytes more rest p t e f = e ∙ ap (λ (l : List ℕ). 112 ∷ (32 ∷ (decimal p.offset ++ (32 ∷ (decimal p.end ++ (32 ∷ l)))))) f ∙ simp append_assoc
