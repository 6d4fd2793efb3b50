-- What a place says of the bytes that led to it.
use Rattle.std.proofs.Common.{◌≡◌, ℕ, suc, zero, ◌+◌, ◌-◌, ◌*◌, ◌==◌, Bool, true, false, not, ◌&&◌, cond, nat_le, List, [], ◌∷◌, ◌++◌, length, get_or}
use Rattle.std.proofs.Common.{slice_index, codes, refl, sym, ap, subst, ◌∙◌, ◌⊎◌, inl, inr, ◌↔◌, slice_index_or, arith, append_assoc, length-append}
use Rattle.std.specs.Char.{is_ascii_digit}
use Rattle.std.proofs.lemmas.Bool.{cases_Bool}
use Rattle.std.proofs.lemmas.List.{append-nil}
use Rattle.std.proofs.lemmas.Bool.Decides.{nat_tests}
use Rattle.poet_io.specs.Texts.{Parses, BeginsText, IsRefusedLine, newlines}
use Rattle.poet_io.proofs.TextFacts.{begins_front}
use Rattle.certificate.specs.Text.{text_of, cert_format}
use Rattle.certificate.specs.Steps.{steps_of}
use Rattle.certificate.specs.Progress.{Progress}
use Rattle.certificate.specs.declared.cert.Cert.{Cert}
use Rattle.certificate.specs.declared.cert.Version.{Version}
use Rattle.certificate.specs.declared.cert.Version.TheVariants.{One, Two}
use Rattle.certificate.proofs.FieldFacts.{eq_from_test}
use Rattle.certificate.specs.Machine.{word_text, after_word, least, greatest, ender, at_place, after_point, after_end, after_number, digit_of}
use Rattle.certificate.specs.Machine.{version_digit, StandsFor, after_byte, after_bytes, beginning, is_good_at, is_over_at, IsProgress, word_step}
use Rattle.certificate.specs.Machine.{next_place, start, IsPlace, bad, walk}
use Rattle.certificate.specs.declared.place.Word.{Word}
use Rattle.certificate.specs.declared.place.Word.TheVariants as word
use Rattle.certificate.specs.declared.place.Field.{Field}
use Rattle.certificate.specs.declared.place.Field.TheVariants as field
use Rattle.certificate.specs.declared.place.Expected.{Expected}
use Rattle.certificate.specs.declared.place.Expected.TheVariants.{Rest, VersionDigit, Number, Digits, Over, Nothing}
use Rattle.certificate.specs.declared.place.Place.{Place}
use Rattle.std.proofs.lemmas.List.{same_from_push, nil_from_length, get_or_at, length_push}
use Rattle.std.proofs.lemmas.List.Sums.{sum_by_push}
use Rattle.certificate.specs.declared.step.LineStep.{LineStep}
use Rattle.certificate.specs.declared.step.LineStep.TheVariants as says
use Rattle.certificate.proofs.WalkFacts.{walk-append, text_walk}
use Rattle.certificate.proofs.LeftFacts.{Left, LeftAt, back, some_left, text_of_left}
use Rattle.certificate.proofs.LineFacts.{lines_next}

pub start_right : IsProgress start 1
start_right = record { right = record { few = omega arith; points = omega arith; right = (omega arith, tt) }; small = omega arith }

pub after_bytes-append : (l : Progress) (xs ys : List ℕ) → after_bytes l (xs ++ ys) ≡ after_bytes (after_bytes l xs) ys
after_bytes-append l [] ys = refl
after_bytes-append l (x ∷ xs) ys = after_bytes-append (after_byte l x) xs ys

pub stands_next : (l : Progress) (b : List ℕ) (x : ℕ) → StandsFor l b → StandsFor (after_byte l x) (b ++ x ∷ [])
stands_next l b x h = record { is = ap (λ (v : Progress). after_byte v x) h.is ∙ sym (after_bytes-append beginning b (x ∷ [])) }

-- what is said so far does not matter for the place
pub place_of : (ss : List LineStep) (l : Progress) (b : List ℕ) → (after_bytes l b).place ≡ (walk ss l.place b).1
place_of ss l [] = refl
place_of ss l (x ∷ b) = place_of (cond (x == 10) (ss ++ (next_place l.place x).1 ∷ []) ss) (after_byte l x) b

pub lines_all : (l : Progress) (b : List ℕ) → IsProgress l.place l.line → IsProgress (after_bytes l b).place (after_bytes l b).line
lines_all l [] h = h
lines_all l (x ∷ b) h = lines_all (after_byte l x) b (lines_next l.place x l.line h)

right_all : (b : List ℕ) → IsPlace (after_bytes beginning b).place
right_all b = (lines_all beginning b start_right).right

nothing_next : (v : Version) (e : Expected) (i m k x : ℕ) → e ≡ Nothing → (next_place (at_place v e i m k) x).0.expected ≡ Nothing
nothing_next v e i m k x h = rw h refl

pub nothing_stays : (ss : List LineStep) (p : Place) (t : List ℕ) → p.expected ≡ Nothing → (walk ss p t).1.expected ≡ Nothing
nothing_stays ss p [] h = h
nothing_stays ss p (x ∷ t) h = nothing_stays (cond (x == 10) (ss ++ (next_place p x).1 ∷ []) ss) (next_place p x).0 t
    (nothing_next p.version p.expected p.task p.after p.points x h)

left_all : (l : Progress) (b t : List ℕ) → IsProgress l.place l.line → Left (after_bytes l b).place t → Left l.place (b ++ t)
left_all l [] t right h = h
left_all l (x ∷ b) t right h = back l.place x (b ++ t) right.right (left_all (after_byte l x) b t (lines_next l.place x l.line right) h)

-- certificates begin so exactly where the place is good
pub good_from_begins : (b : List ℕ) → BeginsText cert_format b → (after_bytes beginning b).place.expected ≡ Nothing → ⊥
good_from_begins b h not_so =
    let over = ap (λ (r : List LineStep × Place). r.1.expected) (text_walk h.value h.parses.within) in
    let whole = walk-append [] start b h.more in
    let r = walk [] start b in
    let bad : r.1.expected ≡ Nothing = ap (λ (p : Place). p.expected) (sym (place_of [] beginning b)) ∙ not_so in
    let stays = nothing_stays r.0 r.1 h.more bad in
    let one : (walk [] start (text_of h.value)).1.expected ≡ Nothing =
    ap (λ (t : List ℕ). (walk [] start t).1.expected) (sym h.parses.text) ∙ ap (λ (r : List LineStep × Place). r.1.expected) whole ∙ stays in
    absurd (cc)

pub begins_from_good : (b : List ℕ) → ((after_bytes beginning b).place.expected ≡ Nothing → ⊥) → BeginsText cert_format b
begins_from_good b good =
    let s = some_left (after_bytes beginning b).place (right_all b) good in
    let t = text_of_left (b ++ s.text) (left_all beginning b s.text start_right s.holds) in
    record { value = t.0; more = s.text; parses = t.1 }

-- and they end so exactly where it is over
left_over : (v : Version) (e : Expected) (i m k : ℕ) → e ≡ Over → LeftAt v e i m k []
left_over v e i m k h = rw h refl

pub parses_from_over : (b : List ℕ) → (after_bytes beginning b).place.expected ≡ Over → (c : Cert) × Parses cert_format b c
parses_from_over b over =
    let here : Left (after_bytes beginning b).place [] =
    (let p = (after_bytes beginning b).place in left_over p.version p.expected p.task p.after p.points over) in
    rw append-nil at (text_of_left (b ++ []) (left_all beginning b [] start_right here))

pub over_from_parses : (b : List ℕ) (c : Cert) → Parses cert_format b c → (after_bytes beginning b).place.expected ≡ Over
over_from_parses b c h = ap (λ (p : Place). p.expected) (place_of [] beginning b) ∙
    ap (λ (t : List ℕ). (walk [] start t).1.expected) h.text ∙ ap (λ (r : List LineStep × Place). r.1.expected) (text_walk c h.within)

-- what the lines say
said_front : (ss : List LineStep) (p : Place) (t : List ℕ) → (walk ss p t).0 ≡ ss ++ (walk [] p t).0
said_front ss p [] = sym (append-nil ss)
said_front ss p (x ∷ t) =
    let s = (next_place p x).1 in
    let q = (next_place p x).0 in
    let first = λ (w : Bool) (e : x == 10 ≡ w). ap (λ (w : Bool). (walk (cond w (ss ++ s ∷ []) ss) q t).0) e in
    let again = λ (w : Bool) (e : x == 10 ≡ w). ap (λ (w : Bool). ss ++ (walk (cond w (s ∷ []) []) q t).0) (sym e) in
    elim (cases_Bool (x == 10)) [
      | inl is_ten ↦ first true is_ten ∙ said_front (ss ++ s ∷ []) q t ∙ append_assoc ss (s ∷ []) (walk [] q t).0 ∙
          ap (λ (l : List LineStep). ss ++ l) (sym (said_front (s ∷ []) q t)) ∙ again true is_ten
      | inr not_so ↦ first false not_so ∙ said_front ss q t ∙ again false not_so
    ]

pub newlines_push : (b : List ℕ) (x : ℕ) → newlines (b ++ x ∷ []) ≡ newlines b + cond (x == 10) 1 0
newlines_push b x = sum_by_push (λ y. cond (y == 10) 1 0) b x

pub said_count : (done b : List ℕ) (ss : List LineStep) (p : Place) → length ss ≡ newlines done → length (walk ss p b).0 ≡ newlines (done ++ b)
said_count done [] ss p h = h ∙ ap newlines (sym (append-nil done))
said_count done (x ∷ b) ss p h =
    let s = (next_place p x).1 in
    let q = (next_place p x).0 in
    let first = λ (w : Bool) (e : x == 10 ≡ w). ap (λ (w : Bool). length (walk (cond w (ss ++ s ∷ []) ss) q b).0) e in
    elim (cases_Bool (x == 10)) [
      | inl is_ten ↦ first true is_ten ∙
          said_count (done ++ x ∷ []) b (ss ++ s ∷ []) q
          (omega (arith, length_push ss s, newlines_push done x, ap (λ (w : Bool). cond {A = ℕ} w 1 0) is_ten)) ∙ ap newlines (append_assoc done (x ∷ []) b)
      | inr not_so ↦ first false not_so ∙
          said_count (done ++ x ∷ []) b ss q (omega (arith, newlines_push done x, ap (λ (w : Bool). cond {A = ℕ} w 1 0) not_so)) ∙
          ap newlines (append_assoc done (x ∷ []) b)
    ]

quiet_end : (v : Version) (i m k a x : ℕ) → (ender v (field.Finish a) == 10) ≡ false → (after_end v i m k a x).1 ≡ says.More
quiet_end One i m k a x h = absurd (cc)
quiet_end Two i m k a x h = refl

quiet_number : (v : Version) (f : Field) (i m k n : ℕ) → (ender v f == 10) ≡ false → (after_number v i m k f n).1 ≡ says.More
quiet_number v field.Tasks i m k n h = absurd (cc)
quiet_number v field.Window i m k n h = refl
quiet_number v (field.Bound w) i m k n h = refl
quiet_number v (field.Count w r) i m k n h = absurd (cc)
quiet_number v field.Offset i m k n h = refl
quiet_number v (field.Finish a) i m k n h = quiet_end v i m k a n h
quiet_number v (field.Blocking p) i m k n h = refl
quiet_number v (field.Own p b) i m k n h = refl
quiet_number v (field.Others p b o) i m k n h = refl
quiet_number v (field.Need p b o r) i m k n h = absurd (cc)

quiet_word : (w : Word) (i at x : ℕ) → (x == 10) ≡ false → slice_index (word_text w i) at ≡ x → at + 1 ≡ length (word_text w i) → word_step w ≡ says.More
quiet_word word.Head i at x not_so here last = refl
quiet_word word.Tasks i at x not_so here last = refl
quiet_word word.Task i at x not_so here last = refl
quiet_word word.Point i at x not_so here last = refl
quiet_word word.End i at x not_so here last =
    let three : at ≡ 3 = omega arith in
    let ten : 10 ≡ x = subst (λ (w : ℕ). slice_index (codes "end\n") w ≡ x) three here in
    absurd (grind (arith, nat_tests))

quiet_version : (x : ℕ) → ((version_digit x).0.expected ≡ Nothing → ⊥) → (version_digit x).1 ≡ says.More
quiet_version x = elim (cases_Bool (x == digit_of One)) [
  | inl one ↦ rw one (λ good. refl)
  | inr one ↦ elim (cases_Bool (x == digit_of Two)) [
    | inl two ↦ rw (one, two) (λ good. refl)
    | inr two ↦ rw (one, two) (λ good. absurd (good refl))
  ]
]

quiet_at : (v : Version) (e : Expected) (i m k x : ℕ) → (x == 10) ≡ false →
    ((next_place (at_place v e i m k) x).0.expected ≡ Nothing → ⊥) → (next_place (at_place v e i m k) x).1 ≡ says.More
quiet_at v (Rest w at) i m k x not_so = elim (cases_Bool (slice_index (word_text w i) at == x)) [
  | inl here ↦ elim (cases_Bool (at + 1 == length (word_text w i))) [
    | inl last ↦ rw (here, last) (λ good. quiet_word w i at x not_so (eq_from_test (slice_index (word_text w i) at) x here)
        (eq_from_test (at + 1) (length (word_text w i)) last))
    | inr last ↦ rw (here, last) (λ good. refl)
  ]
  | inr here ↦ rw here (λ good. absurd (good refl))
]
quiet_at v VersionDigit i m k x not_so = quiet_version x
quiet_at v (Number f) i m k x not_so = elim (cases_Bool (is_ascii_digit x && nat_le (least f) (x - 48))) [
  | inl test ↦ rw test (λ good. refl)
  | inr test ↦ rw test (λ good. absurd (good refl))
]
quiet_at v (Digits f n) i m k x not_so = elim (cases_Bool (x == ender v f)) [
  | inl end ↦ rw end (λ good. quiet_number v f i m k n (rw (eq_from_test x (ender v f) end) at not_so))
  | inr end ↦ elim (cases_Bool (is_ascii_digit x && (not (n == 0) && nat_le (n * 10 + (x - 48)) (greatest f)))) [
    | inl test ↦ rw (end, test) (λ good. refl)
    | inr test ↦ rw (end, test) (λ good. absurd (good refl))
  ]
]
quiet_at v Over i m k x not_so = λ good. absurd (good refl)
quiet_at v Nothing i m k x not_so = λ good. absurd (good refl)

pub says_is : (b more : List ℕ) (x : ℕ) (c : Cert) → Parses cert_format (b ++ x ∷ more) c →
    (next_place (after_bytes beginning b).place x).1 ≡ cond (x == 10) (slice_index_or (steps_of c) (newlines b) says.More) says.More
says_is b more x c h =
    let r = walk [] start b in
    let place : (after_bytes beginning b).place ≡ r.1 = place_of [] beginning b in
    let all : walk r.0 r.1 (x ∷ more) ≡ (steps_of c, at_place c.version Over 0 0 0) = sym (walk-append [] start b (x ∷ more)) ∙
    ap (λ (t : List ℕ). walk [] start t) h.text ∙ text_walk c h.within in
    let count : length r.0 ≡ newlines b = said_count [] b [] start refl in
    let s = (next_place r.1 x).1 in
    let q = (next_place r.1 x).0 in
    let good : ((next_place r.1 x).0.expected ≡ Nothing → ⊥) = λ nothing.
    let stays = nothing_stays (cond (x == 10) (r.0 ++ s ∷ []) r.0) q more nothing in
    let over = ap (λ (y : List LineStep × Place). y.1.expected) all in
    absurd (cc) in
    rw place (elim (cases_Bool (x == 10)) [
      | inl is_ten ↦
          let said : (walk (r.0 ++ s ∷ []) q more).0 ≡ steps_of c = ap (λ (y : List LineStep × Place). y.0) (rw is_ten at all) in
          let others = (walk [] q more).0 in
          let front : steps_of c ≡ r.0 ++ s ∷ others = sym said ∙ said_front (r.0 ++ s ∷ []) q more ∙ append_assoc r.0 (s ∷ []) others in
          rw is_ten (sym (ap (λ (l : List LineStep). get_or l (newlines b) says.More) front ∙ get_or_at r.0 s others says.More (newlines b) count))
      | inr not_so ↦ rw not_so (quiet_at r.1.version r.1.expected r.1.task r.1.after r.1.points x not_so good)
    ])

-- Bad is said where the place is no good
pub record Tells (r : Place × LineStep) : Type 0 where
  pub to : r.1 ≡ says.Bad → r.0.expected ≡ Nothing
  pub from : r.0.expected ≡ Nothing → r.1 ≡ says.Bad

tells_good : (p : Place) (s : LineStep) → (s ≡ says.Bad → ⊥) → (p.expected ≡ Nothing → ⊥) → Tells (p, s)
tells_good p s a b = record { to = λ h. absurd (a h); from = λ h. absurd (b h) }

tells_bad : Tells bad
tells_bad = record { to = λ h. refl; from = λ h. refl }

pub point_good : (v : Version) (i m k : ℕ) → (after_point v i m k).expected ≡ Nothing → ⊥
point_good v i zero zero h = cc
point_good v i (suc m) zero h = cc
point_good v i m (suc k) h = cc

tells_end : (v : Version) (i m k a x : ℕ) → Tells (after_end v i m k a x)
tells_end One i m k a x = tells_good _ _ (λ h. cc) (point_good One i m (k - 1))
tells_end Two i m k a x = tells_good _ _ (λ h. cc) (λ h. cc)

tells_number : (v : Version) (f : Field) (i m k n : ℕ) → Tells (after_number v i m k f n)
tells_number v field.Tasks i m k n = tells_good _ _ (λ h. cc) (λ h. cc)
tells_number v field.Window i m k n = tells_good _ _ (λ h. cc) (λ h. cc)
tells_number v (field.Bound w) i m k n = tells_good _ _ (λ h. cc) (λ h. cc)
tells_number v (field.Count w r) i m k n = tells_good _ _ (λ h. cc) (λ h. cc)
tells_number v field.Offset i m k n = tells_good _ _ (λ h. cc) (λ h. cc)
tells_number v (field.Finish a) i m k n = tells_end v i m k a n
tells_number v (field.Blocking p) i m k n = tells_good _ _ (λ h. cc) (λ h. cc)
tells_number v (field.Own p b) i m k n = tells_good _ _ (λ h. cc) (λ h. cc)
tells_number v (field.Others p b o) i m k n = tells_good _ _ (λ h. cc) (λ h. cc)
tells_number v (field.Need p b o r) i m k n = tells_good _ _ (λ h. cc) (point_good v i m (k - 1))

tells_word : (v : Version) (w : Word) (i m k : ℕ) → Tells (at_place v (after_word w) i m k, word_step w)
tells_word v word.Head i m k = tells_good _ _ (λ h. cc) (λ h. cc)
tells_word v word.Tasks i m k = tells_good _ _ (λ h. cc) (λ h. cc)
tells_word v word.Task i m k = tells_good _ _ (λ h. cc) (λ h. cc)
tells_word v word.Point i m k = tells_good _ _ (λ h. cc) (λ h. cc)
tells_word v word.End i m k = tells_good _ _ (λ h. cc) (λ h. cc)

tells_version : (x : ℕ) → Tells (version_digit x)
tells_version x = elim (cases_Bool (x == digit_of One)) [
  | inl one ↦ rw one (tells_good _ _ (λ h. cc) (λ h. cc))
  | inr one ↦ elim (cases_Bool (x == digit_of Two)) [
    | inl two ↦ rw (one, two) (tells_good _ _ (λ h. cc) (λ h. cc))
    | inr two ↦ rw (one, two) tells_bad
  ]
]

tells_at : (v : Version) (e : Expected) (i m k x : ℕ) → Tells (next_place (at_place v e i m k) x)
tells_at v (Rest w at) i m k x = elim (cases_Bool (slice_index (word_text w i) at == x)) [
  | inl here ↦ elim (cases_Bool (at + 1 == length (word_text w i))) [
    | inl last ↦ rw (here, last) (tells_word v w i m k)
    | inr last ↦ rw (here, last) (tells_good _ _ (λ h. cc) (λ h. cc))
  ]
  | inr here ↦ rw here tells_bad
]
tells_at v VersionDigit i m k x = tells_version x
tells_at v (Number f) i m k x = elim (cases_Bool (is_ascii_digit x && nat_le (least f) (x - 48))) [
  | inl test ↦ rw test (tells_good _ _ (λ h. cc) (λ h. cc))
  | inr test ↦ rw test tells_bad
]
tells_at v (Digits f n) i m k x = elim (cases_Bool (x == ender v f)) [
  | inl end ↦ rw end (tells_number v f i m k n)
  | inr end ↦ elim (cases_Bool (is_ascii_digit x && (not (n == 0) && nat_le (n * 10 + (x - 48)) (greatest f)))) [
    | inl test ↦ rw (end, test) (tells_good _ _ (λ h. cc) (λ h. cc))
    | inr test ↦ rw (end, test) tells_bad
  ]
]
tells_at v Over i m k x = tells_bad
tells_at v Nothing i m k x = tells_bad

pub nothing_or_good : (e : Expected) → (e ≡ Nothing) ⊎ (e ≡ Nothing → ⊥)
nothing_or_good (Rest w at) = inr (λ h. cc)
nothing_or_good VersionDigit = inr (λ h. cc)
nothing_or_good (Number f) = inr (λ h. cc)
nothing_or_good (Digits f v) = inr (λ h. cc)
nothing_or_good Over = inr (λ h. cc)
nothing_or_good Nothing = inl refl

pub bad_is : (b : List ℕ) (x : ℕ) → ((next_place (after_bytes beginning b).place x).1 ≡ says.Bad) ↔ (BeginsText cert_format (b ++ x ∷ []) → ⊥)
bad_is b x =
    let p = (after_bytes beginning b).place in
    let tells = tells_at p.version p.expected p.task p.after p.points x in
    let same : (after_bytes beginning (b ++ x ∷ [])).place ≡ (next_place p x).0 = ap (λ (l : Progress). l.place) (after_bytes-append beginning b (x ∷ [])) in (
      λ h begins. good_from_begins (b ++ x ∷ []) begins (ap (λ (q : Place). q.expected) same ∙ tells.to h),
      λ h. elim (nothing_or_good (next_place p x).0.expected) [
        | inl nothing ↦ tells.from nothing
        | inr good ↦ absurd (h (begins_from_good (b ++ x ∷ []) (λ nothing. good (sym (ap (λ (q : Place). q.expected) same) ∙ nothing))))
      ],
    )

-- the line
pub good_test : (e : Expected) → (e ≡ Nothing → ⊥) → is_good_at e ≡ true
good_test (Rest w at) h = refl
good_test VersionDigit h = refl
good_test (Number f) h = refl
good_test (Digits f v) h = refl
good_test Over h = refl
good_test Nothing h = absurd (h refl)

last_or_none : (l : List ℕ) → (l ≡ []) ⊎ ((front : List ℕ) × (y : ℕ) × (l ≡ front ++ y ∷ []))
last_or_none [] = inl refl
last_or_none (x ∷ l) = elim (last_or_none l) [
  | inl e ↦ inr ([], x, ap (λ (t : List ℕ). x ∷ t) e)
  | inr f ↦ inr (x ∷ f.0, f.1, ap (λ (t : List ℕ). x ∷ t) f.2)
]

refused_good : (b : List ℕ) (x n : ℕ) → BeginsText cert_format (b ++ x ∷ []) → IsRefusedLine cert_format b n →
    IsRefusedLine cert_format (b ++ x ∷ []) (cond (x == 10 && true) (n + 1) n)
refused_good b x n begins h =
    let long = h.longest b [] (sym (append-nil b)) (begins_front cert_format b (x ∷ []) begins) in
    let empty : h.rest ≡ [] = nil_from_length h.rest (omega (arith, ap length h.whole, length-append h.front h.rest)) in
    let same : b ≡ h.front = h.whole ∙ ap (λ (t : List ℕ). h.front ++ t) empty ∙ append-nil h.front in
    let count : n ≡ 1 + newlines b = h.line ∙ ap (λ (t : List ℕ). 1 + newlines t) (sym same) in
    record {
      front = b ++ x ∷ [];
      rest = [];
      whole = sym (append-nil (b ++ x ∷ []));
      begins = begins;
      longest = λ longer more e _. omega (arith, ap length e, length-append longer more);
      line = elim (cases_Bool (x == 10)) [
        | inl is_ten ↦ rw is_ten (omega (arith, newlines_push b x, ap (λ (w : Bool). cond {A = ℕ} w 1 0) is_ten))
        | inr not_so ↦ rw not_so (omega (arith, newlines_push b x, ap (λ (w : Bool). cond {A = ℕ} w 1 0) not_so))
      ];
    }

refused_bad : (b : List ℕ) (x n : ℕ) → (BeginsText cert_format (b ++ x ∷ []) → ⊥) → IsRefusedLine cert_format b n → IsRefusedLine cert_format (b ++ x ∷ []) n
refused_bad b x n bad h = record {
  front = h.front;
  rest = h.rest ++ x ∷ [];
  whole = ap (λ (t : List ℕ). t ++ x ∷ []) h.whole ∙ append_assoc h.front h.rest (x ∷ []);
  begins = h.begins;
  longest = λ longer more e begins. elim (last_or_none more) [
    | inl none ↦ absurd (bad (subst (BeginsText cert_format) (sym (e ∙ ap (λ (t : List ℕ). longer ++ t) none ∙ append-nil longer)) begins))
    | inr f ↦ h.longest longer f.0
        ((same_from_push b (longer ++ f.0) x f.1 (e ∙ ap (λ (t : List ℕ). longer ++ t) f.2 ∙ sym (append_assoc longer f.0 (f.1 ∷ [])))).0) begins
  ];
  line = h.line;
}

and_false : (x : Bool) → (x && false) ≡ false
and_false true = refl
and_false false = refl

refused_next : (b : List ℕ) (x : ℕ) → IsRefusedLine cert_format b (after_bytes beginning b).line →
    IsRefusedLine cert_format (b ++ x ∷ []) (after_bytes beginning (b ++ x ∷ [])).line
refused_next b x h =
    let l = after_bytes beginning b in
    let q = (next_place l.place x).0 in
    let same : (after_bytes beginning (b ++ x ∷ [])).line ≡ cond (x == 10 && is_good_at q.expected) (l.line + 1) l.line =
    ap (λ (v : Progress). v.line) (after_bytes-append beginning b (x ∷ [])) in
    let place : (after_bytes beginning (b ++ x ∷ [])).place.expected ≡ q.expected =
    ap (λ (v : Progress). v.place.expected) (after_bytes-append beginning b (x ∷ [])) in
    elim (nothing_or_good q.expected) [
      | inl nothing ↦ subst (IsRefusedLine cert_format (b ++ x ∷ [])) (sym (same ∙ rw (nothing, and_false (x == 10)) refl))
          (refused_bad b x l.line (λ begins. good_from_begins (b ++ x ∷ []) begins (place ∙ nothing)) h)
      | inr good ↦ subst (IsRefusedLine cert_format (b ++ x ∷ []))
          (sym (same ∙ ap (λ (g : Bool). cond (x == 10 && g) (l.line + 1) l.line) (good_test q.expected good)))
          (refused_good b x l.line (begins_from_good (b ++ x ∷ []) (λ nothing. good (sym place ∙ nothing))) h)
    ]

refused_from : (done b : List ℕ) → IsRefusedLine cert_format done (after_bytes beginning done).line →
    IsRefusedLine cert_format (done ++ b) (after_bytes beginning (done ++ b)).line
refused_from done [] h = subst (λ (t : List ℕ). IsRefusedLine cert_format t (after_bytes beginning t).line) (sym (append-nil done)) h
refused_from done (x ∷ b) h = subst (λ (t : List ℕ). IsRefusedLine cert_format t (after_bytes beginning t).line)
    (append_assoc done (x ∷ []) b) (refused_from (done ++ x ∷ []) b (refused_next done x h))

pub line_is : (b : List ℕ) → IsRefusedLine cert_format b (after_bytes beginning b).line
line_is b = refused_from [] b (record {
  front = [];
  rest = [];
  whole = refl;
  begins = begins_from_good [] (λ h. cc);
  longest =
      λ longer more e _. omega (arith, ap length e, length-append longer more);
  line = refl;
})

-- the same, of a value that stands for the bytes
pub bad_stands : (l : Progress) (b : List ℕ) (x : ℕ) → StandsFor l b → ((next_place l.place x).1 ≡ says.Bad) ↔ (BeginsText cert_format (b ++ x ∷ []) → ⊥)
bad_stands l b x h = subst (λ (v : Progress). ((next_place v.place x).1 ≡ says.Bad) ↔ (BeginsText cert_format (b ++ x ∷ []) → ⊥)) (sym h.is) (bad_is b x)

pub says_stands : (l : Progress) (b more : List ℕ) (x : ℕ) (c : Cert) → StandsFor l b → Parses cert_format (b ++ x ∷ more) c →
    (next_place l.place x).1 ≡ cond (x == 10) (slice_index_or (steps_of c) (newlines b) says.More) says.More
says_stands l b more x c h parses = ap (λ (v : Progress). (next_place v.place x).1) h.is ∙ says_is b more x c parses

pub over_test : (e : Expected) → is_over_at e ≡ true → e ≡ Over
over_test (Rest w at) h = absurd (cc)
over_test VersionDigit h = absurd (cc)
over_test (Number f) h = absurd (cc)
over_test (Digits f v) h = absurd (cc)
over_test Over h = refl
over_test Nothing h = absurd (cc)

pub over_stands : (l : Progress) (b : List ℕ) → StandsFor l b → (is_over_at l.place.expected ≡ true) ↔ ((c : Cert) × Parses cert_format b c)
over_stands l b h = (
  λ over. parses_from_over b (ap (λ (v : Progress). v.place.expected) (sym h.is) ∙ over_test l.place.expected over),
  λ parses. ap is_over_at (ap (λ (v : Progress). v.place.expected) h.is ∙ over_from_parses b parses.0 parses.1),
)

pub line_stands : (l : Progress) (b : List ℕ) → StandsFor l b → IsRefusedLine cert_format b l.line
line_stands l b h = subst (IsRefusedLine cert_format b) (ap (λ (v : Progress). v.line) (sym h.is)) (line_is b)

-- the version of the certificate whose text was read
pub version_is : (b : List ℕ) (c : Cert) → Parses cert_format b c → (after_bytes beginning b).place.version ≡ c.version
version_is b c h = ap (λ (p : Place). p.version) (place_of [] beginning b) ∙
    ap (λ (t : List ℕ). (walk [] start t).1.version) h.text ∙ ap (λ (r : List LineStep × Place). r.1.version) (text_walk c h.within)

pub version_stands : (l : Progress) (b : List ℕ) (c : Cert) → StandsFor l b → Parses cert_format b c → l.place.version ≡ c.version
version_stands l b c h parses = ap (λ (v : Progress). v.place.version) h.is ∙ version_is b c parses
