-- Reading the text of a certificate leads over it, and says its lines.
use Rattle.std.proofs.Common.{◌≡◌, ℕ, suc, zero, ◌+◌, ◌-◌, ◌*◌, ◌/◌, ◌%◌, ◌^◌, ◌<◌, ◌≤◌, ◌==◌, true, false, cond, nat_le, Option, Some, None, List}
use Rattle.std.proofs.Common.{[], ◌∷◌, ◌++◌, length, get_or, drop, map, slice_index, codes, refl, sym, ap, ◌∙◌, arith, append_assoc, decimal, All}
use Rattle.std.proofs.Common.{add-zero, length-drop, get_or-drop}
use Rattle.std.specs.List.{flat_map}
use Rattle.std.proofs.lemmas.List.{append-nil, drop-drop}
use Rattle.std.proofs.lemmas.List.Elements.{All-head, All-tail}
use Rattle.std.proofs.lemmas.Fmt.{decimal_by_steps_wide}
use Rattle.std.proofs.lemmas.Bool.Decides.{nat_tests}
use Rattle.lists.specs.Limits.{most_tasks}
use Rattle.poet_io.proofs.DecimalFacts.{IsOneLine, one_line_append, decimal_one_line, digit_test, digit_is_no_newline}
use Rattle.certificate.proofs.FieldFacts.{least_one, greatest_small, ender_small}
use Rattle.certificate.specs.Text.{PointLine, point_line, lines_of, point_text, points_text, entry_line, entries_text, head_of, text_of, IsPoint}
use Rattle.certificate.specs.Text.{IsTerms, IsEntry, HasTermsOf, IsWithinGrammar}
use Rattle.certificate.specs.Steps.{point_step, points_steps, entries_steps, steps_of}
use Rattle.certificate.specs.declared.cert.Version.{Version}
use Rattle.certificate.specs.declared.cert.Version.TheVariants.{One, Two}
use Rattle.certificate.specs.declared.cert.Terms.{Terms}
use Rattle.certificate.proofs.PointFacts.{lines_count, each_line}
use Rattle.certificate.specs.FirstLines.{HasTerms, IsLineOf}
use Rattle.certificate.specs.declared.cert.Entry.{Entry}
use Rattle.certificate.specs.declared.cert.Point.{Point}
use Rattle.certificate.specs.declared.cert.Cert.{Cert}
use Rattle.certificate.specs.Machine.{word_text, least, greatest, ender, at_place, after_entry, after_point, after_number, next_place, start, walk}
use Rattle.certificate.specs.declared.place.Word.TheVariants as word
use Rattle.certificate.specs.declared.place.Field.{Field}
use Rattle.certificate.specs.declared.place.Field.TheVariants as field
use Rattle.certificate.specs.declared.place.Expected.TheVariants.{Rest, Number, Digits, Over}
use Rattle.certificate.specs.declared.place.Place.{Place}
use Rattle.certificate.specs.declared.step.LineStep.{LineStep}
use Rattle.certificate.specs.declared.step.LineStep.TheVariants as says

pub walk-append : (ss : List LineStep) (p : Place) (xs ys : List ℕ) → walk ss p (xs ++ ys) ≡ walk (walk ss p xs).0 (walk ss p xs).1 ys
walk-append ss p [] ys = refl
walk-append ss p (x ∷ xs) ys = walk-append (cond (x == 10) (ss ++ (next_place p x).1 ∷ []) ss) (next_place p x).0 xs ys

head_read : (ss : List LineStep) (v : Version) (t : List ℕ) →
    walk ss start (head_of v ++ (codes "tasks " ++ t)) ≡ walk (ss ++ says.More ∷ []) (at_place v (Number field.Tasks) 0 0 0) t
head_read ss One t = refl
head_read ss Two t = refl

end_read : (ss : List LineStep) (v : Version) → walk ss (at_place v (Rest word.End 0) 0 0 0) (codes "end\n") ≡ (ss ++ says.End ∷ [], at_place v Over 0 0 0)
end_read ss v = refl

point_read : (ss : List LineStep) (v : Version) (i m k : ℕ) (t : List ℕ) →
    walk ss (at_place v (Rest word.Point 0) i m k) (codes "p " ++ t) ≡ walk ss (at_place v (Number field.Offset) i m k) t
point_read ss v i m k t = refl

step_to : (ss : List LineStep) (p q : Place) (s : LineStep) (x : ℕ) (t : List ℕ) → (x == 10) ≡ false → next_place p x ≡ (q, s) → walk ss p (x ∷ t) ≡ walk ss q t
step_to ss p q s x t e h = rw (e, h) refl

-- the rest of the word before a task's numbers
task_rest : (ss : List LineStep) (v : Version) (i m k at : ℕ) (c : ℕ) (rest t : List ℕ) → drop at (word_text word.Task i) ≡ c ∷ rest → IsOneLine (c ∷ rest)
    → walk ss (at_place v (Rest word.Task at) i m k) ((c ∷ rest) ++ t) ≡ walk ss (at_place v (Number field.Window) i m k) t
task_rest ss v i m k at c [] t e one =
    let here : slice_index (word_text word.Task i) at ≡ c = sym (rw add-zero at (get_or-drop at (word_text word.Task i) 0 0)) ∙
    ap (λ (l : List ℕ). get_or l 0 0) e in
    let last : length (word_text word.Task i) ≡ at + 1 = omega (arith, length-drop at (word_text word.Task i), ap length e) in
    let a : (slice_index (word_text word.Task i) at == c) ≡ true = grind (arith, nat_tests) in
    let b : (at + 1 == length (word_text word.Task i)) ≡ true = grind (arith, nat_tests) in
    step_to ss (at_place v (Rest word.Task at) i m k) (at_place v (Number field.Window) i m k) says.More c t one.0 (rw (a, b) refl)
task_rest ss v i m k at c (d ∷ rest) t e one =
    let here : slice_index (word_text word.Task i) at ≡ c = sym (rw add-zero at (get_or-drop at (word_text word.Task i) 0 0)) ∙
    ap (λ (l : List ℕ). get_or l 0 0) e in
    let last : at + 1 < length (word_text word.Task i) = omega (arith, length-drop at (word_text word.Task i), ap length e) in
    let a : (slice_index (word_text word.Task i) at == c) ≡ true = grind (arith, nat_tests) in
    let b : (at + 1 == length (word_text word.Task i)) ≡ false = grind (arith, nat_tests) in
    let more : drop (at + 1) (word_text word.Task i) ≡ d ∷ rest = sym (drop-drop 1 at (word_text word.Task i)) ∙ ap (λ (l : List ℕ). drop 1 l) e in
    step_to ss (at_place v (Rest word.Task at) i m k) (at_place v (Rest word.Task (at + 1)) i m k) says.More c ((d ∷ rest) ++ t) one.0 (rw (a, b) refl)
    ∙ task_rest ss v i m k (at + 1) d rest t more one.1

task_read : (ss : List LineStep) (v : Version) (i m k : ℕ) (t : List ℕ) → i < 2 ^ 64
    → walk ss (at_place v (Rest word.Task 0) i m k) (codes "task " ++ (decimal i ++ (codes " " ++ t))) ≡ walk ss (at_place v (Number field.Window) i m k) t
task_read ss v i m k t h =
    let one : IsOneLine (decimal i ++ codes " ") = one_line_append (decimal i) (codes " ") (decimal_one_line i h) (refl, tt) in
    let r = task_rest ss v i m k 0 116 (97 ∷ 115 ∷ 107 ∷ 32 ∷ (decimal i ++ codes " ")) t refl (refl, (refl, (refl, (refl, (refl, one))))) in
    ap (λ (l : List ℕ). walk ss (at_place v (Rest word.Task 0) i m k) (116 ∷ 97 ∷ 115 ∷ 107 ∷ 32 ∷ l)) (sym (append_assoc (decimal i) (codes " ") t)) ∙ r

first_read : (f : Field) (ss : List LineStep) (v : Version) (i m k n : ℕ) (t : List ℕ) → n < 10 → least f ≤ n
    → walk ss (at_place v (Number f) i m k) ((48 + n) ∷ t) ≡ walk ss (at_place v (Digits f n) i m k) t
first_read f ss v i m k n t small low =
    let w : 48 + n - 48 ≡ n = omega arith in
    let b : nat_le (least f) n ≡ true = grind (arith, nat_tests) in
    step_to ss (at_place v (Number f) i m k) (at_place v (Digits f n) i m k) says.More (48 + n) t (digit_is_no_newline n small)
    (rw (w, digit_test n small, b) refl)

more_read : (f : Field) (ss : List LineStep) (v : Version) (i m k n d : ℕ) (t : List ℕ) → d < 10 → 0 < n → n * 10 + d ≤ greatest f
    → walk ss (at_place v (Digits f n) i m k) ((48 + d) ∷ t) ≡ walk ss (at_place v (Digits f (n * 10 + d)) i m k) t
more_read f ss v i m k n d t small pos fits =
    let w : 48 + d - 48 ≡ d = omega arith in
    let low = ender_small v f in
    let a : (48 + d == ender v f) ≡ false = grind (arith, nat_tests) in
    let b : (n == 0) ≡ false = grind (arith, nat_tests) in
    let e : nat_le (n * 10 + d) (greatest f) ≡ true = grind (arith, nat_tests) in
    step_to ss (at_place v (Digits f n) i m k) (at_place v (Digits f (n * 10 + d)) i m k) says.More (48 + d) t
    (digit_is_no_newline d small) (rw (w, a, digit_test d small, b, e) refl)

pub number_read : (f : Field) (v : Version) (i m k n : ℕ) → n < 10 ^ 64 → least f ≤ n → n ≤ greatest f → (ss : List LineStep) (t : List ℕ)
    → walk ss (at_place v (Number f) i m k) (decimal n ++ t) ≡ walk ss (at_place v (Digits f n) i m k) t
number_read f v i m k n fits = decimal_by_steps_wide
    (λ n ds. least f ≤ n → n ≤ greatest f → (ss : List LineStep) (t : List ℕ) →
    walk ss (at_place v (Number f) i m k) (ds ++ t) ≡ walk ss (at_place v (Digits f n) i m k) t)
    (λ n small low high ss t. first_read f ss v i m k n t small low)
    (λ n ds big before low high ss t.
    let one = least_one f in
    let whole : n / 10 * 10 + n % 10 ≡ n = omega arith in
    rw append_assoc (before (omega arith) (omega arith) ss ((48 + n % 10) ∷ t)
    ∙ more_read f ss v i m k (n / 10) (n % 10) t (omega arith) (omega arith) (omega arith)
    ∙ ap (λ (w : ℕ). walk ss (at_place v (Digits f w) i m k) t) whole))
    n fits

-- a number and the byte behind it
field_read : (f : Field) (v : Version) (i m k n : ℕ) → least f ≤ n → n ≤ greatest f → (ss : List LineStep) (t : List ℕ)
    → walk ss (at_place v (Number f) i m k) (decimal n ++ (ender v f ∷ t)) ≡ walk
    (cond (ender v f == 10) (ss ++ (after_number v i m k f n).1 ∷ []) ss) (after_number v i m k f n).0 t
field_read f v i m k n low high ss t =
    let e : (ender v f == ender v f) ≡ true = grind (arith, nat_tests) in
    let one : next_place (at_place v (Digits f n) i m k) (ender v f) ≡ after_number v i m k f n = rw e refl in
    let top = greatest_small f in
    number_read f v i m k n (omega arith) low high ss (ender v f ∷ t) ∙ rw one refl

-- the terms of a point
terms_read : (p : Point) (t : Terms) (ss : List LineStep) (i m k : ℕ) (rest : List ℕ) → IsTerms t
    → walk ss (at_place Two (Number (field.Blocking p)) i m (suc k))
    (decimal t.blocking ++ (32 ∷ (decimal t.own ++ (32 ∷ (decimal t.others ++ (32 ∷ (decimal t.need ++ (10 ∷ rest))))))))
    ≡ walk (ss ++ says.Point p.offset p.end (Some t) ∷ []) (after_point Two i m k) rest
terms_read p t ss i m k rest h =
    let less : suc k - 1 ≡ k = omega arith in
    let others = decimal t.others ++ (32 ∷ (decimal t.need ++ (10 ∷ rest))) in
    field_read (field.Blocking p) Two i m (suc k) t.blocking (omega arith) h.blocking ss (decimal t.own ++ (32 ∷ others))
    ∙ field_read (field.Own p t.blocking) Two i m (suc k) t.own (omega arith) h.own ss others
    ∙ field_read (field.Others p t.blocking t.own) Two i m (suc k) t.others (omega arith) h.others ss (decimal t.need ++ (10 ∷ rest))
    ∙ field_read (field.Need p t.blocking t.own t.others) Two i m (suc k) t.need (omega arith) h.need ss rest
    ∙ ap (λ (w : ℕ). walk (ss ++ says.Point p.offset p.end (Some t) ∷ []) (after_point Two i m w) rest) less

point_by : (v : Version) (p : Point) (terms : Option Terms) (ss : List LineStep) (i m k : ℕ) (t : List ℕ) → IsPoint p → HasTerms v terms
    → walk ss (after_point v i m (suc k)) (point_text (point_line p terms) ++ t) ≡ walk (ss ++ says.Point p.offset p.end terms ∷ []) (after_point v i m k) t
point_by One p None ss i m k t h terms =
    let less : suc k - 1 ≡ k = omega arith in
    let same : point_text (point_line p None) ++ t ≡ codes "p " ++ (decimal p.offset ++ (32 ∷ (decimal p.end ++ (10 ∷ t)))) = simp append_assoc in
    ap (walk ss (after_point One i m (suc k))) same
    ∙ point_read ss One i m (suc k) (decimal p.offset ++ (32 ∷ (decimal p.end ++ (10 ∷ t))))
    ∙ field_read field.Offset One i m (suc k) p.offset (omega arith) h.offset ss (decimal p.end ++ (10 ∷ t))
    ∙ field_read (field.Finish p.offset) One i m (suc k) p.end (omega arith) h.end ss t
    ∙ ap (λ (w : ℕ). walk (ss ++ says.Point p.offset p.end None ∷ []) (after_point One i m w) t) less
point_by One p (Some terms) ss i m k t h has = absurd has
point_by Two p None ss i m k t h has = absurd has
point_by Two p (Some terms) ss i m k t h has =
    let all = decimal terms.blocking ++ (32 ∷ (decimal terms.own ++ (32 ∷ (decimal terms.others ++ (32 ∷ (decimal terms.need ++ (10 ∷ t))))))) in
    let same : point_text (point_line p (Some terms)) ++ t ≡ codes "p " ++ (decimal p.offset ++ (32 ∷ (decimal p.end ++ (32 ∷ all)))) = simp append_assoc in
    ap (walk ss (after_point Two i m (suc k))) same
    ∙ point_read ss Two i m (suc k) (decimal p.offset ++ (32 ∷ (decimal p.end ++ (32 ∷ all))))
    ∙ field_read field.Offset Two i m (suc k) p.offset (omega arith) h.offset ss (decimal p.end ++ (32 ∷ all))
    ∙ field_read (field.Finish p.offset) Two i m (suc k) p.end (omega arith) h.end ss all
    ∙ terms_read p terms ss i m k t has

-- a point's line
pub one_point : (v : Version) (l : PointLine) (ss : List LineStep) (i m k : ℕ) (t : List ℕ) → IsLineOf v l
    → walk ss (after_point v i m (suc k)) (point_text l ++ t) ≡ walk (ss ++ point_step l ∷ []) (after_point v i m k) t
one_point v l ss i m k t h = point_by v l.point l.terms ss i m k t h.point h.terms

all_points : (v : Version) (ls : List PointLine) (ss : List LineStep) (i m : ℕ) (t : List ℕ) → All (IsLineOf v) ls
    → walk ss (after_point v i m (length ls)) (flat_map point_text ls ++ t) ≡ walk (ss ++ map point_step ls) (after_entry v i m) t
all_points v [] ss i m t h = ap (λ (l : List LineStep). walk l (after_entry v i m) t) (sym (append-nil ss))
all_points v (l ∷ ls) ss i m t h =
    ap (walk ss (after_point v i m (suc (length ls)))) (append_assoc (point_text l) (flat_map point_text ls) t)
    ∙ one_point v l ss i m (length ls) (flat_map point_text ls ++ t) (All-head (IsLineOf v) l ls h)
    ∙ all_points v ls (ss ++ point_step l ∷ []) i m t (All-tail (IsLineOf v) l ls h)
    ∙ ap (λ (l : List LineStep). walk l (after_entry v i m) t) (append_assoc ss (point_step l ∷ []) (map point_step ls))

points_place : (v : Version) (i m k n : ℕ) → 1 ≤ k → n ≡ k → at_place v (Rest word.Point 0) i m k ≡ after_point v i m n
points_place v i m zero n h e = absurd (omega arith)
points_place v i m (suc k) n h e = ap (after_point v i m) (sym e)

-- an entry's lines
one_entry : (v : Version) (e : Entry) (ss : List LineStep) (i m : ℕ) (t : List ℕ) → i < most_tasks → IsEntry e → HasTermsOf v e
    → walk ss (at_place v (Rest word.Task 0) i m 0) (entry_line i e ++ (points_text e ++ t)) ≡ walk
    (ss ++ (says.Entry i e.window e.bound (length e.points) ∷ points_steps e)) (after_entry v i m) t
one_entry v e ss i m t small h has =
    let n = length e.points in
    let ls = lines_of e.points e.terms in
    let rest = points_text e ++ t in
    let same : entry_line i e ++ rest ≡ codes "task " ++
    (decimal i ++ (codes " " ++ (decimal e.window ++ (32 ∷ (decimal e.bound ++ (32 ∷ (decimal n ++ (10 ∷ rest)))))))) = simp append_assoc in
    let said = says.Entry i e.window e.bound n in
    ap (walk ss (at_place v (Rest word.Task 0) i m 0)) same
    ∙ task_read ss v i m 0 (decimal e.window ++ (32 ∷ (decimal e.bound ++ (32 ∷ (decimal n ++ (10 ∷ rest)))))) (omega arith)
    ∙ field_read field.Window v i m 0 e.window (omega arith) h.window ss (decimal e.bound ++ (32 ∷ (decimal n ++ (10 ∷ rest))))
    ∙ field_read (field.Bound e.window) v i m 0 e.bound (omega arith) h.bound ss (decimal n ++ (10 ∷ rest))
    ∙ field_read (field.Count e.window e.bound) v i m 0 n h.some h.few ss rest
    ∙ ap (λ (p : Place). walk (ss ++ said ∷ []) p rest) (points_place v i m n (length ls) h.some (lines_count e.points e.terms))
    ∙ all_points v ls (ss ++ said ∷ []) i m t (each_line v e.points e.terms has.count h.points has.each)
    ∙ ap (λ (l : List LineStep). walk l (after_entry v i m) t) (append_assoc ss (said ∷ []) (map point_step ls))

all_entries : (v : Version) (es : List Entry) (ss : List LineStep) (i : ℕ) → i + length es < most_tasks → All IsEntry es → All (HasTermsOf v) es
    → walk ss (after_entry v i (length es)) (entries_text (suc i) es ++ codes "end\n") ≡
    (ss ++ (entries_steps (suc i) es ++ says.End ∷ []), at_place v Over 0 0 0)
all_entries v [] ss i small h has = end_read ss v
all_entries v (e ∷ es) ss i small h has =
    let others = entries_text (suc (suc i)) es ++ codes "end\n" in
    let said = says.Entry (suc i) e.window e.bound (length e.points) ∷ points_steps e in
    let same : entries_text (suc i) (e ∷ es) ++ codes "end\n" ≡ entry_line (suc i) e ++ (points_text e ++ others) = simp append_assoc in
    ap (walk ss (at_place v (Rest word.Task 0) (suc i) (length es) 0)) same
    ∙ one_entry v e ss (suc i) (length es) others (omega arith) (All-head IsEntry e es h) (All-head (HasTermsOf v) e es has)
    ∙ all_entries v es (ss ++ said) (suc i) (omega arith) (All-tail IsEntry e es h) (All-tail (HasTermsOf v) e es has)
    ∙ ap (λ (l : List LineStep). (l, at_place v Over 0 0 0)) (simp append_assoc)

entries_walk : (v : Version) (es : List Entry) → 1 ≤ length es → length es ≤ most_tasks → All IsEntry es → All (HasTermsOf v) es
    → walk [] start (text_of (record { version = v; entries = es })) ≡ (steps_of (record { version = v; entries = es }), at_place v Over 0 0 0)
entries_walk v [] some few h has = absurd (omega arith)
entries_walk v (e ∷ es) some few h has =
    let n = suc (length es) in
    let whole = entries_text 0 (e ∷ es) ++ codes "end\n" in
    let others = entries_text 1 es ++ codes "end\n" in
    let less : n - 1 ≡ length es = omega arith in
    let front = says.More ∷ says.Tasks n ∷ [] in
    let same : whole ≡ entry_line 0 e ++ (points_text e ++ others) = simp append_assoc in
    let said = says.Entry 0 e.window e.bound (length e.points) ∷ points_steps e in
    head_read [] v (decimal n ++ (codes "\n" ++ whole))
    ∙ field_read field.Tasks v 0 0 0 n some few (says.More ∷ []) whole
    ∙ ap (λ (w : ℕ). walk front (at_place v (Rest word.Task 0) 0 w 0) whole) less
    ∙ ap (walk front (at_place v (Rest word.Task 0) 0 (length es) 0)) same
    ∙ one_entry v e front 0 (length es) others (omega arith) (All-head IsEntry e es h) (All-head (HasTermsOf v) e es has)
    ∙ all_entries v es (front ++ said) 0 (omega arith) (All-tail IsEntry e es h) (All-tail (HasTermsOf v) e es has)
    ∙ ap (λ (l : List LineStep). (l, at_place v Over 0 0 0)) (simp append_assoc)

-- a certificate's text leads to its end, and says its lines
pub text_walk : (c : Cert) → IsWithinGrammar c → walk [] start (text_of c) ≡ (steps_of c, at_place c.version Over 0 0 0)
text_walk c h = entries_walk c.version c.entries h.some h.few h.entries h.terms
