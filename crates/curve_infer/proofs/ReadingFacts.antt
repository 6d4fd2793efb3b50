-- Any bytes have one reading.
use Rattle.std.proofs.Common.{◌≡◌, ℕ, ◌+◌, ◌<◌, ◌≤◌, ◌⊎◌, ◌==◌, true, List, [], ◌∷◌, ◌++◌, length, take, drop, refl, sym, ap, subst, ◌∙◌, arith}
use Rattle.std.proofs.Common.{Option, Some, None, Result, Ok, Err, inl, inr, append_assoc, append-nil, length-append}
use Rattle.std.specs.Option.{option_map_or}
use Rattle.std.proofs.lemmas.Bool.{cases_Bool, cases_lt, eqb-true}
use Rattle.std.proofs.lemmas.List.{take-append-drop, length-take-le}
use Rattle.std.proofs.Math.Seq.{take-append_seam}
use Rattle.lists.proofs.SearchFacts.{last_up_to}
use Rattle.poet_io.specs.declared.text_refusal.TextRefusal.{TextRefusal}
use Rattle.poet_io.specs.declared.text_refusal.TextRefusal.TheVariants.{Line, Memory}
use Rattle.poet_io.specs.Texts.{Parses, BeginsText, newlines, IsReading, HaveOneReading}
use Rattle.poet_io.proofs.TextFacts.{one_reading}
use Rattle.run_text.proofs.WordFacts.{Lacks, lacks_append, lacks_front, split_at, not_inside, front_of}
use Rattle.run_text.proofs.FrontFacts.{fronts, newlines-none, newlines-line}
use Rattle.curve_infer.specs.declared.stage.Stage.{Stage}
use Rattle.curve_infer.specs.declared.stage.Stage.TheVariants.{Head, Count, Times, Over}
use Rattle.curve_infer.specs.Text.{trace_format}
use Rattle.curve_infer.specs.Parsing.{Part, nothing_read, after_line, read_on, trace_of_text, is_whole}
use Rattle.curve_infer.proofs.LineFacts.{NextLine, next_line_or_not, IsSmall, rest_text, Rest, goes, leads, completes}

over_or_not : (s : Stage) → (s ≡ Over) ⊎ (s ≡ Over → ⊥)
over_or_not Head = inr (λ e. cc)
over_or_not Count = inr (λ e. cc)
over_or_not (Times left last) = inr (λ e. cc)
over_or_not Over = inl refl

text_over : (s : Stage) (times : List ℕ) → s ≡ Over → rest_text s times ≡ []
text_over s times e = ap (λ (s : Stage). rest_text s times) e

not_empty : (line t : List ℕ) → [] ≡ line ++ 10 ∷ t → ⊥
not_empty [] t e = cc
not_empty (x ∷ line) t e = cc

-- what follows a line that stands at the front
record Behind (p : Part) (line t times : List ℕ) : Type 0 where
  next : Part
  goes : after_line p line ≡ Some next
  small : IsSmall next.stage
  more : List ℕ
  rest : Rest next.stage more
  text : rest_text next.stage more ≡ t
  same : next.times ++ more ≡ p.times ++ times

behind : (p : Part) (line t times : List ℕ) → Lacks 10 line → Rest p.stage times → rest_text p.stage times ≡ line ++ 10 ∷ t → Behind p line t times
behind p line t times one r e = elim (over_or_not p.stage) [
  | inl over ↦ absurd (not_empty line t (sym (text_over p.stage times over) ∙ e))
  | inr some ↦
      (let g = goes p.stage p.times times some r in
      let parts = split_at 10 g.line line (rest_text g.next.stage g.more) t g.one one (sym g.text ∙ e) in
      let step : after_line p line ≡ Some g.next = ap (after_line p) (sym parts.0) ∙ g.goes in
      record {
        next = g.next;
        goes = step;
        small = (leads p.stage p.times line g.next step).small;
        more = g.more;
        rest = g.rest;
        text = parts.1;
        same = g.same;
      })
]

-- the whole of what follows is left at the end of the bytes
complete_end : (p : Part) (n : ℕ) (acc times : List ℕ) → Lacks 10 acc → Rest p.stage times → rest_text p.stage times ≡ acc →
    read_on p n acc [] ≡ Ok (p.times ++ times)
complete_end p n acc times one r e = elim (over_or_not p.stage) [
  | inl over ↦
      (let none : times ≡ [] = subst (λ (s : Stage). Rest s times) over r in
      let line : acc ≡ [] = sym e ∙ text_over p.stage times over in
      let same : p.times ≡ p.times ++ times = sym (append-nil p.times) ∙ ap (λ (l : List ℕ). p.times ++ l) (sym none) in
      let step : read_on p n acc [] ≡ Ok p.times = rw (over, line) refl in
      step ∙ ap (λ (l : List ℕ). Ok l) same)
  | inr some ↦
      (let g = goes p.stage p.times times some r in
      absurd (not_inside 10 acc g.line (rest_text g.next.stage g.more) one (sym e ∙ g.text)))
]

-- what follows is read
pub complete : (bytes : List ℕ) (p : Part) (n : ℕ) (acc times : List ℕ) → Lacks 10 acc → Rest p.stage times →
    rest_text p.stage times ≡ acc ++ bytes → read_on p n acc bytes ≡ Ok (p.times ++ times)
complete [] p n acc times one r e = complete_end p n acc times one r (e ∙ append-nil acc)
complete (x ∷ bytes) p n acc times one r e = elim (cases_Bool (x == 10)) [
  | inl h ↦
      (let newline : x ≡ 10 = eqb-true x 10 h in
      let b = behind p acc bytes times one r (e ∙ ap (λ (y : ℕ). acc ++ y ∷ bytes) newline) in
      let step : after_line p acc ≡ Some b.next = b.goes in
      rw (h, step) (complete bytes b.next (n + 1) [] b.more tt b.rest b.text ∙ ap (λ (l : List ℕ). Ok l) b.same))
  | inr h ↦ rw h (complete bytes p n (acc ++ x ∷ []) times (lacks_append 10 acc (x ∷ []) one (h, tt)) r (e ∙ sym (append_assoc acc (x ∷ []) bytes)))
]

-- what may follow begins with these bytes
pub record Begun (p : Part) (w : List ℕ) : Type 0 where
  pub times : List ℕ
  pub more : List ℕ
  pub rest : Rest p.stage times
  pub text : rest_text p.stage times ≡ w ++ more

begun_from_next : (p : Part) (w : List ℕ) → NextLine p w → Begun p w
begun_from_next p w n =
    let l = leads p.stage p.times (w ++ n.more) n.next n.goes in
    let c = completes n.next.stage l.small in
    let b = l.back c.times c.rest in
    record {
      times = b.times;
      more = n.more ++ 10 ∷ rest_text n.next.stage c.times;
      rest = b.rest;
      text = b.text ∙ append_assoc w n.more (10 ∷ rest_text n.next.stage c.times);
    }

next_from_begun : (p : Part) (w : List ℕ) → (p.stage ≡ Over → ⊥) → Lacks 10 w → Begun p w → NextLine p w
next_from_begun p w some one b =
    let g = goes p.stage p.times b.times some b.rest in
    let f = front_of 10 g.line (rest_text g.next.stage g.more) w b.more one (sym g.text ∙ b.text) in
    record { more = f.0; next = g.next; goes = ap (after_line p) (sym f.1) ∙ g.goes }

-- the empty front begins something
begun_empty : (p : Part) → IsSmall p.stage → Begun p []
begun_empty p small =
    let c = completes p.stage small in
    record { times = c.times; more = rest_text p.stage c.times; rest = c.rest; text = refl }

not_begun_over : (p : Part) (x : ℕ) (w : List ℕ) → p.stage ≡ Over → Begun p (x ∷ w) → ⊥
not_begun_over p x w over b = let e : [] ≡ x ∷ (w ++ b.more) = sym (text_over p.stage b.times over) ∙ b.text in cc

begun_at_over : (p : Part) (w : List ℕ) → IsSmall p.stage → p.stage ≡ Over → Begun p w ⊎ (Begun p w → ⊥)
begun_at_over p [] small over = inl (begun_empty p small)
begun_at_over p (x ∷ w) small over = inr (not_begun_over p x w over)

-- whether something that may follow begins so
begun_or_not : (p : Part) (w : List ℕ) → IsSmall p.stage → Lacks 10 w → Begun p w ⊎ (Begun p w → ⊥)
begun_or_not p w small one = elim (over_or_not p.stage) [
  | inl over ↦ begun_at_over p w small over
  | inr some ↦ elim (next_line_or_not p.stage p.times w) [
    | inl n ↦ inl (begun_from_next p w n)
    | inr none ↦ inr (λ b. none (next_from_begun p w some one b))
  ]
]

-- the bytes are refused at line m, where n is the number of the next line
pub record Refusal (p : Part) (n : ℕ) (bytes : List ℕ) (m : ℕ) : Type 0 where
  pub front : List ℕ
  pub rest : List ℕ
  pub whole : bytes ≡ front ++ rest
  pub begins : Begun p front
  pub longest : (longer more : List ℕ) → bytes ≡ longer ++ more → Begun p longer → length longer ≤ length front
  pub line : m ≡ n + newlines front

lacks_some : (k : ℕ) (w : List ℕ) → Lacks 10 w → Lacks 10 (take k w)
lacks_some k w h = lacks_front 10 (take k w) (drop k w) (subst (Lacks 10) (sym (take-append-drop k w)) h)

within_line : (p : Part) (acc : List ℕ) (k : ℕ) (longer u : List ℕ) →
    ((m : ℕ) → k < m → m ≤ length acc → Begun p (take m acc) → ⊥) → acc ≡ longer ++ u → Begun p longer → length longer ≤ k
within_line p acc k longer u last e b = elim (cases_lt k (length longer)) [
  | inl less ↦
      (let sum : length acc ≡ length longer + length u = ap length e ∙ length-append longer u in
      let front : longer ≡ take (length longer) acc = sym (ap (take (length longer)) e ∙ take-append_seam longer u) in
      absurd (last (length longer) less (omega arith) (subst (Begun p) front b)))
  | inr le ↦ le
]

beyond_line : (p : Part) (acc t : List ℕ) (k : ℕ) (longer more u : List ℕ) → ((m : ℕ) → k < m → m ≤ length acc → Begun p (take m acc) → ⊥)
    → ((u : List ℕ) (y : ℕ) (more : List ℕ) → t ≡ (y ∷ u) ++ more → Begun p (acc ++ y ∷ u) → ⊥) → longer ≡ acc ++ u →
    t ≡ u ++ more → Begun p longer → length longer ≤ k
beyond_line p acc t k longer more [] last stuck e f b = within_line p acc k longer [] last (sym (append-nil acc) ∙ sym e ∙ sym (append-nil longer)) b
beyond_line p acc t k longer more (y ∷ u) last stuck e f b = absurd (stuck u y more f (subst (Begun p) e b))

-- no line is read any more behind acc
refuse_here : (p : Part) (n : ℕ) (acc t : List ℕ) → IsSmall p.stage → Lacks 10 acc →
    ((u : List ℕ) (y : ℕ) (more : List ℕ) → t ≡ (y ∷ u) ++ more → Begun p (acc ++ y ∷ u) → ⊥) → Refusal p n (acc ++ t) n
refuse_here p n acc t small one stuck =
    let Front : ℕ → Type 0 = λ k. Begun p (take k acc) in
    let last = last_up_to Front (λ k. Begun p (take k acc) → ⊥) (λ k. begun_or_not p (take k acc) small (lacks_some k acc one))
    (begun_empty p small) (length acc) in
    let k = last.0 in
    let size : length (take k acc) ≡ k = length-take-le k acc last.1 in
    record {
      front = take k acc;
      rest = drop k acc ++ t;
      whole = ap (λ (l : List ℕ). l ++ t) (sym (take-append-drop k acc)) ∙ append_assoc (take k acc) (drop k acc) t;
      begins = last.2;
      longest = λ longer more e b. elim (fronts acc t longer more e) [
        | inl f ↦ omega (arith, size, within_line p acc k longer f.0 last.3 f.1 b)
        | inr f ↦ omega (arith, size, beyond_line p acc t k longer more f.0 last.3 stuck f.1 f.2 b)
      ];
      line = omega (arith, newlines-none (take k acc) (lacks_some k acc one));
    }

-- a line that may come, before what is read behind it
found_before : (p q : Part) (acc t : List ℕ) → after_line p acc ≡ Some q → Begun q t → Begun p (acc ++ 10 ∷ t)
found_before p q acc t e b =
    let l = leads p.stage p.times acc q e in
    let c = l.back b.times b.rest in
    record { times = c.times; more = b.more; rest = c.rest; text = c.text ∙ ap (λ (l : List ℕ). acc ++ 10 ∷ l) b.text ∙ sym (append_assoc acc (10 ∷ t) b.more) }

found_behind : (p q : Part) (acc t : List ℕ) → Lacks 10 acc → after_line p acc ≡ Some q → Begun p (acc ++ 10 ∷ t) → Begun q t
found_behind p q acc t one e b =
    let h = behind p acc (t ++ b.more) b.times one b.rest (b.text ∙ append_assoc acc (10 ∷ t) b.more) in
    let same : h.next ≡ q = let some : Some h.next ≡ Some q = sym h.goes ∙ e in cc in
    let found : Begun h.next t = record { times = h.more; more = b.more; rest = h.rest; text = h.text } in
    subst (λ (q : Part). Begun q t) same found

refuse_before : (p q : Part) (n : ℕ) (acc t : List ℕ) (m : ℕ) → Lacks 10 acc → after_line p acc ≡ Some q → Refusal q (n + 1) t m → Refusal p n (acc ++ 10 ∷ t) m
refuse_before p q n acc t m one e r = record {
  front = acc ++ 10 ∷ r.front;
  rest = r.rest;
  whole = ap (λ (l : List ℕ). acc ++ 10 ∷ l) r.whole ∙ sym (append_assoc acc (10 ∷ r.front) r.rest);
  begins = found_before p q acc r.front e r.begins;
  longest = λ longer more is b. elim (fronts (acc ++ 10 ∷ []) t longer more (append_assoc acc (10 ∷ []) t ∙ is)) [
    | inl f ↦ omega (arith, ap length f.1, length-append longer f.0, length-append acc (10 ∷ []), length-append acc (10 ∷ r.front))
    | inr f ↦
        (let parts : longer ≡ acc ++ 10 ∷ f.0 = f.1 ∙ append_assoc acc (10 ∷ []) f.0 in
        omega (
          arith,
          ap length parts,
          length-append acc (10 ∷ f.0),
          length-append acc (10 ∷ r.front),
          r.longest f.0 more f.2 (found_behind p q acc f.0 one e (subst (Begun p) parts b)),
        ))
  ];
  line = omega (arith, r.line, newlines-line acc r.front one);
}

-- the trace that was found
pub record Found (p : Part) (bytes times : List ℕ) : Type 0 where
  pub more : List ℕ
  pub rest : Rest p.stage more
  pub text : bytes ≡ rest_text p.stage more
  pub is : times ≡ p.times ++ more

-- the reading of the bytes from p on
abbrev pub Answers : Part → ℕ → List ℕ → Result (List ℕ) TextRefusal → Type 0
Answers p n bytes (Ok times) = Found p bytes times
Answers p n bytes (Err (Line m)) = Refusal p n bytes m
Answers p n bytes (Err Memory) = ⊥

answers_before : (p q : Part) (n : ℕ) (acc t : List ℕ) (r : Result (List ℕ) TextRefusal) → Lacks 10 acc →
    after_line p acc ≡ Some q → Answers q (n + 1) t r → Answers p n (acc ++ 10 ∷ t) r
answers_before p q n acc t (Ok times) one e f =
    let l = leads p.stage p.times acc q e in
    let c = l.back f.more f.rest in
    record {
      more = c.times;
      rest = c.rest;
      text = ap (λ (l : List ℕ). acc ++ 10 ∷ l) f.text ∙ sym c.text;
      is = f.is ∙ c.same;
    }
answers_before p q n acc t (Err (Line m)) one e r = refuse_before p q n acc t m one e r
answers_before p q n acc t (Err Memory) one e r = r

whole_over : (s : Stage) (line : List ℕ) → is_whole s line ≡ true → (s ≡ Over) × (line ≡ [])
whole_over Head line e = absurd (cc)
whole_over Count line e = absurd (cc)
whole_over (Times left last) line e = absurd (cc)
whole_over Over [] e = (refl, refl)
whole_over Over (x ∷ line) e = absurd (cc)

found_over : (p : Part) (acc : List ℕ) → p.stage ≡ Over → acc ≡ [] → Found p (acc ++ []) p.times
found_over p acc over none = record {
  more = [];
  rest = subst (λ (s : Stage). Rest s []) (sym over) refl;
  text = append-nil acc ∙ none ∙ sym (text_over p.stage [] over);
  is = sym (append-nil p.times);
}

-- the line at acc may not come
stuck_line : (p : Part) (acc bytes : List ℕ) → Lacks 10 acc → after_line p acc ≡ None → (u : List ℕ) (y : ℕ) (more : List ℕ) →
    10 ∷ bytes ≡ (y ∷ u) ++ more → Begun p (acc ++ y ∷ u) → ⊥
stuck_line p acc bytes one none u y more e b =
    let newline : y ≡ 10 = let turned : 10 ≡ y = cc in sym turned in
    let text = b.text ∙ append_assoc acc (y ∷ u) b.more ∙ ap (λ (z : ℕ). acc ++ z ∷ (u ++ b.more)) newline in
    let h = behind p acc (u ++ b.more) b.times one b.rest text in
    let some : after_line p acc ≡ Some h.next = h.goes in
    absurd (cc)

at_newline : (bytes : List ℕ) (p : Part) (n : ℕ) (acc : List ℕ) (o : Option Part) → IsSmall p.stage → Lacks 10 acc →
    after_line p acc ≡ o → ((q : Part) → IsSmall q.stage → Answers q (n + 1) bytes (read_on q (n + 1) [] bytes))
    → Answers p n (acc ++ 10 ∷ bytes) (option_map_or (λ q. read_on q (n + 1) [] bytes) o (Err (Line n)))
at_newline bytes p n acc None small one e next = refuse_here p n acc (10 ∷ bytes) small one (stuck_line p acc bytes one e)
at_newline bytes p n acc (Some q) small one e next = answers_before p q n acc bytes (read_on q (n + 1) [] bytes) one e
    (next q (leads p.stage p.times acc q e).small)

pub answers : (bytes : List ℕ) (p : Part) (n : ℕ) (acc : List ℕ) → IsSmall p.stage → Lacks 10 acc → Answers p n (acc ++ bytes) (read_on p n acc bytes)
answers [] p n acc small one = elim (cases_Bool (is_whole p.stage acc)) [
  | inl h ↦ (let w = whole_over p.stage acc h in rw h (found_over p acc w.0 w.1))
  | inr h ↦ rw h (refuse_here p n acc [] small one (λ u y more e b. absurd (cc)))
]
answers (x ∷ bytes) p n acc small one = elim (cases_Bool (x == 10)) [
  | inl h ↦ (let newline : 10 ≡ x = sym (eqb-true x 10 h) in
      rw h (subst (λ (y : ℕ). Answers p n (acc ++ y ∷ bytes)
      (option_map_or (λ q. read_on q (n + 1) [] bytes) (after_line p acc) (Err (Line n)))) newline
      (at_newline bytes p n acc (after_line p acc) small one refl (λ q is. answers bytes q (n + 1) [] is tt))))
  | inr h ↦ rw h (subst (λ (l : List ℕ). Answers p n l (read_on p n (acc ++ x ∷ []) bytes)) (append_assoc acc (x ∷ []) bytes)
      (answers bytes p n (acc ++ x ∷ []) small (lacks_append 10 acc (x ∷ []) one (h, tt))))
]

-- a trace's text is read as this trace
pub trace_of_text-parses : (b times : List ℕ) → Parses trace_format b times → trace_of_text b ≡ Ok times
unfolding trace_of_text
trace_of_text-parses b times h = complete b nothing_read 1 [] times tt h.within (sym h.text)

begun_from_begins : (b : List ℕ) → BeginsText trace_format b → Begun nothing_read b
begun_from_begins b t = record { times = t.value; more = t.more; rest = t.parses.within; text = sym t.parses.text }

begins_from_begun : (b : List ℕ) → Begun nothing_read b → BeginsText trace_format b
begins_from_begun b t = record { value = t.times; more = t.more; parses = record { within = t.rest; text = sym t.text } }

reading_from_answers : (b : List ℕ) (r : Result (List ℕ) TextRefusal) →
    ((times : List ℕ) → Parses trace_format b times → r ≡ Ok times) → Answers nothing_read 1 b r → IsReading trace_format b r
reading_from_answers b (Ok times) all f =
    let found : Parses trace_format b f.more = record { within = f.rest; text = f.text } in
    subst (Parses trace_format b) (sym f.is) found
reading_from_answers b (Err (Line n)) all r = record {
  none = λ times h. absurd (let e = all times h in cc);
  line = record {
    front = r.front;
    rest = r.rest;
    whole = r.whole;
    begins = begins_from_begun r.front r.begins;
    longest = λ longer more e t. r.longest longer more e (begun_from_begins longer t);
    line = r.line;
  };
}
reading_from_answers b (Err Memory) all r = absurd r

pub reading_exists : (b : List ℕ) → IsReading trace_format b (trace_of_text b)
unfolding trace_of_text
reading_exists b = reading_from_answers b (trace_of_text b) (trace_of_text-parses b) (answers b nothing_read 1 [] tt tt)

-- no bytes are the text of two traces
one_parse : (b times other : List ℕ) → Parses trace_format b times → Parses trace_format b other → times ≡ other
one_parse b times other h k = let same : Ok times ≡ Ok other = sym (trace_of_text-parses b times h) ∙ trace_of_text-parses b other k in cc

pub one_reading_each : HaveOneReading trace_format trace_of_text
one_reading_each = record { exists = reading_exists; single = one_reading trace_format one_parse }
