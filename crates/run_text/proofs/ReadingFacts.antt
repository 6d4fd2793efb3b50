-- Any bytes have one reading.
use Rattle.std.proofs.Common.{◌≡◌, ℕ, ◌+◌, ◌<◌, ◌≤◌, ◌⊎◌, ◌==◌, true, List, [], ◌∷◌, ◌++◌, length, take, drop, refl, sym, ap, subst, ◌∙◌, arith}
use Rattle.std.proofs.Common.{Option, Some, None, Result, Ok, Err, inl, inr, append_assoc, append-nil, length-append, zero-add}
use Rattle.std.specs.List.{All}
use Rattle.std.specs.Option.{option_map_or}
use Rattle.std.proofs.lemmas.Bool.{cases_Bool, cases_lt, eqb-true}
use Rattle.std.proofs.lemmas.List.{take-append-drop, length-take-le}
use Rattle.std.proofs.Math.Seq.{take-append_seam}
use Rattle.lists.proofs.SearchFacts.{last_up_to}
use Rattle.poet_io.specs.declared.text_refusal.TextRefusal.{TextRefusal}
use Rattle.poet_io.specs.declared.text_refusal.TextRefusal.TheVariants.{Line, Memory}
use Rattle.poet_io.specs.Texts.{Parses, BeginsText, newlines, IsReading, HaveOneReading}
use Rattle.poet_io.proofs.TextFacts.{one_reading}
use Rattle.task_sheet.specs.declared.tasks.Job.{Job}
use Rattle.run_model.specs.declared.run.Run.{Run}
use Rattle.run_model.specs.declared.run.Tick.{Tick}
use Rattle.run_text.specs.declared.version.Version.{Version}
use Rattle.run_text.specs.declared.version.Version.TheVariants.{Second}
use Rattle.run_text.specs.declared.stage.Stage.{Stage}
use Rattle.run_text.specs.declared.stage.Stage.TheVariants.{Head, Counts, Jobs, Ticks, Over}
use Rattle.run_text.specs.Text.{text_of, IsJob, IsWithinLimits, IsTickOf, Tells, run_format}
use Rattle.run_text.specs.Parts.{Part, nothing_read, after_line, IsSmall}
use Rattle.run_text.specs.Parsing.{read_on, run_of_text, is_whole}
use Rattle.run_text.proofs.WordFacts.{Lacks, lacks_append, lacks_front, split_at, not_inside, front_of}
use Rattle.run_text.proofs.LineFacts.{IsJobIn}
use Rattle.run_text.proofs.RestFacts.{rest_text, Rest, LimitsRest, NoRest, goes, leads, completes}
use Rattle.run_text.proofs.BeginFacts.{NextLine, next_line_or_not}
use Rattle.run_text.proofs.FrontFacts.{fronts, newlines-none, newlines-line}

over_or_not : (s : Stage) → (s ≡ Over) ⊎ (s ≡ Over → ⊥)
over_or_not Head = inr (λ e. cc)
over_or_not (Counts v) = inr (λ e. cc)
over_or_not (Jobs v after room t) = inr (λ e. cc)
over_or_not (Ticks before left) = inr (λ e. cc)
over_or_not Over = inl refl

text_over : (s : Stage) (version : Version) (jobs : List Job) (ticks : List Tick) → s ≡ Over → rest_text s version jobs ticks ≡ []
text_over s version jobs ticks e = ap (λ (s : Stage). rest_text s version jobs ticks) e

not_empty : (line t : List ℕ) → [] ≡ line ++ 10 ∷ t → ⊥
not_empty [] t e = cc
not_empty (x ∷ line) t e = cc

-- what follows a line that stands at the front
record Behind (p : Part) (line t : List ℕ) (version : Version) (jobs : List Job) (ticks : List Tick) : Type 0 where
  next : Part
  goes : after_line p line ≡ Some next
  small : IsSmall next
  more_jobs : List Job
  more_ticks : List Tick
  rest : Rest next.stage (length next.jobs) version more_jobs more_ticks
  text : rest_text next.stage version more_jobs more_ticks ≡ t
  same_jobs : next.jobs ++ more_jobs ≡ p.jobs ++ jobs
  same_ticks : next.ticks ++ more_ticks ≡ p.ticks ++ ticks

behind : (p : Part) (line t : List ℕ) (version : Version) (jobs : List Job) (ticks : List Tick) → IsSmall p → Lacks 10 line →
    Rest p.stage (length p.jobs) version jobs ticks
    → rest_text p.stage version jobs ticks ≡ line ++ 10 ∷ t → Behind p line t version jobs ticks
behind p line t version jobs ticks small one r e = elim (over_or_not p.stage) [
  | inl over ↦ absurd (not_empty line t (sym (text_over p.stage version jobs ticks over) ∙ e))
  | inr some ↦
      (let g = goes p.stage p.jobs p.ticks version jobs ticks small some r in
      let parts = split_at 10 g.line line (rest_text g.next.stage version g.more_jobs g.more_ticks) t g.one one (sym g.text ∙ e) in
      let step : after_line p line ≡ Some g.next = ap (after_line p) (sym parts.0) ∙ g.goes in
      record {
        next = g.next;
        goes = step;
        small = (leads p.stage p.jobs p.ticks line g.next small step).small;
        more_jobs = g.more_jobs;
        more_ticks = g.more_ticks;
        rest = g.rest;
        text = parts.1;
        same_jobs = g.same_jobs;
        same_ticks = g.same_ticks;
      })
]

abbrev pub whole_run : Part → List Job → List Tick → Run
whole_run p jobs ticks = record { jobs = p.jobs ++ jobs; ticks = p.ticks ++ ticks }

-- the whole of what follows is left at the end of the bytes
complete_end : (p : Part) (n : ℕ) (acc : List ℕ) (version : Version) (jobs : List Job) (ticks : List Tick) → IsSmall p →
    Lacks 10 acc → Rest p.stage (length p.jobs) version jobs ticks
    → rest_text p.stage version jobs ticks ≡ acc → read_on p n acc [] ≡ Ok (whole_run p jobs ticks)
complete_end p n acc version jobs ticks small one r e = elim (over_or_not p.stage) [
  | inl over ↦
      (let none : NoRest jobs ticks = subst (λ (s : Stage). Rest s (length p.jobs) version jobs ticks) over r in
      let line : acc ≡ [] = sym e ∙ text_over p.stage version jobs ticks over in
      let same_jobs : p.jobs ≡ p.jobs ++ jobs = sym (append-nil p.jobs) ∙ ap (λ (l : List Job). p.jobs ++ l) (sym none.no_jobs) in
      let same_ticks : p.ticks ≡ p.ticks ++ ticks = sym (append-nil p.ticks) ∙ ap (λ (l : List Tick). p.ticks ++ l) (sym none.no_ticks) in
      let step : read_on p n acc [] ≡ Ok (record { jobs = p.jobs; ticks = p.ticks }) = rw (over, line) refl in
      step ∙ ap (λ (js : List Job). Ok (record { jobs = js; ticks = p.ticks })) same_jobs ∙
      ap (λ (xs : List Tick). Ok (record { jobs = p.jobs ++ jobs; ticks = xs })) same_ticks)
  | inr some ↦
      (let g = goes p.stage p.jobs p.ticks version jobs ticks small some r in
      absurd (not_inside 10 acc g.line (rest_text g.next.stage version g.more_jobs g.more_ticks) one (sym e ∙ g.text)))
]

-- what follows is read
pub complete : (bytes : List ℕ) (p : Part) (n : ℕ) (acc : List ℕ) (version : Version) (jobs : List Job) (ticks : List Tick) →
    IsSmall p → Lacks 10 acc → Rest p.stage (length p.jobs) version jobs ticks
    → rest_text p.stage version jobs ticks ≡ acc ++ bytes → read_on p n acc bytes ≡ Ok (whole_run p jobs ticks)
complete [] p n acc version jobs ticks small one r e = complete_end p n acc version jobs ticks small one r (e ∙ append-nil acc)
complete (x ∷ bytes) p n acc version jobs ticks small one r e = elim (cases_Bool (x == 10)) [
  | inl h ↦
      (let newline : x ≡ 10 = eqb-true x 10 h in
      let b = behind p acc bytes version jobs ticks small one r (e ∙ ap (λ (y : ℕ). acc ++ y ∷ bytes) newline) in
      let step : after_line p acc ≡ Some b.next = b.goes in
      rw (h, step) (complete bytes b.next (n + 1) [] version b.more_jobs b.more_ticks b.small tt b.rest b.text
      ∙ ap (λ (js : List Job). Ok (record { jobs = js; ticks = b.next.ticks ++ b.more_ticks })) b.same_jobs
      ∙ ap (λ (xs : List Tick). Ok (record { jobs = p.jobs ++ jobs; ticks = xs })) b.same_ticks))
  | inr h ↦ rw h (complete bytes p n (acc ++ x ∷ []) version jobs ticks small (lacks_append 10 acc (x ∷ []) one (h, tt)) r
      (e ∙ sym (append_assoc acc (x ∷ []) bytes)))
]

-- what may follow begins with these bytes
pub record Begun (p : Part) (w : List ℕ) : Type 0 where
  pub version : Version
  pub jobs : List Job
  pub ticks : List Tick
  pub more : List ℕ
  pub rest : Rest p.stage (length p.jobs) version jobs ticks
  pub text : rest_text p.stage version jobs ticks ≡ w ++ more

begun_from_next : (p : Part) (w : List ℕ) → IsSmall p → NextLine p w → Begun p w
begun_from_next p w small n =
    let l = leads p.stage p.jobs p.ticks (w ++ n.more) n.next small n.goes in
    let c = completes n.next.stage (length n.next.jobs) in
    let b = l.back c.version c.jobs c.ticks c.rest in
    record {
      version = b.version;
      jobs = b.jobs;
      ticks = b.ticks;
      more = n.more ++ 10 ∷ rest_text n.next.stage c.version c.jobs c.ticks;
      rest = b.rest;
      text = b.text ∙ append_assoc w n.more (10 ∷ rest_text n.next.stage c.version c.jobs c.ticks);
    }

next_from_begun : (p : Part) (w : List ℕ) → IsSmall p → (p.stage ≡ Over → ⊥) → Lacks 10 w → Begun p w → NextLine p w
next_from_begun p w small some one b =
    let g = goes p.stage p.jobs p.ticks b.version b.jobs b.ticks small some b.rest in
    let f = front_of 10 g.line (rest_text g.next.stage b.version g.more_jobs g.more_ticks) w b.more one (sym g.text ∙ b.text) in
    record { more = f.0; next = g.next; goes = ap (after_line p) (sym f.1) ∙ g.goes }

-- the empty front begins something
begun_empty : (p : Part) → Begun p []
begun_empty p =
    let c = completes p.stage (length p.jobs) in
    record { version = c.version; jobs = c.jobs; ticks = c.ticks; more = rest_text p.stage c.version c.jobs c.ticks; rest = c.rest; text = refl }

not_begun_over : (p : Part) (x : ℕ) (w : List ℕ) → p.stage ≡ Over → Begun p (x ∷ w) → ⊥
not_begun_over p x w over b = let e : [] ≡ x ∷ (w ++ b.more) = sym (text_over p.stage b.version b.jobs b.ticks over) ∙ b.text in cc

begun_at_over : (p : Part) (w : List ℕ) → p.stage ≡ Over → Begun p w ⊎ (Begun p w → ⊥)
begun_at_over p [] over = inl (begun_empty p)
begun_at_over p (x ∷ w) over = inr (not_begun_over p x w over)

-- whether something that may follow begins so
begun_or_not : (p : Part) (w : List ℕ) → IsSmall p → Lacks 10 w → Begun p w ⊎ (Begun p w → ⊥)
begun_or_not p w small one = elim (over_or_not p.stage) [
  | inl over ↦ begun_at_over p w over
  | inr some ↦ elim (next_line_or_not p.stage p.jobs p.ticks w small) [
    | inl n ↦ inl (begun_from_next p w small n)
    | inr none ↦ inr (λ b. none (next_from_begun p w small some one b))
  ]
]

-- the bytes are refused at line m, where n is the number of the next line
pub record Refusal (p : Part) (n : ℕ) (bytes : List ℕ) (m : ℕ) : Type 0 where
  pub front : List ℕ
  pub rest : List ℕ
  pub whole : bytes ≡ front ++ rest
  pub begins : Begun p front
  pub longest : (longer more : List ℕ) → bytes ≡ longer ++ more → Begun p longer → length longer ≤ length front
  pub line : m ≡ n + newlines front

lacks_some : (k : ℕ) (w : List ℕ) → Lacks 10 w → Lacks 10 (take k w)
lacks_some k w h = lacks_front 10 (take k w) (drop k w) (subst (Lacks 10) (sym (take-append-drop k w)) h)

within_line : (p : Part) (acc : List ℕ) (k : ℕ) (longer u : List ℕ) →
    ((m : ℕ) → k < m → m ≤ length acc → Begun p (take m acc) → ⊥) → acc ≡ longer ++ u → Begun p longer → length longer ≤ k
within_line p acc k longer u last e b = elim (cases_lt k (length longer)) [
  | inl less ↦
      (let sum : length acc ≡ length longer + length u = ap length e ∙ length-append longer u in
      let front : longer ≡ take (length longer) acc = sym (ap (take (length longer)) e ∙ take-append_seam longer u) in
      absurd (last (length longer) less (omega arith) (subst (Begun p) front b)))
  | inr le ↦ le
]

beyond_line : (p : Part) (acc t : List ℕ) (k : ℕ) (longer more u : List ℕ) → ((m : ℕ) → k < m → m ≤ length acc → Begun p (take m acc) → ⊥)
    → ((u : List ℕ) (y : ℕ) (more : List ℕ) → t ≡ (y ∷ u) ++ more → Begun p (acc ++ y ∷ u) → ⊥) → longer ≡ acc ++ u →
    t ≡ u ++ more → Begun p longer → length longer ≤ k
beyond_line p acc t k longer more [] last stuck e f b = within_line p acc k longer [] last (sym (append-nil acc) ∙ sym e ∙ sym (append-nil longer)) b
beyond_line p acc t k longer more (y ∷ u) last stuck e f b = absurd (stuck u y more f (subst (Begun p) e b))

-- no line is read any more behind acc
refuse_here : (p : Part) (n : ℕ) (acc t : List ℕ) → IsSmall p → Lacks 10 acc →
    ((u : List ℕ) (y : ℕ) (more : List ℕ) → t ≡ (y ∷ u) ++ more → Begun p (acc ++ y ∷ u) → ⊥) → Refusal p n (acc ++ t) n
refuse_here p n acc t small one stuck =
    let Front : ℕ → Type 0 = λ k. Begun p (take k acc) in
    let last = last_up_to Front (λ k. Begun p (take k acc) → ⊥) (λ k. begun_or_not p (take k acc) small (lacks_some k acc one)) (begun_empty p) (length acc) in
    let k = last.0 in
    let size : length (take k acc) ≡ k = length-take-le k acc last.1 in
    record {
      front = take k acc;
      rest = drop k acc ++ t;
      whole = ap (λ (l : List ℕ). l ++ t) (sym (take-append-drop k acc)) ∙ append_assoc (take k acc) (drop k acc) t;
      begins = last.2;
      longest = λ longer more e b. elim (fronts acc t longer more e) [
        | inl f ↦ omega (arith, size, within_line p acc k longer f.0 last.3 f.1 b)
        | inr f ↦ omega (arith, size, beyond_line p acc t k longer more f.0 last.3 stuck f.1 f.2 b)
      ];
      line = omega (arith, newlines-none (take k acc) (lacks_some k acc one));
    }

-- a line that may come, before what is read behind it
found_before : (p q : Part) (acc t : List ℕ) → IsSmall p → after_line p acc ≡ Some q → Begun q t → Begun p (acc ++ 10 ∷ t)
found_before p q acc t small e b =
    let l = leads p.stage p.jobs p.ticks acc q small e in
    let c = l.back b.version b.jobs b.ticks b.rest in
    record {
      version = c.version;
      jobs = c.jobs;
      ticks = c.ticks;
      more = b.more;
      rest = c.rest;
      text = c.text ∙
          ap (λ (l : List ℕ). acc ++ 10 ∷ l) b.text ∙ sym (append_assoc acc (10 ∷ t) b.more);
    }

found_behind : (p q : Part) (acc t : List ℕ) → IsSmall p → Lacks 10 acc → after_line p acc ≡ Some q → Begun p (acc ++ 10 ∷ t) → Begun q t
found_behind p q acc t small one e b =
    let h = behind p acc (t ++ b.more) b.version b.jobs b.ticks small one b.rest (b.text ∙ append_assoc acc (10 ∷ t) b.more) in
    let same : h.next ≡ q = let some : Some h.next ≡ Some q = sym h.goes ∙ e in cc in
    let found : Begun h.next t = record { version = b.version; jobs = h.more_jobs; ticks = h.more_ticks; more = b.more; rest = h.rest; text = h.text } in
    subst (λ (q : Part). Begun q t) same found

refuse_before : (p q : Part) (n : ℕ) (acc t : List ℕ) (m : ℕ) → IsSmall p → Lacks 10 acc → after_line p acc ≡ Some q →
    Refusal q (n + 1) t m → Refusal p n (acc ++ 10 ∷ t) m
refuse_before p q n acc t m small one e r = record {
  front = acc ++ 10 ∷ r.front;
  rest = r.rest;
  whole = ap (λ (l : List ℕ). acc ++ 10 ∷ l) r.whole ∙ sym (append_assoc acc (10 ∷ r.front) r.rest);
  begins = found_before p q acc r.front small e r.begins;
  longest = λ longer more is b. elim (fronts (acc ++ 10 ∷ []) t longer more (append_assoc acc (10 ∷ []) t ∙ is)) [
    | inl f ↦ omega (arith, ap length f.1, length-append longer f.0, length-append acc (10 ∷ []), length-append acc (10 ∷ r.front))
    | inr f ↦
        (let parts : longer ≡ acc ++ 10 ∷ f.0 = f.1 ∙ append_assoc acc (10 ∷ []) f.0 in
        omega (
          arith,
          ap length parts,
          length-append acc (10 ∷ f.0),
          length-append acc (10 ∷ r.front),
          r.longest f.0 more f.2 (found_behind p q acc f.0 small one e (subst (Begun p) parts b)),
        ))
  ];
  line = omega (arith, r.line, newlines-line acc r.front one);
}

-- the run that was found
pub record Found (p : Part) (bytes : List ℕ) (run : Run) : Type 0 where
  pub version : Version
  pub jobs : List Job
  pub ticks : List Tick
  pub rest : Rest p.stage (length p.jobs) version jobs ticks
  pub text : bytes ≡ rest_text p.stage version jobs ticks
  pub is : run ≡ whole_run p jobs ticks

-- the reading of the bytes from p on
abbrev pub Answers : Part → ℕ → List ℕ → Result Run TextRefusal → Type 0
Answers p n bytes (Ok run) = Found p bytes run
Answers p n bytes (Err (Line m)) = Refusal p n bytes m
Answers p n bytes (Err Memory) = ⊥

answers_before : (p q : Part) (n : ℕ) (acc t : List ℕ) (r : Result Run TextRefusal) → IsSmall p → Lacks 10 acc →
    after_line p acc ≡ Some q → Answers q (n + 1) t r → Answers p n (acc ++ 10 ∷ t) r
answers_before p q n acc t (Ok run) small one e f =
    let l = leads p.stage p.jobs p.ticks acc q small e in
    let c = l.back f.version f.jobs f.ticks f.rest in
    record {
      version = c.version;
      jobs = c.jobs;
      ticks = c.ticks;
      rest = c.rest;
      text = ap (λ (l : List ℕ). acc ++ 10 ∷ l) f.text ∙ sym c.text;
      is = f.is ∙ ap (λ (js : List Job). record { jobs = js; ticks = q.ticks ++ f.ticks }) (sym c.same_jobs) ∙
          ap (λ (xs : List Tick). record { jobs = p.jobs ++ c.jobs; ticks = xs }) (sym c.same_ticks);
    }
answers_before p q n acc t (Err (Line m)) small one e r = refuse_before p q n acc t m small one e r
answers_before p q n acc t (Err Memory) small one e r = r

whole_over : (s : Stage) (line : List ℕ) → is_whole s line ≡ true → (s ≡ Over) × (line ≡ [])
whole_over Head line e = absurd (cc)
whole_over (Counts v) line e = absurd (cc)
whole_over (Jobs v after room t) line e = absurd (cc)
whole_over (Ticks before left) line e = absurd (cc)
whole_over Over [] e = (refl, refl)
whole_over Over (x ∷ line) e = absurd (cc)

found_over : (p : Part) (acc : List ℕ) → p.stage ≡ Over → acc ≡ [] → Found p (acc ++ []) (record { jobs = p.jobs; ticks = p.ticks })
found_over p acc over none =
    let nothing : NoRest [] [] = record { no_jobs = refl; no_ticks = refl } in
    record {
      version = Second;
      jobs = [];
      ticks = [];
      rest = subst (λ (s : Stage). Rest s (length p.jobs) Second [] []) (sym over) nothing;
      text = append-nil acc ∙ none ∙ sym (text_over p.stage Second [] [] over);
      is = ap (λ (js : List Job). record { jobs = js; ticks = p.ticks }) (sym (append-nil p.jobs)) ∙
          ap (λ (xs : List Tick). record { jobs = p.jobs ++ []; ticks = xs }) (sym (append-nil p.ticks));
    }

-- the line at acc may not come
stuck_line : (p : Part) (acc bytes : List ℕ) → IsSmall p → Lacks 10 acc → after_line p acc ≡ None →
    (u : List ℕ) (y : ℕ) (more : List ℕ) → 10 ∷ bytes ≡ (y ∷ u) ++ more → Begun p (acc ++ y ∷ u) → ⊥
stuck_line p acc bytes small one none u y more e b =
    let newline : y ≡ 10 = let turned : 10 ≡ y = cc in sym turned in
    let text = b.text ∙ append_assoc acc (y ∷ u) b.more ∙ ap (λ (z : ℕ). acc ++ z ∷ (u ++ b.more)) newline in
    let h = behind p acc (u ++ b.more) b.version b.jobs b.ticks small one b.rest text in
    let some : after_line p acc ≡ Some h.next = h.goes in
    absurd (cc)

at_newline : (bytes : List ℕ) (p : Part) (n : ℕ) (acc : List ℕ) (o : Option Part) → IsSmall p → Lacks 10 acc →
    after_line p acc ≡ o → ((q : Part) → IsSmall q → Answers q (n + 1) bytes (read_on q (n + 1) [] bytes))
    → Answers p n (acc ++ 10 ∷ bytes) (option_map_or (λ q. read_on q (n + 1) [] bytes) o (Err (Line n)))
at_newline bytes p n acc None small one e next = refuse_here p n acc (10 ∷ bytes) small one (stuck_line p acc bytes small one e)
at_newline bytes p n acc (Some q) small one e next = answers_before p q n acc bytes (read_on q (n + 1) [] bytes) small one e
    (next q (leads p.stage p.jobs p.ticks acc q small e).small)

pub answers : (bytes : List ℕ) (p : Part) (n : ℕ) (acc : List ℕ) → IsSmall p → Lacks 10 acc → Answers p n (acc ++ bytes) (read_on p n acc bytes)
answers [] p n acc small one = elim (cases_Bool (is_whole p.stage acc)) [
  | inl h ↦ (let w = whole_over p.stage acc h in rw h (found_over p acc w.0 w.1))
  | inr h ↦ rw h (refuse_here p n acc [] small one (λ u y more e b. absurd (cc)))
]
answers (x ∷ bytes) p n acc small one = elim (cases_Bool (x == 10)) [
  | inl h ↦ (let newline : 10 ≡ x = sym (eqb-true x 10 h) in
      rw h (subst (λ (y : ℕ). Answers p n (acc ++ y ∷ bytes)
      (option_map_or (λ q. read_on q (n + 1) [] bytes) (after_line p acc) (Err (Line n)))) newline
      (at_newline bytes p n acc (after_line p acc) small one refl (λ q is. answers bytes q (n + 1) [] is tt))))
  | inr h ↦ rw h (subst (λ (l : List ℕ). Answers p n l (read_on p n (acc ++ x ∷ []) bytes)) (append_assoc acc (x ∷ []) bytes)
      (answers bytes p n (acc ++ x ∷ []) small (lacks_append 10 acc (x ∷ []) one (h, tt))))
]

small_start : IsSmall nothing_read
small_start = record { jobs = omega arith; ticks = omega arith }

limits_from_rest : (version : Version) (jobs : List Job) (ticks : List Tick) → LimitsRest version 0 jobs ticks →
    IsWithinLimits (record { jobs = jobs; ticks = ticks })
limits_from_rest version jobs ticks r = record {
  few_jobs = r.few_jobs;
  few_ticks = r.few_ticks;
  few_segments = r.few_segments;
  jobs = λ k none b. (r.all_jobs k none b).job;
  ticks = subst (λ (n : ℕ). All (IsTickOf n) ticks) (zero-add (length jobs)) r.all_ticks;
}

rest_from_limits : (version : Version) (run : Run) → IsWithinLimits run → All (Tells version) run.jobs → LimitsRest version 0 run.jobs run.ticks
rest_from_limits version run w told = record {
  few_jobs = w.few_jobs;
  few_ticks = w.few_ticks;
  few_segments = w.few_segments;
  all_jobs = λ k none b. record { job = w.jobs k none b; told = told k none b };
  all_ticks = subst (λ (n : ℕ). All (IsTickOf n) run.ticks) (sym (zero-add (length run.jobs))) w.ticks;
}

-- a run's text is read as this run
pub run_of_text-parses : (b : List ℕ) (run : Run) → Parses run_format b run → run_of_text b ≡ Ok run
unfolding run_of_text
run_of_text-parses b run h =
    complete b nothing_read 1 [] h.text.version run.jobs run.ticks small_start tt (rest_from_limits h.text.version run h.within h.text.told) (sym h.text.text)

begun_from_begins : (b : List ℕ) → BeginsText run_format b → Begun nothing_read b
begun_from_begins b t =
    let p = t.parses.text in
    record {
      version = p.version;
      jobs = t.value.jobs;
      ticks = t.value.ticks;
      more = t.more;
      rest = rest_from_limits p.version t.value t.parses.within p.told;
      text = sym p.text;
    }

-- the rest of a text of which nothing was read
parses_from_rest : (b : List ℕ) (version : Version) (jobs : List Job) (ticks : List Tick) → LimitsRest version 0 jobs ticks →
    b ≡ rest_text Head version jobs ticks → Parses run_format b (record { jobs = jobs; ticks = ticks })
parses_from_rest b version jobs ticks r e = record {
  within = limits_from_rest version jobs ticks r;
  text = record { version = version; told = λ k none b. (r.all_jobs k none b).told; text = e };
}

begins_from_begun : (b : List ℕ) → Begun nothing_read b → BeginsText run_format b
begins_from_begun b t = record {
  value = record { jobs = t.jobs; ticks = t.ticks };
  more = t.more;
  parses = parses_from_rest (b ++ t.more) t.version t.jobs t.ticks t.rest (sym t.text);
}

reading_from_answers : (b : List ℕ) (r : Result Run TextRefusal) → ((run : Run) → Parses run_format b run → r ≡ Ok run) →
    Answers nothing_read 1 b r → IsReading run_format b r
reading_from_answers b (Ok run) all f =
    let found = parses_from_rest b f.version f.jobs f.ticks f.rest f.text in
    subst (Parses run_format b) (sym f.is) found
reading_from_answers b (Err (Line n)) all r = record {
  none = λ run h. absurd (let e = all run h in cc);
  line = record {
    front = r.front;
    rest = r.rest;
    whole = r.whole;
    begins = begins_from_begun r.front r.begins;
    longest = λ longer more e t. r.longest longer more e (begun_from_begins longer t);
    line = r.line;
  };
}
reading_from_answers b (Err Memory) all r = absurd r

pub reading_exists : (b : List ℕ) → IsReading run_format b (run_of_text b)
unfolding run_of_text
reading_exists b = reading_from_answers b (run_of_text b) (run_of_text-parses b) (answers b nothing_read 1 [] small_start tt)

-- no bytes are the text of two runs
one_parse : (b : List ℕ) (run other : Run) → Parses run_format b run → Parses run_format b other → run ≡ other
one_parse b run other h k = let same : Ok run ≡ Ok other = sym (run_of_text-parses b run h) ∙ run_of_text-parses b other k in cc

pub one_reading_each : HaveOneReading run_format run_of_text
one_reading_each = record { exists = reading_exists; single = one_reading run_format one_parse }

-- what is written is read as it was
pub run_of_text-text_of : (run : Run) → IsWithinLimits run → run_of_text (text_of run) ≡ Ok run
run_of_text-text_of run h = run_of_text-parses (text_of run) run
    (record { within = h; text = record { version = Second; told = λ k none b. λ e. absurd (cc); text = refl } })
