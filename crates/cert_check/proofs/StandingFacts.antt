-- One more line of a certificate, and its end.
use Rattle.std.proofs.Common.{◌≡◌, ℕ, zero, suc, ◌+◌, ◌<◌, ◌≤◌, ◌==◌, Bool, true, false, cond, if◌then◌else◌, List, [], ◌∷◌, ◌++◌, length, take, map, fold, replicate, get_or}
use Rattle.std.proofs.Common.{Some, None, refl, sym, ap, subst, ◌∙◌, arith, append_assoc, inl, inr, ◌⊎◌, ◌↔◌, slice_index_or, Ok, Err}
use Rattle.std.proofs.lemmas.Bool.{eqb-true, ne_eqb, eq-eqb, cases_lt}
use Rattle.std.proofs.lemmas.List.{append-nil}
use Rattle.std.proofs.lemmas.List.Elements.{All-head, All-tail}
use Rattle.std.specs.List.{All}
use Rattle.lists.specs.Limits.{greatest_number}
use Rattle.lists.proofs.FirstFacts.{first_parts, must_holds}
use Rattle.poet_io.specs.Texts.{Parses, BeginsText, IsRefusedLine, HaveOneReading, newlines}
use Rattle.poet_io.specs.declared.text_refusal.TextRefusal.TheVariants.{Line}
use Rattle.poet_io.proofs.TextFacts.{reading_is}
use Rattle.task_sheet.specs.SheetParts.{SheetParts}
use Rattle.policy.specs.PolicyMeaning.{PolicyMeaning}
use Rattle.preemption.specs.CutMeaning.{CutMeaning}
use Rattle.certificate.specs.declared.cert.Cert.{Cert}
use Rattle.certificate.specs.declared.cert.Entry.{Entry}
use Rattle.certificate.specs.declared.cert.Point.{Point}
use Rattle.certificate.specs.declared.cert.Terms.{Terms}
use Rattle.certificate.specs.declared.step.LineStep.{LineStep}
use Rattle.certificate.specs.declared.step.LineStep.TheVariants as says
use Rattle.certificate.specs.Progress.{Progress}
use Rattle.certificate.specs.Machine.{StandsFor, after_bytes, beginning, start}
use Rattle.certificate.specs.declared.place.Place.{Place}
use Rattle.certificate.specs.Text.{cert_format, text_of, lines_of, IsEntry, IsPoint, IsWithinGrammar}
use Rattle.certificate.specs.Steps.{steps_of, entries_steps, points_steps, point_step}
use Rattle.certificate.specs.Parsing.{cert_of_text}
use Rattle.certificate.proofs.WalkFacts.{text_walk}
use Rattle.certificate.proofs.ProgressFacts.{begins_from_good, good_from_begins, nothing_or_good, said_count}
use Rattle.certificate.proofs.FeedFacts.{newlines_append}
use Rattle.conditions.specs.declared.failed.Failed.{Failed}
use Rattle.conditions.specs.Conditions.{failed_of, of_cert}
use Rattle.conditions.specs.declared.failed.Cond.TheVariants.{K1}
use Rattle.cert_check.specs.declared.judged.Judged.{Judged}
use Rattle.cert_check.specs.JudgedLines.{unjudged, judge_line, note_bound, judged_after, bounds_after}
use Rattle.cert_check.specs.Standing.{HasJudged, LineFits}
use Rattle.cert_check.specs.Verdicts.{bounds_of, judged_as, cert_verdict_of, verdict_by}
use Rattle.cert_check.specs.declared.judging.Verdict.TheVariants.{Accepted, Text, Refused}
use Rattle.cert_check.proofs.FoldFacts.{judged_next, bounds_next, judged_whole, bounds_whole}

-- the numbers of a line of a certificate with n entries
abbrev NumbersFit : ℕ → LineStep → Type 0
NumbersFit n (says.Entry i w r k) = (i < n) × (w ≤ greatest_number) × (r ≤ greatest_number)
NumbersFit n (says.Point a x terms) = (a ≤ greatest_number) × (x ≤ greatest_number)
NumbersFit n _ = Unit {0}

-- the k-th line of these, for each k
abbrev AllFit : ℕ → List LineStep → Type 0
AllFit n ss = (k : ℕ) → NumbersFit n (get_or ss k says.More)

fit_front : (n : ℕ) (s : LineStep) (ss : List LineStep) → NumbersFit n s → AllFit n ss → AllFit n (s ∷ ss)
fit_front n s ss here others zero = here
fit_front n s ss here others (suc k) = others k

fit_both : (n : ℕ) (ss us : List LineStep) → AllFit n ss → AllFit n us → AllFit n (ss ++ us)
fit_both n [] us first second = second
fit_both n (s ∷ ss) us first second = fit_front n s (ss ++ us) (first zero) (fit_both n ss us (λ k. first (suc k)) second)

fit_none : (n : ℕ) → AllFit n []
fit_none n zero = tt
fit_none n (suc k) = tt

points_fit : (n : ℕ) (ps : List Point) (ts : List Terms) → All IsPoint ps → AllFit n (map point_step (lines_of ps ts))
points_fit n [] ts h = fit_none n
points_fit n (q ∷ ps) [] h =
    let here = All-head IsPoint q ps h in
    fit_front n (says.Point q.offset q.end None) (map point_step (lines_of ps [])) (here.offset, here.end) (points_fit n ps [] (All-tail IsPoint q ps h))
points_fit n (q ∷ ps) (t ∷ ts) h =
    let here = All-head IsPoint q ps h in
    fit_front n (says.Point q.offset q.end (Some t)) (map point_step (lines_of ps ts)) (here.offset, here.end) (points_fit n ps ts (All-tail IsPoint q ps h))

entries_fit : (n i : ℕ) (es : List Entry) → i + length es ≤ n → All IsEntry es → AllFit n (entries_steps i es ++ says.End ∷ [])
entries_fit n i [] le h = fit_front n says.End [] tt (fit_none n)
entries_fit n i (e ∷ es) le h =
    let here = All-head IsEntry e es h in
    let others = entries_fit n (suc i) es (omega (arith, le)) (All-tail IsEntry e es h) in
    let points = points_fit n e.points e.terms here.points in
    let rest = entries_steps (suc i) es ++ says.End ∷ [] in
    fit_front n (says.Entry i e.window e.bound (length e.points)) ((points_steps e ++ entries_steps (suc i) es) ++ says.End ∷ [])
    (omega (arith, le), here.window, here.bound)
    (subst (AllFit n) (sym (append_assoc (points_steps e) (entries_steps (suc i) es) (says.End ∷ [])))
    (fit_both n (points_steps e) rest points others))

module _ (p : PolicyMeaning) (m : CutMeaning) (sbf : ℕ → ℕ) (sheet : SheetParts) (deadlines : Bool) where
  -- a condition that failed is not forgotten
  line_keeps : (j : Judged) (s : LineStep) → (judge_line p m sbf sheet deadlines j s).failed ≡ None → j.failed ≡ None
  line_keeps j says.More h = h
  line_keeps j (says.Tasks n) h = (first_parts _ _ h).0
  line_keeps j (says.Entry i w r k) h = (first_parts _ _ (first_parts _ _ h).0).0
  line_keeps j (says.Point a x terms) h = (first_parts _ _ h).0
  line_keeps j says.End h = (first_parts _ _ h).0
  line_keeps j says.Bad h = h

  pub lines_keep : (j : Judged) (ss : List LineStep) → (fold (judge_line p m sbf sheet deadlines) j ss).failed ≡ None → j.failed ≡ None
  lines_keep j [] h = h
  lines_keep j (s ∷ ss) h = line_keeps j s (lines_keep (judge_line p m sbf sheet deadlines j s) ss h)

  with_task : (j : Judged) (n : ℕ) (s : LineStep) → NumbersFit n s → (j.failed ≡ None → n ≡ length sheet.tasks) → LineFits sheet j s
  with_task j n says.More fits same = tt
  with_task j n (says.Tasks k) fits same = tt
  with_task j n (says.Entry i w r k) fits same = (fits.1, fits.2, λ none. omega (arith, fits.0, same none))
  with_task j n (says.Point a x terms) fits same = fits
  with_task j n says.End fits same = tt
  with_task j n says.Bad fits same = tt

  -- where no condition failed after the line of the tasks, there are as many entries
  tasks_match : (cert : Cert) (k : ℕ) → (judged_after p m sbf sheet deadlines cert (suc (suc k))).failed ≡ None → length cert.entries ≡ length sheet.tasks
  unfolding judged_after
  tasks_match cert k h =
      let line = judge_line p m sbf sheet deadlines in
      let n = length cert.entries in
      let first = lines_keep (line (line unjudged says.More) (says.Tasks n)) (take k (entries_steps 0 cert.entries ++ says.End ∷ [])) h in
      eqb-true n (length sheet.tasks) (must_holds (n == length sheet.tasks) (of_cert K1) first)

  line_of_cert : (cert : Cert) (k : ℕ) → IsWithinGrammar cert
      → LineFits sheet (judged_after p m sbf sheet deadlines cert k) (get_or (steps_of cert) k says.More)
  line_of_cert cert zero within = tt
  line_of_cert cert (suc zero) within = tt
  line_of_cert cert (suc (suc k)) within =
      let es = cert.entries in
      let n = length es in
      let rest = entries_steps 0 es ++ says.End ∷ [] in
      with_task (judged_after p m sbf sheet deadlines cert (suc (suc k))) n (get_or rest k says.More) (entries_fit n 0 es (omega arith) within.entries k)
      (tasks_match cert k)

  said_fits : (cert : Cert) (k : ℕ) (w : Bool) (j : Judged) → IsWithinGrammar cert → j ≡ judged_after p m sbf sheet deadlines cert k
      → LineFits sheet j (cond w (get_or (steps_of cert) k says.More) says.More)
  said_fits cert k true j within is =
      subst (λ (v : Judged). LineFits sheet v (get_or (steps_of cert) k says.More)) (sym is) (line_of_cert cert k within)
  said_fits cert k false j within is = tt

  -- a line after k others
  judged_said : (cert : Cert) (k n : ℕ) (s : LineStep) → n ≤ 1 → s ≡ cond (n == 1) (get_or (steps_of cert) k says.More) says.More
      → judge_line p m sbf sheet deadlines (judged_after p m sbf sheet deadlines cert k) s ≡ judged_after p m sbf sheet deadlines cert (k + n)
  judged_said cert k n s few said =
      let line = judge_line p m sbf sheet deadlines in
      let before = judged_after p m sbf sheet deadlines cert k in
      let here = get_or (steps_of cert) k says.More in
      elim (cases_lt n 1) [
        | inl less ↦
            let none : k ≡ k + n = omega (arith, less) in
            let test : (n == 1) ≡ false = ne_eqb n 1 (λ e. omega (arith, less, e)) in
            ap (line before) (said ∙ ap (λ (w : Bool). cond w here says.More) test) ∙ ap (judged_after p m sbf sheet deadlines cert) none
        | inr more ↦
            let one : n ≡ 1 = omega (arith, few, more) in
            ap (line before) (said ∙ ap (λ (w : Bool). cond w here says.More) (eq-eqb n 1 one)) ∙ sym (judged_next p m sbf sheet deadlines cert k)
            ∙ ap (λ (w : ℕ). judged_after p m sbf sheet deadlines cert (k + w)) (sym one)
      ]

bounds_said : (sheet : SheetParts) (cert : Cert) (k n : ℕ) (s : LineStep) → n ≤ 1 → s ≡ cond (n == 1) (get_or (steps_of cert) k says.More) says.More
    → note_bound (bounds_after sheet cert k) s ≡ bounds_after sheet cert (k + n)
bounds_said sheet cert k n s few said =
    let before = bounds_after sheet cert k in
    let here = get_or (steps_of cert) k says.More in
    elim (cases_lt n 1) [
      | inl less ↦
          let none : k ≡ k + n = omega (arith, less) in
          let test : (n == 1) ≡ false = ne_eqb n 1 (λ e. omega (arith, less, e)) in
          ap (note_bound before) (said ∙ ap (λ (w : Bool). cond w here says.More) test) ∙ ap (bounds_after sheet cert) none
      | inr more ↦
          let one : n ≡ 1 = omega (arith, few, more) in
          ap (note_bound before) (said ∙ ap (λ (w : Bool). cond w here says.More) (eq-eqb n 1 one)) ∙ sym (bounds_next sheet cert k)
          ∙ ap (λ (w : ℕ). bounds_after sheet cert (k + w)) (sym one)
    ]

-- some certificate's text begins so, or none
begins_or_not : (b : List ℕ) → BeginsText cert_format b ⊎ (BeginsText cert_format b → ⊥)
begins_or_not b = elim (nothing_or_good (after_bytes beginning b).place.expected) [
  | inl nothing ↦ inr (λ begins. good_from_begins b begins nothing)
  | inr good ↦ inl (begins_from_good b good)
]

-- what is said of the bytes t behind b, for each certificate whose text begins so
abbrev pub Says : LineStep → List ℕ → List ℕ → Type 0
Says s b t = (more : List ℕ) (c : Cert) → Parses cert_format (b ++ (t ++ more)) c → s ≡
    (if newlines t == 1 then slice_index_or (steps_of c) (newlines b) says.More else says.More)

parses_behind : (b t more : List ℕ) (c : Cert) → Parses cert_format ((b ++ t) ++ more) c → Parses cert_format (b ++ (t ++ more)) c
parses_behind b t more c h = subst (λ (v : List ℕ). Parses cert_format v c) (append_assoc b t more) h

module _ (p : PolicyMeaning) (m : CutMeaning) (sbf : ℕ → ℕ) (sheet : SheetParts) (deadlines : Bool) (lines : Progress) (judged : Judged)
    (bounds : List ℕ) (b : List ℕ) (fed : HasJudged p m sbf sheet deadlines lines judged bounds b) where
  pub line_fits : (t : List ℕ) (s : LineStep) → (s ≡ says.Bad) ↔ (BeginsText cert_format (b ++ t) → ⊥) → Says s b t → LineFits sheet judged s
  line_fits t s bad said = elim (begins_or_not (b ++ t)) [
    | inl begins ↦
        let c = begins.value in
        let parses = parses_behind b t begins.more c begins.parses in
        subst (LineFits sheet judged) (sym (said begins.more c parses))
        (said_fits p m sbf sheet deadlines c (newlines b) (newlines t == 1) judged parses.within (fed.judged_is (t ++ begins.more) c parses))
    | inr none ↦ subst (LineFits sheet judged) (sym (bad.1 none)) tt
  ]

  pub line_judged : (t : List ℕ) (s : LineStep) (now : Progress) (judged_now : Judged) (bounds_now : List ℕ) → StandsFor now (b ++ t) → newlines t ≤ 1
      → Says s b t → judged_now ≡ judge_line p m sbf sheet deadlines judged s → bounds_now ≡ note_bound bounds s
      → HasJudged p m sbf sheet deadlines now judged_now bounds_now (b ++ t)
  line_judged t s now judged_now bounds_now stands few said judged_is bounds_are = record {
    lines_are = stands;
    judged_is = λ more c h.
        let parses = parses_behind b t more c h in
        judged_is ∙ ap (λ (v : Judged). judge_line p m sbf sheet deadlines v s) (fed.judged_is (t ++ more) c parses)
        ∙ judged_said p m sbf sheet deadlines c (newlines b) (newlines t) s few (said more c parses)
        ∙ ap (judged_after p m sbf sheet deadlines c) (sym (newlines_append b t));
    bounds_are = λ more c h.
        let parses = parses_behind b t more c h in
        bounds_are ∙ ap (λ (v : List ℕ). note_bound v s) (fed.bounds_are (t ++ more) c parses)
        ∙ bounds_said sheet c (newlines b) (newlines t) s few (said more c parses)
        ∙ ap (bounds_after sheet c) (sym (newlines_append b t));
  }

-- a text has a line for each newline
line_count : (c : Cert) → IsWithinGrammar c → (b : List ℕ) → b ≡ text_of c → length (steps_of c) ≡ newlines b
line_count c within b is =
    ap (λ (r : List LineStep × Place). length r.0) (sym (text_walk c within)) ∙ said_count [] (text_of c) [] start refl ∙ ap newlines (sym is)

-- a certificate of which no condition fails has an entry for each task
pub counts_match : (p : PolicyMeaning) (m : CutMeaning) (sbf : ℕ → ℕ) (sheet : SheetParts) (deadlines : Bool) (cert : Cert)
    → failed_of p m sbf sheet deadlines cert ≡ None → length cert.entries ≡ length sheet.tasks
unfolding failed_of
counts_match p m sbf sheet deadlines cert none =
    eqb-true (length cert.entries) (length sheet.tasks) (must_holds (length cert.entries == length sheet.tasks) (of_cert K1) (first_parts _ _ none).0)

module _ (p : PolicyMeaning) (m : CutMeaning) (sbf : ℕ → ℕ) (sheet : SheetParts) (deadlines : Bool) (lines : Progress) (judged : Judged)
    (bounds : List ℕ) (b : List ℕ) (fed : HasJudged p m sbf sheet deadlines lines judged bounds b) (one : HaveOneReading cert_format cert_of_text) where
  pub says_text : (line : ℕ) → IsRefusedLine cert_format b line → ((c : Cert) → Parses cert_format b c → ⊥)
      → Text line ≡ cert_verdict_of p m sbf sheet deadlines b
  unfolding cert_verdict_of
  says_text line refused none =
      ap (verdict_by (failed_of p m sbf sheet deadlines))
      (sym (reading_is cert_format cert_of_text one b (Err (Line line)) (record { none = none; line = refused })))

  module _ (c : Cert) (parses : Parses cert_format b c) where
    whole : Parses cert_format (b ++ []) c
    whole = subst (λ (v : List ℕ). Parses cert_format v c) (sym (append-nil b)) parses

    failed_is : judged.failed ≡ failed_of p m sbf sheet deadlines c
    failed_is = ap (λ (v : Judged). v.failed) (fed.judged_is [] c whole)
        ∙ judged_whole p m sbf sheet deadlines c (newlines b) (omega (arith, line_count c parses.within b parses.text))

    verdict_is : judged_as c (failed_of p m sbf sheet deadlines c) ≡ cert_verdict_of p m sbf sheet deadlines b
    unfolding cert_verdict_of
    verdict_is = ap (verdict_by (failed_of p m sbf sheet deadlines)) (sym (reading_is cert_format cert_of_text one b (Ok c) parses))

    pub says_refused : (f : Failed) → judged.failed ≡ Some f → Refused f ≡ cert_verdict_of p m sbf sheet deadlines b
    says_refused f e = ap (judged_as c) (sym e ∙ failed_is) ∙ verdict_is

    pub says_accepted : judged.failed ≡ None → Accepted bounds ≡ cert_verdict_of p m sbf sheet deadlines b
    says_accepted e =
        let none : failed_of p m sbf sheet deadlines c ≡ None = sym failed_is ∙ e in
        let same : bounds ≡ bounds_of c = fed.bounds_are [] c whole ∙ bounds_whole sheet c (newlines b)
        (counts_match p m sbf sheet deadlines c none) (omega (arith, line_count c parses.within b parses.text)) in
        ap Accepted same ∙ ap (judged_as c) (sym none) ∙ verdict_is

-- before the first line
pub fresh : (p : PolicyMeaning) (m : CutMeaning) (sbf : ℕ → ℕ) (sheet : SheetParts) (deadlines : Bool) (lines : Progress) (bounds : List ℕ) → StandsFor lines []
    → bounds ≡ replicate (length sheet.tasks) 0 → HasJudged p m sbf sheet deadlines lines unjudged bounds []
unfolding judged_after bounds_after
fresh p m sbf sheet deadlines lines bounds stands zeros = record { lines_are = stands; judged_is = λ more c h. refl; bounds_are = λ more c h. zeros }
