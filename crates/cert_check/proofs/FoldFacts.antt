-- The lines of a whole certificate give its first failed condition and its bounds.
use Rattle.std.proofs.Common.{◌≡◌, ℕ, zero, suc, ◌+◌, ◌<◌, ◌≤◌, ◌==◌, Bool, List, [], ◌∷◌, ◌++◌, length, take, map, replicate, fold, get_or, set}
use Rattle.std.proofs.Common.{Option, Some, None, refl, sym, ap, ◌∙◌, arith, append_assoc, inl, inr, slice_index_or}
use Rattle.std.proofs.Math.Seq.{set-append_seam}
use Rattle.std.proofs.lemmas.Bool.{cases_Bool, eqb-true, cases_lt}
use Rattle.std.proofs.lemmas.List.{take_all, length_push, get_or_past}
use Rattle.std.proofs.lemmas.List.Sums.{fold-append, fold_more}
use Rattle.lists.specs.Firsts.{first_of, must, first_below}
use Rattle.task_sheet.specs.SheetParts.{SheetParts}
use Rattle.policy.specs.PolicyMeaning.{PolicyMeaning}
use Rattle.preemption.specs.CutMeaning.{CutMeaning}
use Rattle.certificate.specs.declared.cert.Entry.{Entry}
use Rattle.certificate.specs.declared.cert.Cert.{Cert}
use Rattle.certificate.specs.declared.step.LineStep.{LineStep}
use Rattle.certificate.specs.declared.step.LineStep.TheVariants as says
use Rattle.certificate.specs.Text.{PointLine, lines_of}
use Rattle.certificate.specs.Steps.{point_step, points_steps, entries_steps, steps_of}
use Rattle.conditions.specs.declared.failed.Cond.TheVariants.{K1}
use Rattle.conditions.specs.declared.failed.Failed.{Failed}
use Rattle.conditions.specs.Conditions.{no_entry, of_cert, named, entry_failed_of, point_failed_of, points_failed_of, task_failed_of, failed_of}
use Rattle.cert_check.specs.Verdicts.{bounds_of}
use Rattle.cert_check.specs.declared.judged.Judged.{Judged}
use Rattle.cert_check.specs.JudgedLines.{unjudged, closed, judge_line, note_bound, judged_after, bounds_after}

-- the first failure of three
first_first : {F : Type 0} (a b c : Option F) → first_of (first_of a b) c ≡ first_of a (first_of b c)
first_first (Some f) b c = refl
first_first None b c = refl

first_none : {F : Type 0} (a : Option F) → first_of a None ≡ a
first_none (Some f) = refl
first_none None = refl

-- the first failure below a number, with f 0 apart
below_first : {F : Type 0} (f : ℕ → Option F) (n : ℕ) → first_below f (suc n) ≡ first_of (f 0) (first_below (λ k. f (suc k)) n)
below_first f zero = sym (first_none (f 0))
below_first f (suc n) = ap (λ w. first_of w (f (suc n))) (below_first f n) ∙ first_first (f 0) (first_below (λ k. f (suc k)) n) (f (suc n))

module _ (p : PolicyMeaning) (m : CutMeaning) (sbf : ℕ → ℕ) (sheet : SheetParts) (deadlines : Bool) where
  points_closed : (j : Judged) (ls : List PointLine) → closed p sheet (fold (judge_line p m sbf sheet deadlines) j (map point_step ls)) ≡
      first_of j.failed (points_failed_of p m sbf sheet j.task j.window j.bound j.before ls)
  points_closed j [] = refl
  points_closed j (l ∷ ls) =
      points_closed (judge_line p m sbf sheet deadlines j (point_step l)) ls
      ∙ first_first j.failed (point_failed_of p m sbf sheet j.task j.window j.bound j.before l.point.offset l.point.end l.terms)
      (points_failed_of p m sbf sheet j.task j.window j.bound (Some l.point.offset) ls)

  -- the first failure of entries, of which the first is the i-th
  abbrev entries_failed : ℕ → List Entry → Option Failed
  entries_failed i [] = None
  entries_failed i (e ∷ es) = first_of (task_failed_of p m sbf sheet deadlines i e) (entries_failed (suc i) es)

  entries_judged : (j : Judged) (i : ℕ) (es : List Entry)
      → (fold (judge_line p m sbf sheet deadlines) j (entries_steps i es ++ says.End ∷ [])).failed ≡ first_of (closed p sheet j) (entries_failed i es)
  unfolding task_failed_of
  entries_judged j i [] = sym (first_none (closed p sheet j))
  entries_judged j i (e ∷ es) =
      let line = judge_line p m sbf sheet deadlines in
      let first = line j (says.Entry i e.window e.bound (length e.points)) in
      let others = entries_steps (suc i) es ++ says.End ∷ [] in
      let here = named i (entry_failed_of p m sbf sheet deadlines i e.window e.bound) in
      let points = points_failed_of p m sbf sheet i e.window e.bound None (lines_of e.points e.terms) in
      let rest = entries_failed (suc i) es in
      ap (λ (ss : List LineStep). (fold line first ss).failed) (append_assoc (points_steps e) (entries_steps (suc i) es) (says.End ∷ []))
      ∙ ap (λ (k : Judged). k.failed) (fold-append line first (points_steps e) others)
      ∙ entries_judged (fold line first (points_steps e)) (suc i) es
      ∙ ap (λ (f : Option Failed). first_of f rest) (points_closed first (lines_of e.points e.terms))
      ∙ first_first (first_of (closed p sheet j) here) points rest
      ∙ first_first (closed p sheet j) here (first_of points rest)
      ∙ ap (first_of (closed p sheet j)) (sym (first_first here points rest))

  entries_below : (g : ℕ → Option Failed) (i : ℕ) (es : List Entry)
      → ((k : ℕ) → k < length es → g k ≡ task_failed_of p m sbf sheet deadlines (i + k) (get_or es k no_entry))
      → entries_failed i es ≡ first_below g (length es)
  entries_below g i [] same = refl
  entries_below g i (e ∷ es) same =
      let task = task_failed_of p m sbf sheet deadlines in
      let on : (k : ℕ) → k < length es → g (suc k) ≡ task (suc i + k) (get_or es k no_entry) = λ k l.
      let there : suc k < length (e ∷ es) = omega (arith, l) in
      let shift : i + suc k ≡ suc i + k = omega arith in
      same (suc k) there ∙ ap (λ (w : ℕ). task w (get_or es k no_entry)) shift in
      let some : 0 < length (e ∷ es) = omega arith in
      let first : i + 0 ≡ i = omega arith in
      let here : g 0 ≡ task i e = same 0 some ∙ ap (λ (w : ℕ). task w e) first in
      ap (first_of (task i e)) (entries_below (λ k. g (suc k)) (suc i) es on)
      ∙ ap (λ (f : Option Failed). first_of f (first_below (λ k. g (suc k)) (length es))) (sym here)
      ∙ sym (below_first g (length es))

  -- the last line tells the first condition that fails
  pub all_failed : (cert : Cert) → (fold (judge_line p m sbf sheet deadlines) unjudged (steps_of cert)).failed ≡ failed_of p m sbf sheet deadlines cert
  unfolding failed_of
  all_failed cert =
      let es = cert.entries in
      let line = judge_line p m sbf sheet deadlines in
      let task = λ (k : ℕ). task_failed_of p m sbf sheet deadlines k (get_or es k no_entry) in
      let whole = entries_judged (line (line unjudged says.More) (says.Tasks (length es))) 0 es in
      let zero_on : (k : ℕ) → k ≡ 0 + k = λ k. omega arith in
      let below = entries_below task 0 es (λ k l. ap (λ (w : ℕ). task_failed_of p m sbf sheet deadlines w (get_or es k no_entry)) (zero_on k)) in
      elim (cases_Bool (length es == length sheet.tasks)) [
        | inl same ↦
            whole ∙ ap (λ (b : Bool). first_of (first_of (must b (of_cert K1)) None) (entries_failed 0 es)) same ∙ below
            ∙ ap (first_below task) (eqb-true (length es) (length sheet.tasks) same)
            ∙ ap (λ (b : Bool). first_of (must b (of_cert K1)) (first_below task (length sheet.tasks))) (sym same)
        | inr other ↦
            whole ∙ ap (λ (b : Bool). first_of (first_of (must b (of_cert K1)) None) (entries_failed 0 es)) other
            ∙ ap (λ (b : Bool). first_of (must b (of_cert K1)) (first_below task (length sheet.tasks))) (sym other)
      ]

points_keep : (bounds : List ℕ) (ls : List PointLine) → fold note_bound bounds (map point_step ls) ≡ bounds
points_keep bounds [] = refl
points_keep bounds (l ∷ ls) = points_keep bounds ls

-- the bounds of entries stand behind those that came before
entries_bounds : (done : List ℕ) (i : ℕ) (es : List Entry) → i ≡ length done
    → fold note_bound (done ++ replicate (length es) 0) (entries_steps i es ++ says.End ∷ []) ≡ done ++ map (λ (e : Entry). e.bound) es
entries_bounds done i [] h = refl
entries_bounds done i (e ∷ es) h =
    let zeros : List ℕ = replicate (length es) 0 in
    let others = entries_steps (suc i) es ++ says.End ∷ [] in
    let bounds = map (λ (e : Entry). e.bound) es in
    let noted : set (done ++ 0 ∷ zeros) i e.bound ≡ (done ++ e.bound ∷ []) ++ zeros =
    ap (λ (k : ℕ). set (done ++ 0 ∷ zeros) k e.bound) h ∙ set-append_seam done 0 zeros e.bound ∙ sym (append_assoc done (e.bound ∷ []) zeros) in
    ap (fold note_bound (set (done ++ 0 ∷ zeros) i e.bound)) (append_assoc (points_steps e) (entries_steps (suc i) es) (says.End ∷ []))
    ∙ fold-append note_bound (set (done ++ 0 ∷ zeros) i e.bound) (points_steps e) others
    ∙ ap (λ (bs : List ℕ). fold note_bound bs others) (points_keep (set (done ++ 0 ∷ zeros) i e.bound) (lines_of e.points e.terms) ∙ noted)
    ∙ entries_bounds (done ++ e.bound ∷ []) (suc i) es (omega (arith, h, length_push done e.bound))
    ∙ append_assoc done (e.bound ∷ []) bounds

all_bounds : (sheet : SheetParts) (cert : Cert) → length cert.entries ≡ length sheet.tasks
    → fold note_bound (replicate (length sheet.tasks) 0) (steps_of cert) ≡ bounds_of cert
all_bounds sheet cert h =
    ap (λ (n : ℕ). fold note_bound (replicate n 0) (steps_of cert)) (sym h) ∙ entries_bounds [] 0 cert.entries refl

-- one more line
taken : {X Y : Type 0} (f : Y → X → Y) (a : Y) (d : X) (xs : List X) (n : ℕ) → ((y : Y) → f y d ≡ y)
    → fold f a (take (n + 1) xs) ≡ f (fold f a (take n xs)) (get_or xs n d)
taken f a d xs n keeps = elim (cases_lt n (length xs)) [
  | inl inside ↦ fold_more f a xs n d inside
  | inr past ↦
      ap (fold f a) (take_all (n + 1) xs (omega arith) ∙ sym (take_all n xs past)) ∙ sym (keeps (fold f a (take n xs)))
      ∙ ap (f (fold f a (take n xs))) (sym (get_or_past xs n d past))
]

module _ (p : PolicyMeaning) (m : CutMeaning) (sbf : ℕ → ℕ) (sheet : SheetParts) (deadlines : Bool) (cert : Cert) where
  pub judged_next : (n : ℕ) → judged_after p m sbf sheet deadlines cert (n + 1)
      ≡ judge_line p m sbf sheet deadlines (judged_after p m sbf sheet deadlines cert n) (slice_index_or (steps_of cert) n says.More)
  unfolding judged_after
  judged_next n = taken (judge_line p m sbf sheet deadlines) unjudged says.More (steps_of cert) n (λ j. refl)

  pub judged_whole : (n : ℕ) → length (steps_of cert) ≤ n → (judged_after p m sbf sheet deadlines cert n).failed ≡ failed_of p m sbf sheet deadlines cert
  unfolding judged_after
  judged_whole n h =
      ap (λ (ss : List LineStep). (fold (judge_line p m sbf sheet deadlines) unjudged ss).failed) (take_all n (steps_of cert) h)
      ∙ all_failed p m sbf sheet deadlines cert

pub bounds_next : (sheet : SheetParts) (cert : Cert) (n : ℕ)
    → bounds_after sheet cert (n + 1) ≡ note_bound (bounds_after sheet cert n) (slice_index_or (steps_of cert) n says.More)
unfolding bounds_after
bounds_next sheet cert n = taken note_bound (replicate (length sheet.tasks) 0) says.More (steps_of cert) n (λ bounds. refl)

pub bounds_whole : (sheet : SheetParts) (cert : Cert) (n : ℕ) → length cert.entries ≡ length sheet.tasks → length (steps_of cert) ≤ n
    → bounds_after sheet cert n ≡ bounds_of cert
unfolding bounds_after
bounds_whole sheet cert n same h =
    ap (fold note_bound (replicate (length sheet.tasks) 0)) (take_all n (steps_of cert) h) ∙ all_bounds sheet cert same
