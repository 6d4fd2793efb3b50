-- The lines of a certificate that was read, judged one after the other.
use Rattle.std.proofs.Common.{◌≡◌, ℕ, zero, suc, ◌+◌, ◌<◌, ◌≤◌, ◌==◌, Bool, List, [], ◌∷◌, ◌++◌, length, map, drop, fold, get_or, slice_get, Option, Some, None, refl, sym, ap, ◌∙◌, arith, add-one, append_assoc}
use Rattle.std.proofs.Math.Seq.{drop-cons}
use Rattle.std.proofs.lemmas.List.{drop_all}
use Rattle.std.proofs.lemmas.List.Sums.{fold-append}
use Rattle.lists.specs.Firsts.{must}
use Rattle.lists.proofs.FirstFacts.{must_holds}
use Rattle.std.proofs.lemmas.Bool.{eqb-true}
use Rattle.task_sheet.specs.SheetParts.{SheetParts}
use Rattle.policy.specs.PolicyMeaning.{PolicyMeaning}
use Rattle.preemption.specs.CutMeaning.{CutMeaning}
use Rattle.certificate.specs.declared.cert.Cert.{Cert}
use Rattle.certificate.specs.declared.cert.Entry.{Entry}
use Rattle.certificate.specs.declared.cert.Point.{Point}
use Rattle.certificate.specs.declared.cert.Terms.{Terms}
use Rattle.certificate.specs.declared.step.LineStep.{LineStep}
use Rattle.certificate.specs.declared.step.LineStep.TheVariants as says
use Rattle.certificate.specs.Text.{PointLine, point_line, lines_of}
use Rattle.certificate.specs.Steps.{point_step, points_steps, entries_steps}
use Rattle.certificate.proofs.PointFacts.{lines_count}
use Rattle.conditions.specs.declared.failed.Cond.TheVariants.{K1}
use Rattle.conditions.specs.Conditions.{of_cert, failed_of}
use Rattle.cert_check.specs.declared.judged.Judged.{Judged}
use Rattle.cert_check.specs.JudgedLines.{unjudged, judge_line}
use Rattle.cert_check.proofs.FoldFacts.{all_failed}
use Rattle.cert_check.proofs.StandingFacts.{lines_keep}

-- the lines of points from the k-th on
lines_from : (ps : List Point) (ts : List Terms) (k : ℕ) (q : Point) → k < length ps → q ≡ get_or ps k q →
    drop k (lines_of ps ts) ≡ point_line q (slice_get ts k) ∷ drop (suc k) (lines_of ps ts)
lines_from [] ts k q h e = absurd (omega arith)
lines_from (p ∷ ps) [] zero q h e = ap (λ (x : Point). point_line x None ∷ lines_of ps []) (sym e)
lines_from (p ∷ ps) [] (suc k) q h e = lines_from ps [] k q (omega arith) e
lines_from (p ∷ ps) (t ∷ ts) zero q h e = ap (λ (x : Point). point_line x (Some t) ∷ lines_of ps ts) (sym e)
lines_from (p ∷ ps) (t ∷ ts) (suc k) q h e = lines_from ps ts k q (omega arith) e

module _ (p : PolicyMeaning) (m : CutMeaning) (sbf : ℕ → ℕ) (sheet : SheetParts) (deadlines : Bool) where
  abbrev line : Judged → LineStep → Judged
  line j s = judge_line p m sbf sheet deadlines j s

  module _ (ps : List Point) (ts : List Terms) (k : ℕ) (j whole : Judged)
      (left : fold line j (map point_step (drop k (lines_of ps ts))) ≡ whole) where
    -- one more point
    pub points_on : (q : Point) → k < length ps → q ≡ get_or ps k q →
        fold line (line j (says.Point q.offset q.end (slice_get ts k))) (map point_step (drop (k + 1) (lines_of ps ts))) ≡ whole
    points_on q h e = rw add-one (sym (ap (λ (ls : List PointLine). fold line j (map point_step ls)) (lines_from ps ts k q h e)) ∙ left)

    -- past the last one
    pub points_past : length ps ≤ k → j ≡ whole
    points_past h =
        sym (ap (λ (ls : List PointLine). fold line j (map point_step ls)) (drop_all k (lines_of ps ts) (omega (arith, h, lines_count ps ts)))) ∙ left

  module _ (es : List Entry) (k : ℕ) (j whole : Judged) (left : fold line j (entries_steps k (drop k es)) ≡ whole) where
    -- one more entry
    pub entries_on : (e : Entry) → k < length es → e ≡ get_or es k e →
        fold line (fold line j (says.Entry k e.window e.bound (length e.points) ∷ points_steps e)) (entries_steps (k + 1) (drop (k + 1) es)) ≡ whole
    entries_on e h same =
        let here : drop k es ≡ e ∷ drop (suc k) es =
        drop-cons es k e h ∙ ap (λ (x : Entry). x ∷ drop (suc k) es) (sym same) in
        rw add-one
        (sym (fold-append line (line j (says.Entry k e.window e.bound (length e.points))) (points_steps e) (entries_steps (suc k) (drop (suc k) es)))
        ∙ sym (ap (λ (xs : List Entry). fold line j (entries_steps k xs)) here) ∙ left)

    pub entries_past : length es ≤ k → j ≡ whole
    entries_past h = sym (ap (λ (xs : List Entry). fold line j (entries_steps k xs)) (drop_all k es h)) ∙ left

  -- nothing failed before, where nothing failed after
  pub kept : (j : Judged) (ss : List LineStep) → (fold line j ss).failed ≡ None → j.failed ≡ None
  kept j ss none = lines_keep p m sbf sheet deadlines j ss none

  -- where there is an entry for each task
  pub counted : (n : ℕ) → (line unjudged (says.Tasks n)).failed ≡ None → n ≡ length sheet.tasks
  counted n none = eqb-true n (length sheet.tasks) (must_holds (n == length sheet.tasks) (of_cert K1) none)

  -- the last line tells the first condition that fails
  pub last_told : (cert : Cert) (es : List Entry) (counted judged : Judged) → es ≡ cert.entries → counted ≡ line unjudged (says.Tasks (length es)) →
      judged ≡ fold line counted (entries_steps 0 es) → (line judged says.End).failed ≡ failed_of p m sbf sheet deadlines cert
  last_told cert es counted judged same count all =
      let first = line unjudged (says.Tasks (length es)) in
      ap (λ (j : Judged). (line j says.End).failed) (all ∙ ap (λ (j : Judged). fold line j (entries_steps 0 es)) count)
      ∙ ap (λ (j : Judged). j.failed) (sym (fold-append line first (entries_steps 0 es) (says.End ∷ [])))
      ∙ ap (λ (xs : List Entry). (fold line (line unjudged (says.Tasks (length xs))) (entries_steps 0 xs ++ says.End ∷ [])).failed) same
      ∙ all_failed p m sbf sheet deadlines cert
