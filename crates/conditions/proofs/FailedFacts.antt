use Rattle.std.proofs.Common.{◌≡◌, ◌∙◌, ℕ, zero, suc, ◌+◌, ◌<◌, ◌≤◌, Bool, Option, Some, None, List, [], ◌∷◌, length, get_or, slice_get, drop, sym, ap, arith, add-one}
use Rattle.std.proofs.lemmas.List.{drop_all}
use Rattle.std.proofs.lemmas.Bool.{eq-eqb}
use Rattle.lists.specs.Firsts.{first_of}
use Rattle.lists.proofs.FirstFacts.{first_stays}
use Rattle.task_sheet.specs.SheetParts.{SheetParts}
use Rattle.policy.specs.PolicyMeaning.{PolicyMeaning}
use Rattle.preemption.specs.CutMeaning.{CutMeaning}
use Rattle.certificate.specs.declared.cert.Cert.{Cert}
use Rattle.certificate.specs.declared.cert.Point.{Point}
use Rattle.certificate.specs.declared.cert.Terms.{Terms}
use Rattle.certificate.specs.Text.{point_line, lines_of}
use Rattle.certificate.proofs.PointFacts.{lines_count}
use Rattle.conditions.specs.declared.failed.Failed.{Failed}
use Rattle.conditions.specs.Conditions.{entry_at, gap_failed_of, point_failed_of, points_failed_of, task_failed_of, tasks_failed_of, failed_of}

-- a task that fails after tasks that do not is the first that fails
pub failed_at : (p : PolicyMeaning) (m : CutMeaning) (sbf : ℕ → ℕ) (sheet : SheetParts) (deadlines : Bool) (cert : Cert) (i : ℕ) (f : Failed) →
    length cert.entries ≡ length sheet.tasks → i < length sheet.tasks →
    tasks_failed_of p m sbf sheet deadlines cert i ≡ None → task_failed_of p m sbf sheet deadlines i (entry_at cert i) ≡ Some f →
    failed_of p m sbf sheet deadlines cert ≡ Some f
unfolding failed_of
failed_at p m sbf sheet deadlines cert i f e l before here =
    rw (eq-eqb (length cert.entries) (length sheet.tasks) e)
    (first_stays (λ k. task_failed_of p m sbf sheet deadlines k (entry_at cert k)) f (length sheet.tasks) i l before here)

-- the lines from the k-th on
lines_from : (ps : List Point) (ts : List Terms) (k : ℕ) (q : Point) → k < length ps → q ≡ get_or ps k q →
    drop k (lines_of ps ts) ≡ point_line q (slice_get ts k) ∷ drop (suc k) (lines_of ps ts)
lines_from [] ts k q h e = absurd (omega arith)
lines_from (p ∷ ps) [] zero q h e = ap (λ (x : Point). point_line x None ∷ lines_of ps []) (sym e)
lines_from (p ∷ ps) [] (suc k) q h e = lines_from ps [] k q (omega arith) e
lines_from (p ∷ ps) (t ∷ ts) zero q h e = ap (λ (x : Point). point_line x (Some t) ∷ lines_of ps ts) (sym e)
lines_from (p ∷ ps) (t ∷ ts) (suc k) q h e = lines_from ps ts k q (omega arith) e

module _ (p : PolicyMeaning) (m : CutMeaning) (sbf : ℕ → ℕ) (sheet : SheetParts) (i window bound : ℕ) (ps : List Point) (ts : List Terms)
    (before : Option ℕ) (k : ℕ) (whole : Option Failed)
    (left : points_failed_of p m sbf sheet i window bound before (drop k (lines_of ps ts)) ≡ whole) where
  split : (q : Point) → k < length ps → q ≡ get_or ps k q →
      first_of (point_failed_of p m sbf sheet i window bound before q.offset q.end (slice_get ts k))
      (points_failed_of p m sbf sheet i window bound (Some q.offset) (drop (suc k) (lines_of ps ts))) ≡ whole
  split q h e = sym (ap (points_failed_of p m sbf sheet i window bound before) (lines_from ps ts k q h e)) ∙ left

  -- a point that meets its conditions leaves the rest
  pub point_passed : (q : Point) → k < length ps → q ≡ get_or ps k q →
      point_failed_of p m sbf sheet i window bound before q.offset q.end (slice_get ts k) ≡ None →
      points_failed_of p m sbf sheet i window bound (Some q.offset) (drop (k + 1) (lines_of ps ts)) ≡ whole
  point_passed q h e none =
      rw add-one
      (sym (ap (λ (f : Option Failed). first_of f (points_failed_of p m sbf sheet i window bound (Some q.offset) (drop (suc k) (lines_of ps ts)))) none)
      ∙ split q h e)

  -- the first point that fails one is the first failure
  pub point_stopped : (q : Point) (f : Failed) → k < length ps → q ≡ get_or ps k q →
      point_failed_of p m sbf sheet i window bound before q.offset q.end (slice_get ts k) ≡ Some f → Some f ≡ whole
  point_stopped q f h e some =
      sym (ap (λ (g : Option Failed). first_of g (points_failed_of p m sbf sheet i window bound (Some q.offset) (drop (suc k) (lines_of ps ts)))) some)
      ∙ split q h e

  -- past the last point the gap is left
  pub points_passed : length ps ≤ k → gap_failed_of p sheet i before window ≡ whole
  points_passed h =
      sym (ap (points_failed_of p m sbf sheet i window bound before) (drop_all k (lines_of ps ts) (omega (arith, h, lines_count ps ts)))) ∙ left
