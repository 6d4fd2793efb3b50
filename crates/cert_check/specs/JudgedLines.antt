-- A certificate judged line by line.
use Rattle.std.specs.Prelude.{ℕ, ◌==◌, Bool, List, length, take, replicate, fold, slice_set, Option, Some, None}
use Rattle.lists.specs.Firsts.{first_of, must}
use Rattle.task_sheet.specs.SheetParts.{SheetParts}
use Rattle.policy.specs.PolicyMeaning.{PolicyMeaning}
use Rattle.preemption.specs.CutMeaning.{CutMeaning}
use Rattle.certificate.specs.declared.cert.Cert.{Cert}
use Rattle.certificate.specs.declared.cert.Terms.{Terms}
use Rattle.certificate.specs.declared.step.LineStep.{LineStep}
use Rattle.certificate.specs.declared.step.LineStep.TheVariants as says
use Rattle.certificate.specs.Steps.{steps_of}
use Rattle.conditions.specs.declared.failed.Cond.TheVariants.{K1, K7, K8, K10}
use Rattle.conditions.specs.declared.failed.Failed.{Failed}
use Rattle.conditions.specs.Conditions.{of_cert, of_point, named, entry_failed_of, gap_failed_of, meets_end, rest_within, point_failed_of}
use Rattle.conditions.specs.PointTerms.{tells_terms}
use Rattle.cert_check.specs.declared.judged.Judged.{Judged}

-- before the first line
abbrev pub unjudged : Judged
unjudged = record { failed = None; task = 0; window = 0; bound = 0; before = None }

-- the first condition that fails, with the gap from the last point to its window's end
abbrev pub closed : PolicyMeaning → SheetParts → Judged → Option Failed
closed p sheet j = first_of j.failed (gap_failed_of p sheet j.task j.before j.window)

-- K7, K8 and K10 at the point (a, x), whose terms are told or not
abbrev pub demand_failed_of : PolicyMeaning → CutMeaning → (ℕ → ℕ) → SheetParts → ℕ → ℕ → ℕ → ℕ → Option Terms → Option Failed
demand_failed_of p m sbf sheet i bound a x told =
    first_of (must (meets_end p m sbf sheet i a x) (of_point i a K7))
    (first_of (must (rest_within p m sbf sheet i a x bound) (of_point i a K8))
    (must (tells_terms p m sheet i a x told) (of_point i a K10)))

-- what is known after one more line
abbrev pub judge_line : PolicyMeaning → CutMeaning → (ℕ → ℕ) → SheetParts → Bool → Judged → LineStep → Judged
judge_line p m sbf sheet deadlines j (says.Tasks n) = record j { failed = first_of j.failed (must (n == length sheet.tasks) (of_cert K1)) }
judge_line p m sbf sheet deadlines j (says.Entry i w r k) = record {
  failed = first_of (closed p sheet j) (named i (entry_failed_of p m sbf sheet deadlines i w r));
  task = i;
  window = w;
  bound = r;
  before = None;
}
judge_line p m sbf sheet deadlines j (says.Point a x terms) = record j {
  failed = first_of j.failed (point_failed_of p m sbf sheet j.task j.window j.bound j.before a x terms);
  before = Some a;
}
judge_line p m sbf sheet deadlines j says.End = record j { failed = closed p sheet j }
judge_line p m sbf sheet deadlines j _ = j

-- the bounds after one more line: one number for each task, and that of the entry's task is its bound
abbrev pub note_bound : List ℕ → LineStep → List ℕ
note_bound bounds (says.Entry i w r k) = slice_set bounds i r
note_bound bounds _ = bounds

-- what is known after the first n lines of a certificate
unfoldable pub judged_after : PolicyMeaning → CutMeaning → (ℕ → ℕ) → SheetParts → Bool → Cert → ℕ → Judged
judged_after p m sbf sheet deadlines cert n = fold (judge_line p m sbf sheet deadlines) unjudged (take n (steps_of cert))

-- the bounds after the first n lines of a certificate, of which each is 0 before its entry's line
unfoldable pub bounds_after : SheetParts → Cert → ℕ → List ℕ
bounds_after sheet cert n = fold note_bound (replicate (length sheet.tasks) 0) (take n (steps_of cert))
