-- The conditions computed at sheets with jitters, and the theorem at their tasks.
use Rattle.std.proofs.Common.{◌≡◌, ℕ, zero, suc, ◌<◌, ◌≤◌, false, List, [], ◌∷◌, length, get_or, None, Some, refl, arith}
use Rattle.curve.specs.Curves.{value_of, alpha_of}
use Rattle.curve.specs.Validity.{IsCurve}
use Rattle.curve.proofs.CurveFacts.{periodic_valid}
use Rattle.task_sheet.specs.declared.tasks.PolicyKind.TheVariants.{Fp, Fifo}
use Rattle.task_sheet.specs.declared.tasks.SupplySpec.TheVariants.{Unit as Whole}
use Rattle.task_sheet.specs.SheetParts.{SheetParts}
use Rattle.task_sheet.specs.Rules.{most_jitter, most_point, task_rule}
use Rattle.task_sheet.specs.Sheets.{no_task, IsValidSheet}
use Rattle.task_sheet.proofs.RuleFacts.{valid_from_rules}
use Rattle.policy.specs.PolicyMeaning.{PolicyMeaning}
use Rattle.policy.specs.Policies.{fp_meaning, fifo_meaning}
use Rattle.preemption.specs.CutMeaning.{CutMeaning}
use Rattle.preemption.specs.CutLaws.{Serves}
use Rattle.preemption.specs.Kinds.{per_task_meaning}
use Rattle.schedule_laws.specs.Bounded.{IsBounded}
use Rattle.demand.specs.Demand.{own_of, others_of, blocking_of, need_of, window_need_of}
use Rattle.certificate.specs.declared.cert.Version.TheVariants.{One}
use Rattle.certificate.specs.declared.cert.Cert.{Cert}
use Rattle.conditions.specs.declared.failed.Cond.TheVariants.{K2}
use Rattle.conditions.specs.Conditions.{entry_at, of_task, task_failed_of, failed_of}
use Rattle.conditions.specs.Meets.{pairs_of, FailedMeans}
use Rattle.abstract_rta.specs.Bounds.{PointsBound}
use Rattle.bound_tests.specs.JitterSheets.{late_task, late_sheet, one_point, two_points, task_u, task_v, blocking_sheet, blocking_cert}

-- every tick is supplied
abbrev all_supplied : ℕ → ℕ
all_supplied d = d

late_curves : (jitter i : ℕ) → i < length (late_sheet jitter).tasks → IsCurve (get_or (late_sheet jitter).tasks i no_task).curve
late_curves jitter zero l = periodic_valid 5 (omega arith) (omega arith)
late_curves jitter (suc i) l = absurd (omega arith)

late_3_valid : IsValidSheet (late_sheet 3)
unfolding task_rule most_jitter most_point
late_3_valid = valid_from_rules Fp Whole (late_task 3 ∷ []) (late_curves 3) refl (omega arith) (omega arith) refl

late_4_valid : IsValidSheet (late_sheet 4)
unfolding task_rule most_jitter most_point
late_4_valid = valid_from_rules Fp Whole (late_task 4 ∷ []) (late_curves 4) refl (omega arith) (omega arith) refl

blocking_curves : (i : ℕ) → i < length blocking_sheet.tasks → IsCurve (get_or blocking_sheet.tasks i no_task).curve
blocking_curves zero l = periodic_valid 10 (omega arith) (omega arith)
blocking_curves (suc zero) l = periodic_valid 10 (omega arith) (omega arith)
blocking_curves (suc (suc i)) l = absurd (omega arith)

blocking_valid : IsValidSheet blocking_sheet
unfolding task_rule most_jitter most_point
blocking_valid = valid_from_rules Fifo Whole (task_u ∷ task_v ∷ []) blocking_curves refl (omega arith) (omega arith) refl

-- a bound below the jitter fails K2
below_the_jitter : failed_of fp_meaning per_task_meaning all_supplied (late_sheet 3) false
    (record { version = One; entries = record { window = 2; bound = 2; points = []; terms = [] } ∷ [] }) ≡ Some (of_task 0 K2)
unfolding failed_of task_failed_of
below_the_jitter = refl

one_point_meets : failed_of fp_meaning per_task_meaning all_supplied (late_sheet 3) false one_point ≡ None
unfolding failed_of task_failed_of window_need_of need_of own_of others_of blocking_of alpha_of value_of
one_point_meets = refl

two_points_meet : failed_of fp_meaning per_task_meaning all_supplied (late_sheet 4) false two_points ≡ None
unfolding failed_of task_failed_of window_need_of need_of own_of others_of blocking_of alpha_of value_of
two_points_meet = refl

blocking_meets : failed_of fifo_meaning per_task_meaning all_supplied blocking_sheet false blocking_cert ≡ None
unfolding failed_of task_failed_of window_need_of need_of own_of others_of blocking_of alpha_of value_of
blocking_meets = refl

-- the theorem at task i of a sheet, whose certificate meets the conditions
at_task : (p : PolicyMeaning) (m : CutMeaning) (sbf : ℕ → ℕ) (sheet : SheetParts) (cert : Cert) (i : ℕ) → PointsBound p m sbf →
    FailedMeans p m sbf → IsValidSheet sheet → Serves m sheet → i < length sheet.tasks →
    1 ≤ length (pairs_of (entry_at cert i).points) → failed_of p m sbf sheet false cert ≡ None → IsBounded p m sbf sheet i (entry_at cert i).bound
at_task p m sbf sheet cert i law means valid served listed some none =
    let task = ((means sheet false cert).0 none).tasks i listed in
    law sheet valid served i (entry_at cert i).window (entry_at cert i).bound
    (pairs_of (entry_at cert i).points) listed task.covers task.window some task.points

pub late_by_3 : PointsBound fp_meaning per_task_meaning (λ d. d) → FailedMeans fp_meaning per_task_meaning (λ d. d) →
    IsBounded fp_meaning per_task_meaning (λ d. d) (late_sheet 3) 0 5
late_by_3 law means = at_task _ _ _ (late_sheet 3) one_point 0 law means late_3_valid (λ o l. refl) (omega arith) (omega arith) one_point_meets

pub late_by_4 : PointsBound fp_meaning per_task_meaning (λ d. d) → FailedMeans fp_meaning per_task_meaning (λ d. d) →
    IsBounded fp_meaning per_task_meaning (λ d. d) (late_sheet 4) 0 7
late_by_4 law means = at_task _ _ _ (late_sheet 4) two_points 0 law means late_4_valid (λ o l. refl) (omega arith) (omega arith) two_points_meet

pub blocked : PointsBound fifo_meaning per_task_meaning (λ d. d) → FailedMeans fifo_meaning per_task_meaning (λ d. d) →
    IsBounded fifo_meaning per_task_meaning (λ d. d) blocking_sheet 0 8
blocked law means = at_task _ _ _ blocking_sheet blocking_cert 0 law means blocking_valid (λ o l. refl) (omega arith) (omega arith) blocking_meets

pub blocking : PointsBound fifo_meaning per_task_meaning (λ d. d) → FailedMeans fifo_meaning per_task_meaning (λ d. d) →
    IsBounded fifo_meaning per_task_meaning (λ d. d) blocking_sheet 1 4
blocking law means = at_task _ _ _ blocking_sheet blocking_cert 1 law means blocking_valid (λ o l. refl) (omega arith) (omega arith) blocking_meets
