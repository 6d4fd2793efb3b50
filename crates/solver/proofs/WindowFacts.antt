-- Tasks that ask for the same have the same windows.
use Rattle.std.proofs.Common.{◌≡◌, ℕ, ◌+◌, ◌*◌, ◌<◌, Bool, Some, cond, length, ap, arith}
use Rattle.lists.specs.Sums.{sum_below}
use Rattle.lists.specs.Searches.{IsLeastTo}
use Rattle.lists.proofs.SumFacts.{sum_same}
use Rattle.curve.specs.Curves.{alpha_of}
use Rattle.task_sheet.specs.SheetParts.{SheetParts}
use Rattle.task_sheet.specs.Sheets.{task_at}
use Rattle.policy.specs.PolicyMeaning.{PolicyMeaning}
use Rattle.preemption.specs.CutMeaning.{CutMeaning}
use Rattle.demand.specs.Demand.{class_part_of, window_need_of}
use Rattle.demand.specs.Meeting.{IsWindow}
use Rattle.solver.specs.Windows.{AskSame}

module _ (p : PolicyMeaning) (m : CutMeaning) (sheet : SheetParts) (i j : ℕ) where
  module _ (same : (o : ℕ) → o < length sheet.tasks → p.class sheet i o ≡ p.class sheet j o) where
    part_same : (l o : ℕ) → o < length sheet.tasks → class_part_of p sheet i l o ≡ class_part_of p sheet j l o
    part_same l o b = ap (λ (c : Bool). cond c ((task_at sheet o).cost * alpha_of (task_at sheet o).curve (l + (task_at sheet o).jitter)) 0) (same o b)

    parts_same : (l : ℕ) → sum_below (class_part_of p sheet i l) (length sheet.tasks) ≡ sum_below (class_part_of p sheet j l) (length sheet.tasks)
    parts_same l = sum_same (class_part_of p sheet i l) (class_part_of p sheet j l) (length sheet.tasks) (part_same l)

    -- classes that are the same ask for the same, so the delays are the same where the whole is at 0
    pub same_need : window_need_of p m sheet i 0 ≡ window_need_of p m sheet j 0 → AskSame p m sheet i j
    unfolding window_need_of
    same_need e l = omega (arith, e, parts_same 0, parts_same l)

  pub window_stays : (sbf : ℕ → ℕ) (horizon window : ℕ) → AskSame p m sheet i j →
      IsLeastTo (IsWindow p m sbf sheet i) horizon (Some window) → IsLeastTo (IsWindow p m sbf sheet j) horizon (Some window)
  window_stays sbf horizon window same least = (
    least.0,
    record {
      holds = record { positive = least.1.holds.positive; enough = omega (arith, same window, least.1.holds.enough) };
      least = λ k h. least.1.least k (record { positive = h.positive; enough = omega (arith, same k, h.enough) });
    },
  )
