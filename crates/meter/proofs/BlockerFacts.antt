use Rattle.std.proofs.Common.{◌≡◌, ℕ, ◌≤◌, ◌<◌, length, arith, ap, ◌∙◌}
use Rattle.lists.specs.Sums.{max_below}
use Rattle.lists.proofs.SumFacts.{max_at_least}
use Rattle.task_sheet.specs.SheetParts.{SheetParts}
use Rattle.task_sheet.specs.Sheets.{IsValidSheet}
use Rattle.policy.specs.PolicyMeaning.{PolicyMeaning}
use Rattle.policy.specs.PolicyLaws.{IsLawfulPolicy}
use Rattle.preemption.specs.CutMeaning.{CutMeaning}
use Rattle.demand.specs.Demand.{block_of, blocking_of}
use Rattle.demand.proofs.Gaps.{block_less}
use Rattle.meter.specs.declared.blockers.Blocker.{Blocker}
use Rattle.meter.specs.Blockers.{IsBlocker}

block_within : (p : PolicyMeaning) (m : CutMeaning) (sheet : SheetParts) (i a o : ℕ) → o < length sheet.tasks →
    block_of p m sheet i a o ≤ blocking_of p m sheet i a
unfolding blocking_of
block_within p m sheet i a o b = max_at_least (block_of p m sheet i a) (length sheet.tasks) o b

-- one that blocks as long at a later offset is the longest there
pub kept : (p : PolicyMeaning) (m : CutMeaning) (sheet : SheetParts) → IsValidSheet sheet → IsLawfulPolicy p sheet →
    (i from a : ℕ) → i < length sheet.tasks → from ≤ a →
    (b : Blocker) → IsBlocker p m sheet i from b → block_of p m sheet i a b.task ≡ b.block → IsBlocker p m sheet i a b
kept p m sheet ok lawful i from a in_i h b before same = record {
  in_range = before.in_range;
  greatest = omega (arith, same, before.greatest, block_within p m sheet i a b.task before.in_range, block_less p m sheet ok lawful i in_i from a h);
  high = before.high;
}

-- where nothing blocks, nothing does at a later offset
pub none_kept : (p : PolicyMeaning) (m : CutMeaning) (sheet : SheetParts) → IsValidSheet sheet → IsLawfulPolicy p sheet →
    (i from a : ℕ) → i < length sheet.tasks → from ≤ a →
    (b : Blocker) → IsBlocker p m sheet i from b → b.block ≡ 0 → IsBlocker p m sheet i a b
none_kept p m sheet ok lawful i from a in_i h b before none = record {
  in_range = before.in_range;
  greatest = omega (arith, none, before.greatest, block_less p m sheet ok lawful i in_i from a h);
  high = before.high;
}

pub found : (p : PolicyMeaning) (m : CutMeaning) (sheet : SheetParts) (i a n : ℕ) (b : Blocker) → b.task < length sheet.tasks → b.block ≤ 1000000000 →
    b.block ≡ max_below (block_of p m sheet i a) n → n ≡ length sheet.tasks → IsBlocker p m sheet i a b
unfolding blocking_of
found p m sheet i a n b in_range high e all = record { in_range = in_range; greatest = e ∙ ap (max_below (block_of p m sheet i a)) all; high = high }
