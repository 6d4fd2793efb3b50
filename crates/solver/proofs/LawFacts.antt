use Rattle.std.proofs.Common.{◌≡◌, ℕ, zero, suc, ◌+◌, ◌≤◌, add-one, arith}
use Rattle.task_sheet.specs.SheetParts.{SheetParts}
use Rattle.task_sheet.specs.Sheets.{IsValidSheet}
use Rattle.policy.specs.PolicyMeaning.{PolicyMeaning}
use Rattle.preemption.specs.CutLaws.{Serves}
use Rattle.preemption.specs.CutMeaning.{CutMeaning}
use Rattle.demand.specs.DemandLaws.{NeedFits, DemandGrows, NeedFalls}
use Rattle.demand.proofs.MeetingFacts.{rises_to}
use Rattle.search_space.specs.PointLaws.{AcrossGap}
use Rattle.solver.specs.Laws.{Laws}

-- of so many ticks no more are supplied
pub supplied_within : (sbf : ℕ → ℕ) → sbf 0 ≡ 0 → ((d : ℕ) → sbf (d + 1) ≤ sbf d + 1) → (d : ℕ) → sbf d ≤ d
supplied_within sbf starts steps zero = omega (arith, starts)
supplied_within sbf starts steps (suc d) = omega (arith, supplied_within sbf starts steps d, rw add-one at (steps d))

-- demand and points keep their laws, and the supply does not fall
pub laws_hold : (p : PolicyMeaning) (m : CutMeaning) (sbf : ℕ → ℕ) (sheet : SheetParts) → NeedFits p m → DemandGrows p m →
    NeedFalls p m → AcrossGap p → IsValidSheet sheet → Serves m sheet →
    sbf 0 ≡ 0 → ((d : ℕ) → (sbf d ≤ sbf (d + 1)) × (sbf (d + 1) ≤ sbf d + 1)) → Laws p m sbf sheet
laws_hold p m sbf sheet fits grow fall gap valid served starts steps = record {
  valid = valid;
  rises = λ d. (steps d).0;
  within = supplied_within sbf starts (λ d. (steps d).1);
  need_grows = λ i a x y in_range le. (grow sheet valid i in_range).need a x y le;
  window_grows = λ i k l in_range le. (grow sheet valid i in_range).window_need k l le;
  need_fits = λ i a l in_range below. fits sheet valid served i a l in_range below;
  across_gap = λ i from to a x in_range le lt same. fall sheet valid i from a x in_range le (gap sheet valid i from a to in_range le lt same);
}

-- supply does not fall
pub grows : {p : PolicyMeaning} {m : CutMeaning} (sbf : ℕ → ℕ) {sheet : SheetParts} → Laws p m sbf sheet → (d e : ℕ) → d ≤ e → sbf d ≤ sbf e
grows sbf laws d e h = rises_to sbf laws.rises d e h
