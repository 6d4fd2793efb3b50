-- The least point after an offset tells whether a gap is closed.
use Rattle.std.proofs.Common.{◌≡◌, ℕ, ◌-◌, ◌<◌, ◌≤◌, ◌==◌, ◌||◌, Bool, true, false, not, Some, None, length, sym, ◌∙◌, ap, arith, inl, inr}
use Rattle.std.proofs.lemmas.Bool.{cases_Bool, both_ways, ne_eqb}
use Rattle.lists.specs.Searches.{IsFirstBelow}
use Rattle.task_sheet.specs.SheetParts.{SheetParts}
use Rattle.task_sheet.specs.Sheets.{IsValidSheet}
use Rattle.policy.specs.PolicyMeaning.{PolicyMeaning}
use Rattle.policy.specs.Offsets.{IsSame}
use Rattle.search_space.specs.Points.{same_at, is_point, IsPointAfter}
use Rattle.search_space.specs.PointLaws.{AcrossGap}
use Rattle.search_space.proofs.PointFacts.{same_means, same_true, between}

-- an offset that is the same as the one before is no point
no_point : (p : PolicyMeaning) (sheet : SheetParts) (i n : ℕ) → 0 < n → IsSame p sheet i (n - 1) n → is_point p sheet i n ≡ false
unfolding is_point
no_point p sheet i n some same =
    let first : (n == 0) ≡ false = ne_eqb n 0 (λ e. omega (arith, e)) in
    ap (λ (b : Bool). b || not (same_at p sheet i (n - 1) n)) first ∙ ap not (same_true p sheet i (n - 1) n same)

module _ (p : PolicyMeaning) (sheet : SheetParts) (gap : AcrossGap p) (ok : IsValidSheet sheet) (i a q : ℕ)
    (in_range : i < length sheet.tasks) (order : a < q) where
  pub gap_none : IsFirstBelow (IsPointAfter p sheet i a) q None → false ≡ not (same_at p sheet i a (q - 1))
  gap_none none =
      let quiet : (n : ℕ) → a < n → n ≤ q - 1 → is_point p sheet i n ≡ false = λ n later within.
      elim (cases_Bool (is_point p sheet i n)) [
        | inl point ↦ absurd (none n (omega arith) (record { later = later; point = point }))
        | inr other ↦ other
      ] in
      ap not (sym (same_true p sheet i a (q - 1) (between p sheet i a (q - 1) (omega arith) quiet)))

  pub gap_some : (n : ℕ) → IsFirstBelow (IsPointAfter p sheet i a) q (Some n) → true ≡ not (same_at p sheet i a (q - 1))
  gap_some n first = elim (cases_Bool (same_at p sheet i a (q - 1))) [
    | inr other ↦ ap not (sym other)
    | inl same ↦
        let point = first.1 in
        let all = same_means p sheet i a (q - 1) same in
        let here = gap sheet ok i a n q in_range (omega (arith, point.later)) first.0 all in
        let before = gap sheet ok i a (n - 1) q in_range (omega (arith, point.later)) (omega (arith, first.0, point.later)) all in
        absurd (both_ways (is_point p sheet i n) (no_point p sheet i n (omega (arith, point.later)) (λ o l. sym (before o l) ∙ here o l)) point.point)
  ]
