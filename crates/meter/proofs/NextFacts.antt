use Rattle.std.proofs.Common.{◌≡◌, ℕ, ◌-◌, ◌≤◌, ◌<◌, ◌==◌, List, length, false, Some, None, sym, ◌∙◌, refl, subst, inl, inr, arith}
use Rattle.std.proofs.lemmas.Bool.{cases_lt, ne_eqb}
use Rattle.lists.specs.Searches.{IsFirstBelow}
use Rattle.lists.proofs.FirstFacts.{all_broken}
use Rattle.task_sheet.specs.SheetParts.{SheetParts}
use Rattle.task_sheet.specs.Sheets.{IsValidSheet}
use Rattle.policy.specs.PolicyMeaning.{PolicyMeaning}
use Rattle.policy.specs.Offsets.{compared_of, IsSame}
use Rattle.search_space.specs.PointLaws.{AcrossGap}
use Rattle.search_space.specs.Points.{same_at, IsPointAfter}
use Rattle.search_space.proofs.PointFacts.{same_true, first_after, none_after}
use Rattle.meter.specs.declared.tracks.Place.{Place}
use Rattle.meter.specs.Places.{place_of}
use Rattle.meter.specs.Soonests.{number_of, IsLeastOf}
use Rattle.meter.specs.Tracking.{AreCounted}

module _ (p : PolicyMeaning) (sheet : SheetParts) (i a : ℕ) (places : List Place) (changes : List ℕ) (counted : AreCounted p sheet i a places changes) where
  -- before the least change all is as at a
  same_to : (n : ℕ) → ((m : ℕ) → m < length changes → n ≤ number_of changes m) → (b : ℕ) → a ≤ b → b < n → b ≤ 1000000000 → IsSame p sheet i a b
  same_to n least b h l high o in_o =
      let here = counted.each o in_o in
      sym here.is ∙ sym (here.same b h (omega (arith, least o (omega (arith, counted.count)))) high)

  changed_at : (o n : ℕ) → o < length sheet.tasks → number_of changes o ≡ n → n ≤ 1000000000 → same_at p sheet i a n ≡ false
  changed_at o n in_o e high =
      let here = counted.each o in_o in
      let differs = subst (λ w. w ≤ 1000000000 → compared_of p sheet i w o ≡ (place_of places o).count → ⊥) e here.differs in
      all_broken (λ k. compared_of p sheet i a k == compared_of p sheet i n k) (length sheet.tasks) o in_o
      (ne_eqb _ _ (λ same. differs high (sym same ∙ sym here.is)))

  module _ (gap : AcrossGap p) (ok : IsValidSheet sheet) (in_i : i < length sheet.tasks) (below n : ℕ) (high : below ≤ 1000000000)
      (least : IsLeastOf changes below n) where
    pub next_some : n < below → IsFirstBelow (IsPointAfter p sheet i a) below (Some n)
    next_some less =
        let there = least.stands less in
        let in_o : there.at < length sheet.tasks = omega (arith, there.within, counted.count) in
        let later : a < n = omega (arith, (counted.each there.at in_o).later, there.is) in
        first_after p sheet gap ok i in_i a below n (record {
          after = omega (arith, later);
          order = omega (arith, later);
          within = omega (arith, less);
          same = same_true p sheet i a (n - 1) (same_to n least.least (n - 1) (omega (arith, later)) (omega (arith, later)) (omega (arith, less, high)));
          other = inr (changed_at there.at n in_o there.is (omega (arith, less, high)));
        }) less

    pub next_none : below ≤ n → IsFirstBelow (IsPointAfter p sheet i a) below None
    next_none end = elim (cases_lt a below) [
      | inr past ↦ λ k l point. absurd (omega (arith, point.later))
      | inl before ↦ none_after p sheet gap ok i in_i a below below (record {
        after = omega (arith, before);
        order = omega (arith, before);
        within = omega arith;
        same = same_true p sheet i a (below - 1)
            (same_to below (λ m b. omega (arith, least.least m b, end)) (below - 1) (omega (arith, before)) (omega (arith, before)) (omega (arith, high)));
        other = inl refl;
      }) (omega arith)
    ]
