-- A task that a seed makes is valid.
use Rattle.std.proofs.Common.{◌≡◌, ◌≢◌, ℕ, ◌+◌, ◌-◌, ◌/◌, ◌%◌, ◌^◌, ◌<◌, ◌≤◌, true, refl, sym, ◌∙◌, [], ◌∷◌, length, sum, arith, inl, inr}
use Rattle.std.specs.Prelude.{decimal}
use Rattle.std.specs.List.{list_all}
use Rattle.std.proofs.lemmas.Bool.{cases_eq, eq-eqb, ne_eqb, le-leb, and_from}
use Rattle.std.proofs.lemmas.Fmt.{decimal_by_steps, length-decimal-le, decimal_injective}
use Rattle.std.proofs.lemmas.List.Folds.{list_all-append}
use Rattle.std.proofs.lemmas.Nat.{mod_below}
use Rattle.lists.specs.Ranges.{is_between}
use Rattle.curve.proofs.CurveFacts.{periodic_valid}
use Rattle.task_sheet.specs.Limits.{no_point}
use Rattle.task_sheet.specs.Rules.{is_name, is_in_range, are_in_range}
use Rattle.task_sheet.specs.Sheets.{CutFits, IsTask}
use Rattle.task_sheet.proofs.RuleFacts.{positive_from}
use Rattle.exercise.specs.GeneratedSheet.{halves, cut_by, task_by}

pub between : (low high n : ℕ) → low ≤ n → n ≤ high → is_between low high n ≡ true
between low high n l h = and_from _ _ (le-leb low n l) (le-leb n high h)

-- digits are printable
printable : (n : ℕ) → n < 2 ^ 64 → list_all (is_between 33 126) (decimal n) ≡ true
printable = decimal_by_steps (λ n ds. list_all (is_between 33 126) ds ≡ true)
    (λ n l. and_from _ _ (between 33 126 (48 + n) (omega arith) (omega arith)) refl)
    (λ n ds l h. list_all-append (is_between 33 126) ds ((48 + n % 10) ∷ []) ∙ and_from _ _ h
    (and_from _ _ (between 33 126 (48 + n % 10) (omega arith) (omega (arith, mod_below n 10 (omega arith)))) refl))

name_fits : (i : ℕ) → i < 64 → is_name (116 ∷ decimal i) ≡ true
name_fits i l =
    let short : length (decimal i) ≤ 2 = length-decimal-le 2 i (omega arith) (omega arith) (omega arith) in
    and_from _ _ (between 1 32 (length (116 ∷ decimal i)) (omega arith) (omega arith))
    (and_from _ _ (between 33 126 116 (omega arith) (omega arith)) (printable i (omega arith)))

halves_fit : (cost : ℕ) → 1 ≤ cost → cost ≤ 1000000000 → (are_in_range 1000 (halves cost) ≡ true) × (sum (halves cost) ≡ cost)
halves_fit cost l h = elim (cases_eq cost 1) [
  | inl e ↦ rw (eq-eqb cost 1 e) (refl, sym e)
  | inr ne ↦
      let first : is_in_range (cost / 2) ≡ true = positive_from (cost / 2) (omega arith) (omega arith) in
      let second : is_in_range (cost - cost / 2) ≡ true = positive_from (cost - cost / 2) (omega arith) (omega arith) in
      rw (ne_eqb cost 1 ne) (and_from _ _ refl (and_from _ _ first (and_from _ _ second refl)), omega arith)
]

cut_fits : (turn cost : ℕ) → 1 ≤ cost → cost ≤ 1000000000 → CutFits cost (cut_by turn cost)
cut_fits turn cost l h = elim (cases_eq turn 0) [
  | inl e ↦ rw (eq-eqb turn 0 e) tt
  | inr a ↦ rw (ne_eqb turn 0 a) (elim (cases_eq turn 1) [
    | inl e ↦ rw (eq-eqb turn 1 e) tt
    | inr b ↦ rw (ne_eqb turn 1 b) (elim (cases_eq turn 2) [
      | inl e ↦ rw (eq-eqb turn 2 e) (halves_fit cost l h)
      | inr d ↦ rw (ne_eqb turn 2 d) (omega arith, omega arith)
    ])
  ])
]

pub task_valid : (i period cost : ℕ) → i < 64 → 1 ≤ period → period ≤ 1000000000 → 1 ≤ cost → cost ≤ 1000000000 → IsTask (task_by i period cost)
task_valid i period cost b l h d g = record {
  name = name_fits i b;
  cost_low = d;
  cost_high = g;
  deadline_low = l;
  deadline_high = h;
  priority_high = omega arith;
  jitter_high = omega arith;
  point = no_point;
  curve = periodic_valid period l h;
  cut = cut_fits (i % 4) cost d g;
}

pub names_differ : (i k period cost other more : ℕ) → i < k → k < 64 → (task_by i period cost).name ≢ (task_by k other more).name
names_differ i k period cost other more l b e =
    let digits : decimal i ≡ decimal k = cc in
    let same : i ≡ k = decimal_injective i k (omega arith) (omega arith) digits in
    absurd (omega arith)
