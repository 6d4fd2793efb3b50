-- A job of a task that a seed makes has few segments.
use Rattle.std.proofs.Common.{◌≡◌, ℕ, suc, ◌+◌, ◌*◌, ◌/◌, ◌%◌, ◌<◌, ◌≤◌, ◌==◌, true, List, [], ◌∷◌, length, get_or, sum, inl, inr, arith}
use Rattle.std.specs.Prelude.{nat_le}
use Rattle.std.specs.List.{sum_by}
use Rattle.std.proofs.lemmas.Bool.{cases_eq, and_parts, eq-eqb, ne_eqb, eqb-true, leb-true}
use Rattle.std.proofs.lemmas.List.Sums.{sum_by-cons}
use Rattle.lists.specs.Ranges.{is_between}
use Rattle.task_sheet.specs.declared.tasks.Job.{Job}
use Rattle.preemption.specs.Cuts.{each_within, are_lengths_within, has_none, segments_fit, fits}
use Rattle.exercise.specs.GeneratedSheet.{cost_of, halves, cut_by, generated_task}
use Rattle.exercise.proofs.WordFacts.{cost_high, scale_high}

none_few : (segs : List ℕ) → has_none segs ≡ true → length segs ≤ 50
none_few [] h = omega arith
none_few (x ∷ xs) h = absurd (cc)

as_many : (segs others : List ℕ) → each_within segs others ≡ true → length segs ≤ length others
as_many [] others h = omega arith
as_many (x ∷ xs) [] h = absurd (cc)
as_many (x ∷ xs) (y ∷ ys) h =
    let parts = and_parts _ (each_within xs ys) h in
    omega (arith, as_many xs ys parts.1)

halves_few : (cost : ℕ) → length (halves cost) ≤ 2
halves_few cost = elim (cases_eq cost 1) [
  | inl e ↦ rw (eq-eqb cost 1 e) (omega arith)
  | inr ne ↦ rw (ne_eqb cost 1 ne) (omega arith)
]

-- segments of at least one tick are no more than their sum
positive_few : (bound : ℕ) (segs : List ℕ) → are_lengths_within bound segs ≡ true → length segs ≤ sum segs
positive_few bound [] h = omega arith
positive_few bound (x ∷ xs) h =
    let parts = and_parts _ (are_lengths_within bound xs) h in
    let low : 1 ≤ x = leb-true 1 x (and_parts _ _ parts.0).0 in
    rw (sum_by-cons (λ (n : ℕ). n) x xs) (omega (arith, positive_few bound xs parts.1))

few_by : (turn cost : ℕ) (j : Job) → j.cost ≤ 50 → segments_fit (cut_by turn cost) j ≡ true → length j.segs ≤ 50
few_by turn cost j low h = elim (cases_eq turn 0) [
  | inl e ↦ none_few j.segs (rw (eq-eqb turn 0 e) at h)
  | inr a ↦ elim (cases_eq turn 1) [
    | inl e ↦ none_few j.segs (rw (ne_eqb turn 0 a, eq-eqb turn 1 e) at h)
    | inr b ↦ elim (cases_eq turn 2) [
      | inl e ↦
          let parts = and_parts (each_within j.segs (halves cost)) (sum j.segs == j.cost) (rw (ne_eqb turn 0 a, ne_eqb turn 1 b, eq-eqb turn 2 e) at h) in
          omega (arith, as_many j.segs (halves cost) parts.0, halves_few cost)
      | inr d ↦
          let parts = and_parts (are_lengths_within ((cost + 1) / 2) j.segs) (sum j.segs == j.cost)
          (rw (ne_eqb turn 0 a, ne_eqb turn 1 b, ne_eqb turn 2 d) at h) in
          omega (arith, positive_few ((cost + 1) / 2) j.segs parts.0, eqb-true (sum j.segs) j.cost parts.1)
    ]
  ]
]

pub segments_few : (seed n o : ℕ) (j : Job) → fits (generated_task seed n o) j ≡ true → length j.segs ≤ 50
unfolding generated_task
segments_few seed n o j h =
    let parts = and_parts (is_between 1 (cost_of seed o) j.cost) (segments_fit (cut_by (o % 4) (cost_of seed o)) j) h in
    let high : j.cost ≤ cost_of seed o = leb-true j.cost (cost_of seed o) (and_parts (nat_le 1 j.cost) (nat_le j.cost (cost_of seed o)) parts.0).1 in
    few_by (o % 4) (cost_of seed o) j (omega (arith, cost_high seed o, scale_high seed o)) parts.1

pub sum_by_most : {X : Type 0} (f : X → ℕ) (d : X) (bound : ℕ) (xs : List X) →
    ((k : ℕ) → k < length xs → f (get_or xs k d) ≤ bound) → sum_by f xs ≤ length xs * bound
sum_by_most f d bound [] h = omega arith
sum_by_most f d bound (x ∷ xs) h =
    rw (sum_by-cons f x xs) (omega (arith, h 0 (omega arith), sum_by_most f d bound xs (λ k b. h (suc k) (omega arith))))
