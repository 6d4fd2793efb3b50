-- Sorting gives the jobs in the order of their arrivals and releases.
use Rattle.std.proofs.Common.{◌≡◌, ℕ, ◌+◌, ◌<◌, false, List, [], ◌∷◌, ◌++◌, length, refl, sym, ◌∙◌, ap, subst, inl, inr, arith, All}
use Rattle.std.specs.List.{Contains}
use Rattle.std.specs.List.Sorted.{IsPermutation, IsSorted, IsNonDecreasingBy}
use Rattle.std.specs.Cmp.{IsTotalOrder}
use Rattle.std.specs.Ordering.{is_lt}
use Rattle.std.proofs.lemmas.Bool.{cases_lt}
use Rattle.std.proofs.lemmas.List.{get_or_append_left, get_or_at, get_or_default, get_or_read, length-append}
use Rattle.std.proofs.lemmas.List.Elements.{All-get_or, All-from_get_or}
use Rattle.std.proofs.lemmas.List.Sorted.{All-permutation, Contains-permutation, sorted_far, ranks_by}
use Rattle.std.proofs.lemmas.Cmp.{then_total, on_total, nat_cmp_total}
use Rattle.std.proofs.lemmas.Bool.Decides.{nat_tests}
use Rattle.run_model.specs.declared.run.Run.{Run}
use Rattle.audit.specs.declared.arrivals.Arrival.{Arrival}
use Rattle.audit.specs.ArrivalOrder.{no_arrival, arrival_at, arrival_of, arrival_cmp, AreFirstArrivals, IsArrival, HasPlace, IsNoLater, IsOrder, IsReleaseOrder}

pub arrivals_none : (run : Run) (arrivals : List Arrival) → arrivals ≡ [] → AreFirstArrivals run 0 arrivals
arrivals_none run arrivals is = record { count = ap length is; each = λ k b. absurd (omega arith) }

longer : (xs : List Arrival) (a : Arrival) → length (xs ++ a ∷ []) ≡ length xs + 1
longer xs a = length-append xs (a ∷ [])

pub arrivals_more : (run : Run) (n : ℕ) (arrivals : List Arrival) (a : Arrival) → a ≡ arrival_of run n →
    AreFirstArrivals run n arrivals → AreFirstArrivals run (n + 1) (arrivals ++ a ∷ [])
arrivals_more run n arrivals a is h = record {
  count = omega (arith, longer arrivals a, h.count);
  each = λ k b. elim (cases_lt k n) [
    | inl c ↦ get_or_append_left arrivals (a ∷ []) no_arrival k (omega (arith, h.count)) ∙ h.each k c
    | inr c ↦
        let e : n ≡ k = omega arith in
        subst (λ i. arrival_at (arrivals ++ a ∷ []) i ≡ arrival_of run i) e (get_or_at arrivals a [] no_arrival n h.count ∙ is)
  ];
}

arrival_total : IsTotalOrder arrival_cmp
arrival_total =
    then_total (on_total (λ (a : Arrival). a.tick) nat_cmp_total)
    (then_total (on_total (λ (a : Arrival). a.release) nat_cmp_total) (on_total (λ (a : Arrival). a.job) nat_cmp_total))

-- a is no later than b, where b is not less
no_later : (a b : Arrival) → is_lt (arrival_cmp b a) ≡ false → IsNoLater a.tick a.release b.tick b.release
no_later a b h = elim (cases_lt a.tick b.tick) [
  | inl c ↦ inl c
  | inr c ↦ elim (cases_lt b.tick a.tick) [
    | inl d ↦ absurd (grind (arith, nat_tests))
    | inr d ↦ elim (cases_lt b.release a.release) [
      | inl e ↦ absurd (grind (arith, nat_tests))
      | inr e ↦ inr (omega arith, omega arith)
    ]
  ]
]

module _ (run : Run) (arrivals order : List Arrival) (given : AreFirstArrivals run (length run.jobs) arrivals) (moved : IsPermutation arrivals order) where
  all_arrivals : All (IsArrival run) order
  all_arrivals =
      All-permutation (IsArrival run) arrivals order moved
      (All-from_get_or (IsArrival run) arrivals no_arrival
      (λ k b. subst (IsArrival run) (sym (given.each k (omega (arith, given.count))))
      (record { listed = omega (arith, given.count); tick = refl; release = refl })))

  placed : (k : ℕ) → k < length run.jobs → HasPlace order k
  placed k b =
      let a = arrival_of run k in
      let inside : k < length arrivals = omega (arith, given.count) in
      let before : Contains arrivals a = (k, inside, get_or_default arrivals k a no_arrival inside ∙ given.each k b) in
      let after = Contains-permutation arrivals order a moved before in
      let is : a ≡ arrival_at order after.0 = get_or_read order after.0 a after.1 (sym after.2) no_arrival in
      record { place = after.0; within = after.1; is = ap (λ (v : Arrival). v.job) (sym is) }

  pub order_from : IsSorted arrival_cmp order → IsOrder run order
  order_from sorted = record {
    listed = λ i b. All-get_or (IsArrival run) order i no_arrival b all_arrivals;
    complete = placed;
    ascending = λ i j h b. no_later (arrival_at order i) (arrival_at order j)
        (sorted_far (λ x y. is_lt (arrival_cmp x y)) (ranks_by arrival_total (λ (a : Arrival). a)) order sorted i j no_arrival h b);
  }

  pub release_order_from : IsNonDecreasingBy (λ (a : Arrival). a.release) order → IsReleaseOrder run order
  release_order_from sorted = record {
    listed = λ i b. All-get_or (IsArrival run) order i no_arrival b all_arrivals;
    complete = placed;
    ascending = λ i j h b. sorted i j no_arrival h b;
  }
