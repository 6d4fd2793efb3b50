-- The queue, over one job more and one less.
use Rattle.std.proofs.Common.{◌≡◌, ◌≢◌, ℕ, ◌<◌, ◌==◌, ◌||◌, not, Bool, true, false, cond, List, length, Option, MatchOption, Some, None, IsSome, refl}
use Rattle.std.proofs.Common.{sym, ◌∙◌, ap, subst, inl, inr}
use Rattle.std.specs.Ordering.{is_gt}
use Rattle.std.specs.BTreeMap.{BTreeMap, get, Updates, is_at}
use Rattle.std.specs.Map.{lookup}
use Rattle.std.specs.Option.{is_some}
use Rattle.std.proofs.lemmas.Bool.{cases_Bool, cases_eq, and_parts, and_from, or_left, or_right, or_cases, both_ways, not-true, not_from_false}
use Rattle.std.proofs.lemmas.Bool.{eq-eqb, eqb-true, ne_eqb}
use Rattle.std.proofs.lemmas.List.{nil_from_length}
use Rattle.task_sheet.specs.SheetParts.{SheetParts}
use Rattle.task_sheet.specs.declared.tasks.Job.{Job}
use Rattle.policy.specs.PolicyMeaning.{PolicyMeaning}
use Rattle.urgency.specs.declared.rank.Rank.{Rank}
use Rattle.urgency.specs.Ranks.{rank_at, rank_of, rank_cmp}
use Rattle.urgency.specs.Queues.{IsEntry, IsQueue, Has, with_member, without, IsFirstEntry, IsMostUrgent}
use Rattle.urgency.proofs.RankFacts.{same_entry, itself, apart}

other_numbers : (k n : ℕ) (test : Bool) → ((k == n) || test) ≡ true → k ≢ n → test ≡ true
other_numbers k n test h ne = elim (or_cases (k == n) test h) [ inl e ↦ absurd (ne (eqb-true k n e)) | inr t ↦ t ]

module _ (p : PolicyMeaning) (sheet : SheetParts) (jobs : List Job) where
  pub queue_empty : (test : ℕ → Bool) (queue : BTreeMap Rank ℕ) → ((r : Rank) → get rank_cmp queue r ≡ None) →
      ((k : ℕ) → k < length jobs → test k ≡ false) → IsQueue p sheet jobs test queue
  queue_empty test queue none out = record {
    sound = λ r k h. let empty = none r in absurd (cc);
    complete = λ k b h. absurd (both_ways (test k) (out k b) h);
  }

  -- the same jobs
  pub queue_same : (test other : ℕ → Bool) (queue : BTreeMap Rank ℕ) →
      ((k : ℕ) → k < length jobs → other k ≡ test k) → IsQueue p sheet jobs test queue →
      IsQueue p sheet jobs other queue
  queue_same test other queue same q = record {
    sound = λ r k h. let old = q.sound r k h in record { listed = old.listed; waits = same k old.listed ∙ old.waits; rank = old.rank };
    complete = λ k b h. q.complete k b (sym (same k b) ∙ h);
  }

  -- one job more
  pub queue_with : (test : ℕ → Bool) (queue after : BTreeMap Rank ℕ) (j : Job) (n : ℕ) → Has jobs n j →
      Updates rank_cmp queue after (rank_at p sheet j n) (Some n) → IsQueue p sheet jobs test queue →
      IsQueue p sheet jobs (with_member test n) after
  queue_with test queue after j n has up q =
      let r : Rank = rank_at p sheet j n in
      let of_new : r ≡ rank_of p sheet jobs n = ap (λ (x : Job). rank_at p sheet x n) has.is in
      record {
        sound = λ s k h. elim (cases_Bool (is_at (rank_cmp r) s)) [
          | inl e ↦
              let got : get rank_cmp after s ≡ Some n = up.0 s ∙ ap (λ (b : Bool). cond b (Some n) (get rank_cmp queue s)) e in
              let is_k : n ≡ k = cc in
              let here : IsEntry p sheet jobs (with_member test n) s n =
              record { listed = has.listed; waits = or_left (n == n) (test n) (eq-eqb n n refl); rank = sym (same_entry r s e) ∙ of_new } in
              subst (λ i. IsEntry p sheet jobs (with_member test n) s i) is_k here
          | inr e ↦
              let old : IsEntry p sheet jobs test s k = q.sound s k (sym (up.2 s e) ∙ h) in
              record { listed = old.listed; waits = or_right (k == n) (test k) old.waits; rank = old.rank }
        ];
        complete = λ k b h. elim (cases_eq k n) [
          | inl e ↦
              let got : get rank_cmp after (rank_of p sheet jobs n) ≡ Some n = ap (λ (x : Rank). get rank_cmp after x) (sym of_new) ∙ up.1 in
              subst (λ i. get rank_cmp after (rank_of p sheet jobs i) ≡ Some i) (sym e) got
          | inr ne ↦ up.2 (rank_of p sheet jobs k) (apart p sheet jobs r k (λ e. ne (sym e))) ∙ q.complete k b (other_numbers k n (test k) h ne)
        ];
      }

  -- one job less
  pub queue_without : (test : ℕ → Bool) (queue after : BTreeMap Rank ℕ) (j : Job) (n : ℕ) → Has jobs n j →
      Updates rank_cmp queue after (rank_at p sheet j n) None → IsQueue p sheet jobs test queue →
      IsQueue p sheet jobs (without test n) after
  queue_without test queue after j n has up q =
      let r : Rank = rank_at p sheet j n in
      let of_it : r ≡ rank_of p sheet jobs n = ap (λ (x : Job). rank_at p sheet x n) has.is in
      record {
        sound = λ s k h. elim (cases_Bool (is_at (rank_cmp r) s)) [
          | inl e ↦
              let got : get rank_cmp after s ≡ None = up.0 s ∙ ap (λ (b : Bool). cond b None (get rank_cmp queue s)) e in
              absurd (cc)
          | inr e ↦
              let old : IsEntry p sheet jobs test s k = q.sound s k (sym (up.2 s e) ∙ h) in
              let ne : k ≢ n = λ same.
              (let is : s ≡ r = old.rank ∙ (ap (λ i. rank_of p sheet jobs i) same ∙ sym of_it) in
              both_ways (is_at (rank_cmp r) s) e (subst (λ (x : Rank). is_at (rank_cmp r) x ≡ true) (sym is) (itself r))) in
              record { listed = old.listed; waits = and_from (not (k == n)) (test k) (not_from_false (k == n) (ne_eqb k n ne)) old.waits; rank = old.rank }
        ];
        complete = λ k b h.
            let parts = and_parts (not (k == n)) (test k) h in
            let ne : k ≢ n = λ same. both_ways (k == n) (not-true (k == n) parts.0) (eq-eqb k n same) in
            up.2 (rank_of p sheet jobs k) (apart p sheet jobs r k (λ e. ne (sym e))) ∙ q.complete k b parts.1;
      }

  -- the first entry
  pub queue_first : (test : ℕ → Bool) (queue : BTreeMap Rank ℕ) (f : ℕ) → IsFirstEntry queue f →
      IsQueue p sheet jobs test queue → IsMostUrgent p sheet jobs test (Some f)
  queue_first test queue f first q =
      let here = q.sound first.rank f first.there in (
        here.listed,
        here.waits,
        (λ k b h.
            let there = q.complete k b h in
            let some : IsSome (get rank_cmp queue (rank_of p sheet jobs k)) = ap is_some there in
            subst (λ (x : Rank). is_gt (rank_cmp x (rank_of p sheet jobs k)) ≡ false) here.rank (first.first (rank_of p sheet jobs k) some)),
      )

  pub queue_none : (test : ℕ → Bool) (queue : BTreeMap Rank ℕ) → length queue.entries ≡ 0 →
      IsQueue p sheet jobs test queue → IsMostUrgent p sheet jobs test None
  queue_none test queue empty q = λ k b. elim (cases_Bool (test k)) [
    | inr f ↦ f
    | inl h ↦
        let there = q.complete k b h in
        let none : get rank_cmp queue (rank_of p sheet jobs k) ≡ None =
        ap (lookup (is_at (rank_cmp (rank_of p sheet jobs k)))) (nil_from_length queue.entries empty) in
        absurd (cc)
  ]

  pub queue_top : (test : ℕ → Bool) (queue : BTreeMap Rank ℕ) (first : Option ℕ) →
      IsQueue p sheet jobs test queue → MatchOption first (length queue.entries ≡ 0) (IsFirstEntry queue) →
      IsMostUrgent p sheet jobs test first
  queue_top test queue None q h = queue_none test queue h q
  queue_top test queue (Some f) q h = queue_first test queue f h q
