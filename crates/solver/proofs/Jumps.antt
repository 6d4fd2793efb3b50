use Rattle.std.proofs.Common.{◌≡◌, ℕ, ◌+◌, ◌-◌, ◌<◌, ◌≤◌, arith, inl, inr, max, sym, subst}
use Rattle.std.proofs.lemmas.Bool.{cases_lt}
use Rattle.lists.specs.Searches.{IsLeast}
use Rattle.task_sheet.specs.SheetParts.{SheetParts}
use Rattle.task_sheet.specs.Sheets.{task_at}
use Rattle.policy.specs.PolicyMeaning.{PolicyMeaning}
use Rattle.preemption.specs.CutMeaning.{CutMeaning}
use Rattle.demand.specs.Demand.{rest_of, need_of, window_need_of}
use Rattle.demand.specs.Meeting.{IsWindow, MeetsEnd, MeetsBound, BoundMeets}
use Rattle.demand.proofs.MeetingFacts.{Reaches, reaches, from_reach}
use Rattle.solver.specs.Laws.{Laws}
use Rattle.solver.proofs.LawFacts.{grows}

pub least_here : (P : ℕ → Type 0) (n : ℕ) → P n → ((k : ℕ) → k < n → P k → ⊥) → IsLeast P n
least_here P n h below = record {
  holds = h;
  least = λ k p. elim (cases_lt k n) [ inl c ↦ absurd (below k c p) | inr c ↦ c ];
}

module _ (p : PolicyMeaning) (m : CutMeaning) (sbf : ℕ → ℕ) (sheet : SheetParts) (laws : Laws p m sbf sheet) (i : ℕ) where
  pub window_here : (window next : ℕ) → 1 ≤ window → next ≤ window → window_need_of p m sheet i window ≤ sbf next →
      ((k : ℕ) → k < window → IsWindow p m sbf sheet i k → ⊥) → IsLeast (IsWindow p m sbf sheet i) window
  window_here window next one le h below = least_here _ _ (record { positive = one; enough = omega (arith, grows sbf laws next window le, h) }) below

  pub end_here : (a x next : ℕ) → next ≤ x → need_of p m sheet i a x ≤ sbf next →
      ((k : ℕ) → k < x → MeetsEnd p m sbf sheet i a k → ⊥) → IsLeast (MeetsEnd p m sbf sheet i a) x
  end_here a x next le h below = least_here _ _ (record { enough = omega (arith, grows sbf laws next x le, h) }) below

  pub bound_here : (a x done bound : ℕ) → IsLeast (λ n. need_of p m sheet i a x + rest_of m sheet i ≤ sbf n) done →
      bound ≡ max done x - a + (task_at sheet i).jitter → IsLeast (BoundMeets p m sbf sheet i a x) bound
  bound_here a x done bound least e =
      let reach = max done x - a in
      let serves : Reaches p m sbf sheet i a x reach =
      record { end = omega arith; enough = omega (arith, least.holds, grows sbf laws done (a + reach) (omega arith)) } in
      record {
        holds = record { covers = omega (arith, e); within = subst (MeetsBound p m sbf sheet i a x) (sym e) (from_reach p m sbf sheet i a x reach serves) };
        least = λ k h.
            let own = reaches p m sbf sheet i a x k h.covers h.within in
            omega (arith, e, h.covers, own.end, least.least (a + (k - (task_at sheet i).jitter)) own.enough);
      }

  -- where no supply up to the limit is enough, no bound up to it serves
  pub no_bound : (a x limit : ℕ) → ((n : ℕ) → n ≤ a + limit → need_of p m sheet i a x + rest_of m sheet i ≤ sbf n → ⊥) → (k : ℕ) →
      k ≤ limit → BoundMeets p m sbf sheet i a x k → ⊥
  no_bound a x limit none k le h = none (a + k - (task_at sheet i).jitter) (omega (arith, le)) h.within.enough
