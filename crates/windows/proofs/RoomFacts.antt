-- Windows that begin with an arrival less than a horizon ago decide how many jobs may arrive.
use Rattle.std.proofs.Common.{◌≡◌, ℕ, zero, suc, ◌+◌, ◌-◌, ◌<◌, ◌≤◌, ◌⊎◌, false, List, length, get_or, min, sym, ap, subst, inl, inr, arith, leb}
use Rattle.std.proofs.lemmas.Bool.{cases_lt, lt-leb, le-leb}
use Rattle.lists.proofs.FirstFacts.{all_from, all_broken}
use Rattle.lists.proofs.SearchFacts.{greatest_is}
use Rattle.curve.specs.declared.prefix.Step.{Step}
use Rattle.curve.specs.CurveValue.{Curve}
use Rattle.curve.specs.Curves.{alpha_of}
use Rattle.curve.specs.Validity.{IsCurve}
use Rattle.curve.proofs.CurveFacts.{alpha_mono}
use Rattle.windows.specs.Arrivals.{arrived_in, admits_in, allowance_in, IsPast}
use Rattle.windows.specs.Steps.{step_at, IsLastStep}
use Rattle.windows.proofs.ArrivalFacts.{arrived_least, arrived_most, arrived_split}
use Rattle.windows.proofs.StepFacts.{alpha_is, alpha_more, first_step}

-- some window that ends with t has room for no more than this
abbrev pub IsTight : Curve → List ℕ → ℕ → ℕ → Type 0
IsTight c xs t room = (s : ℕ) × (s ≤ t) × (alpha_of c (t + 1 - s) ≤ arrived_in xs s t + room)

-- what is known where i arrivals are left to look at, and a step has begun
pub record IsScanned (c : Curve) (xs : List ℕ) (t i step room : ℕ) : Type 0 where
  pub short : i ≤ length xs
  pub listed : step < length c.steps
  pub begun : (k : ℕ) → k < i → (step_at c.steps step).time + get_or xs k 0 ≤ t + 1
  pub most : room ≤ alpha_of c 1
  pub tight : (room ≡ alpha_of c 1) ⊎ IsTight c xs t room
  pub fit : (s : ℕ) → s ≤ t → ((k : ℕ) → k < i → get_or xs k 0 < s) → arrived_in xs s t + room ≤ alpha_of c (t + 1 - s)

module _ (c : Curve) (ok : IsCurve c) (xs : List ℕ) (t : ℕ) (past : IsPast c xs t) where
  pub scan_start : (room : ℕ) → room ≡ (step_at c.steps 0).value → IsScanned c xs t (length xs) 0 room
  scan_start room e =
      let first = first_step c ok in
      let one : alpha_of c 1 ≡ (step_at c.steps 0).value = alpha_is c ok 1 0 ok.horizon_low first.last in
      let is : room ≡ alpha_of c 1 = omega arith in
      record {
        short = omega arith;
        listed = first.listed;
        begun = λ k b. omega (arith, first.time, past.before k b);
        most = omega arith;
        tight = inl is;
        fit = λ s h all. omega (arith, arrived_most xs s t (length xs) (λ k a b. all k a), alpha_mono c ok 1 (t + 1 - s) (omega arith));
      }

  -- an arrival's window has room for what has come
  enough : (j : ℕ) → j < length xs → length xs - j ≤ alpha_of c (t + 1 - get_or xs j 0)
  enough j b =
      let at = past.before j b in
      omega (
        arith,
        arrived_least xs (get_or xs j 0) t j (λ k a b. past.ascending j k 0 a b) past.before,
        past.within (get_or xs j 0) t (omega arith),
        alpha_mono c ok (t - get_or xs j 0) (t + 1 - get_or xs j 0) (omega arith),
      )

  scan_more : (j step later room new : ℕ) → IsScanned c xs t (suc j) step room →
      IsLastStep c.steps (t + 1 - get_or xs j 0) later →
      (new ≡ room) ⊎ (new ≡ alpha_of c (t + 1 - get_or xs j 0) - (length xs - j)) → new ≤ room →
      new ≤ alpha_of c (t + 1 - get_or xs j 0) - (length xs - j) → IsScanned c xs t j later new
  scan_more j step later room new old reached which le_old le_new =
      let short = old.short in
      let b : j < length xs = omega arith in
      record {
        short = omega arith;
        listed = reached.listed;
        begun = λ k a. omega (arith, reached.begun, past.before j b, past.ascending k j 0 (omega arith) b);
        most = omega (arith, old.most);
        tight = elim which [
          | inl e ↦ subst (λ r. (r ≡ alpha_of c 1) ⊎ IsTight c xs t r) (sym e) old.tight
          | inr e ↦ inr (
            get_or xs j 0,
            (let at = past.before j b in omega arith),
            omega (arith, arrived_least xs (get_or xs j 0) t j (λ k a b. past.ascending j k 0 a b) past.before, enough j b),
          )
        ];
        fit = λ s h all. elim (cases_lt (get_or xs j 0) s) [
          | inl l ↦ omega (
            arith,
            old.fit s h
                (λ k a. elim (cases_lt k j) [ inl d ↦ all k d | inr d ↦ (let e : j ≡ k = omega arith in subst (λ i. get_or xs i 0 < s) e l) ]),
          )
          | inr l ↦ omega (arith, arrived_most xs s t j (λ k a b. all k a), enough j b, alpha_mono c ok (t + 1 - get_or xs j 0) (t + 1 - s) (omega arith))
        ];
      }

  scan_least : (j step later room left new : ℕ) → IsScanned c xs t (suc j) step room →
      IsLastStep c.steps (t + 1 - get_or xs j 0) later → t - get_or xs j 0 < c.horizon →
      left + (length xs - j) ≡ (step_at c.steps later).value → new ≡ min room left →
      IsScanned c xs t j later new
  scan_least j step later room left new old reached near is least =
      let short = old.short in
      let value : alpha_of c (t + 1 - get_or xs j 0) ≡ (step_at c.steps later).value = alpha_is c ok (t + 1 - get_or xs j 0) later (omega arith) reached in
      scan_more j step later room new old reached
      (elim (cases_lt left room) [ inl l ↦ inr (omega arith) | inr l ↦ inl (omega arith) ]) (omega arith) (omega arith)

  -- the arrivals from the next one on are no more than the step's value
  enough_at : (j step later room : ℕ) → IsScanned c xs t (suc j) step room →
      IsLastStep c.steps (t + 1 - get_or xs j 0) later → t - get_or xs j 0 < c.horizon →
      length xs - j ≤ (step_at c.steps later).value
  enough_at j step later room old reached near =
      let short = old.short in
      omega (arith, enough j (omega arith), alpha_is c ok (t + 1 - get_or xs j 0) later (omega arith) reached)

  -- a window that begins after the next arrival has room
  after_it : (j step room s : ℕ) → IsScanned c xs t (suc j) step room → s ≤ t → get_or xs j 0 < s →
      arrived_in xs s t + room ≤ alpha_of c (t + 1 - s)
  after_it j step room s scan l after = scan.fit s l (λ k a. (let short = scan.short in omega (arith, past.ascending k j 0 (omega arith) (omega arith))))

  -- where the next arrival is a horizon ago, every window has room
  every : (j step room d s : ℕ) → IsScanned c xs t (suc j) step room → c.horizon ≤ t - get_or xs j 0 → t - s ≤ d →
      s ≤ t → arrived_in xs s t + room ≤ alpha_of c (t + 1 - s)
  every j step room zero s scan far h l = (let p = ok.horizon_low in after_it j step room s scan l (omega arith))
  every j step room (suc d) s scan far h l = elim (cases_lt (get_or xs j 0) s) [
    | inl after ↦ after_it j step room s scan l after
    | inr early ↦
        let p = ok.horizon_low in
        let rest = every j step room d (s + c.horizon) scan far (omega arith) (omega arith) in
        let e : t + 1 - s ≡ t + 1 - (s + c.horizon) + c.horizon = omega arith in
        let f : s + c.horizon - s ≡ c.horizon = omega arith in
        omega (
          arith,
          rest,
          arrived_split xs s (s + c.horizon) t,
          past.within s (s + c.horizon) (omega arith),
          ap (alpha_of c) e,
          ap (alpha_of c) f,
          alpha_more c ok (t + 1 - (s + c.horizon)),
        )
  ]

  at_next : (i step room : ℕ) → 0 < i → IsScanned c xs t i step room → IsScanned c xs t (suc (i - 1)) step room
  at_next i step room some scan = let e : i ≡ suc (i - 1) = omega arith in subst (λ (n : ℕ). IsScanned c xs t n step room) e scan

  -- the next arrival, less than a horizon ago, in the words of the loop
  pub enough_next : (steps : List Step) → steps ≡ c.steps → (i step later room : ℕ) → 0 < i →
      IsScanned c xs t i step room → IsLastStep steps (t + 1 - get_or xs (i - 1) 0) later →
      t - get_or xs (i - 1) 0 < c.horizon → length xs - (i - 1) ≤ (step_at steps later).value
  enough_next steps is i step later room some scan reached near =
      omega (
        arith,
        enough_at (i - 1) step later room (at_next i step room some scan)
            (subst (λ (l : List Step). IsLastStep l (t + 1 - get_or xs (i - 1) 0) later) is reached) near,
        ap (λ (l : List Step). (step_at l later).value) is,
      )

  pub scan_next : (steps : List Step) → steps ≡ c.steps → (i step later room new : ℕ) → 0 < i →
      IsScanned c xs t i step room → IsLastStep steps (t + 1 - get_or xs (i - 1) 0) later →
      t - get_or xs (i - 1) 0 < c.horizon →
      new ≡ min room ((step_at steps later).value - (length xs - (i - 1))) → IsScanned c xs t (i - 1) later new
  scan_next steps is i step later room new some scan reached near least =
      let fits = enough_next steps is i step later room some scan reached near in
      scan_least (i - 1) step later room ((step_at steps later).value - (length xs - (i - 1))) new (at_next i step room some scan)
      (subst (λ (l : List Step). IsLastStep l (t + 1 - get_or xs (i - 1) 0) later) is reached) near
      (omega (arith, ap (λ (l : List Step). (step_at l later).value) is)) least

  -- no number above the room passes
  none_above : (room k : ℕ) → ((room ≡ alpha_of c 1) ⊎ IsTight c xs t room) → room < k → k ≤ alpha_of c 1 →
      admits_in c xs t k ≡ false
  none_above room k tight a b = elim tight [
    | inl e ↦ absurd (omega arith)
    | inr w ↦ all_broken (λ s. leb (arrived_in xs s t + k) (alpha_of c (t + 1 - s))) (t + 1) w.0 (omega (arith, w.1)) (lt-leb _ _ (omega (arith, w.2)))
  ]

  allowance_is : (room : ℕ) → room ≤ alpha_of c 1 → ((room ≡ alpha_of c 1) ⊎ IsTight c xs t room) →
      ((s : ℕ) → s ≤ t → arrived_in xs s t + room ≤ alpha_of c (t + 1 - s)) → room ≡ allowance_in c xs t
  unfolding allowance_in
  allowance_is room most tight all =
      sym (greatest_is (admits_in c xs t) room (alpha_of c 1) most
      (inr (all_from (λ s. leb (arrived_in xs s t + room) (alpha_of c (t + 1 - s))) (t + 1)
      (λ s b. le-leb _ _ (all s (omega arith))))) (λ k a b. none_above room k tight a b))

  -- all arrivals have been looked at
  pub allowance_all : (i step room : ℕ) → i ≡ 0 → IsScanned c xs t i step room → room ≡ allowance_in c xs t
  allowance_all i step room none scan = allowance_is room scan.most scan.tight (λ s l. scan.fit s l (λ k a. absurd (omega arith)))

  -- the next arrival is a horizon ago
  pub allowance_far : (i step room : ℕ) → 0 < i → IsScanned c xs t i step room →
      c.horizon ≤ t - get_or xs (i - 1) 0 → room ≡ allowance_in c xs t
  allowance_far i step room some scan far =
      allowance_is room scan.most scan.tight (λ s l. every (i - 1) step room (t - s) s (at_next i step room some scan) far (omega arith) l)

  -- no room is left
  pub allowance_none : (i step room : ℕ) → IsScanned c xs t i step room → room ≡ 0 → room ≡ allowance_in c xs t
  unfolding allowance_in
  allowance_none i step room scan none =
      sym (greatest_is (admits_in c xs t) room (alpha_of c 1) (omega arith) (inl none) (λ k a b. none_above room k scan.tight a b))
