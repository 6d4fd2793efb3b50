use Rattle.std.proofs.Common.{◌≡◌, ℕ, zero, suc, ◌+◌, ◌-◌, ◌/◌, ◌<◌, ◌≤◌, ◌⊎◌, List, [], ◌∷◌, ◌++◌, length, get_or, refl, sym, ◌∙◌, ap, subst, arith, inl, inr}
use Rattle.std.proofs.lemmas.Bool.{cases_lt}
use Rattle.lists.specs.Sums.{max_below}
use Rattle.lists.proofs.SumFacts.{max_at_least}
use Rattle.supply_table.specs.TableParts.{TableParts}
use Rattle.supply_table.specs.Validity.{IsTable}
use Rattle.supply_table.specs.Floors.{count_in, is_supplied, on_of, floor_of, rises_to, times_of}
use Rattle.supply_table.specs.Ticks.{passing_below, wait_of}
use Rattle.supply_table.proofs.CountFacts.{count_split, count_round, count_cycle, count_mono}
use Rattle.supply_table.proofs.FloorFacts.{cycle_low, supplied_round, floor_low, floor_at, floor_zero, floor_step, floor_cycle}
use Rattle.supply_table.proofs.RiseFacts.{Grows, grows_low, rise_here, none_here}
use Rattle.supply_table.proofs.TickFacts.{IsNth, nth, nth_before, nth_after, length_passing}

-- f 1, .., f n
abbrev pub listed : (ℕ → ℕ) → ℕ → List ℕ
listed f zero = []
listed f (suc n) = listed f n ++ (f (suc n) ∷ [])

-- the value n is reached first at t
pub record IsReached (f : ℕ → ℕ) (n t : ℕ) : Type 0 where
  pub soon : (d : ℕ) → n ≤ f d → t ≤ d
  pub there : (d : ℕ) → t ≤ d → n ≤ f d

-- the numbers at which f rises are where it reaches its values
pub rises_listed : (f t : ℕ → ℕ) (top m : ℕ) → Grows f → f m ≤ top → ((n : ℕ) → 1 ≤ n → n ≤ top → IsReached f n (t n)) → rises_to f m ≡ listed t (f m)
rises_listed f t top zero g h reached = let z = g.begins in rw z refl
rises_listed f t top (suc m) g h reached = elim (cases_lt (f m) (f (suc m))) [
  | inr c ↦
      let same : f m ≡ f (suc m) = omega (arith, (g.step m).0) in
      none_here f m c ∙ rises_listed f t top m g (omega (arith, same)) reached ∙ ap (listed t) same
  | inl c ↦
      let next : suc (f m) ≡ f (suc m) = omega (arith, (g.step m).1) in
      let first = reached (suc (f m)) (omega arith) (omega (arith, next)) in
      let soon : t (suc (f m)) ≤ suc m = first.soon (suc m) (omega (arith, next)) in
      let at : suc m ≡ t (suc (f m)) = elim (cases_lt m (t (suc (f m)))) [
        | inl late ↦ omega (arith, late, soon)
        | inr early ↦ absurd (omega (arith, first.there m early))
      ] in
      rise_here f m c
      ∙ ap (λ (xs : List ℕ). xs ++ (suc m ∷ [])) (rises_listed f t top m g (omega (arith, next)) reached)
      ∙ ap (λ (w : ℕ). listed t (f m) ++ (w ∷ [])) at
      ∙ ap (listed t) next
]

max_bound : (f : ℕ → ℕ) (n d : ℕ) → ((i : ℕ) → i < n → f i ≤ d) → max_below f n ≤ d
max_bound f zero d h = omega arith
max_bound f (suc n) d h = omega (arith, max_bound f n d (λ i b. h i (omega arith)), h n (omega arith))

pub floor_grows : (table : TableParts) → IsTable table → Grows (floor_of table)
floor_grows table ok = record { begins = floor_zero table ok; step = floor_step table ok }

-- the supplied ticks of two cycles
abbrev pub ticks_of : TableParts → List ℕ
ticks_of table = passing_below (is_supplied table) (table.cycle + table.cycle)

-- how many of them one cycle has
abbrev pub once_of : TableParts → ℕ
once_of table = on_of table 0 table.cycle

module _ (table : TableParts) (ok : IsTable table) where
  round_split : (p : ℕ) → on_of table 0 (p + table.cycle) ≡ on_of table 0 p + once_of table
  round_split p =
      let at : 0 + p ≡ p = omega arith in
      omega (
        arith,
        count_split (is_supplied table) 0 p table.cycle,
        ap (λ (w : ℕ). on_of table w table.cycle) at,
        count_cycle (is_supplied table) table.cycle (supplied_round table) p,
      )

  pub length_ticks : length (ticks_of table) ≡ once_of table + once_of table
  length_ticks = omega (arith, length_passing (is_supplied table) (table.cycle + table.cycle), round_split table.cycle)

  tick : (j : ℕ) → j < once_of table + once_of table → IsNth (is_supplied table) j (get_or (ticks_of table) j 0)
  tick j h = nth (is_supplied table) (table.cycle + table.cycle) j (omega (arith, length_ticks))

  window_split : (p d : ℕ) → on_of table 0 (p + d) ≡ on_of table 0 p + on_of table p d
  window_split p d =
      let at : 0 + p ≡ p = omega arith in
      omega (arith, count_split (is_supplied table) 0 p d, ap (λ (w : ℕ). on_of table w d) at)

  -- from just after a supplied tick on, the floor says how soon the next ones come
  wait_high : (n d i : ℕ) → n ≤ once_of table → n ≤ floor_of table d → i < once_of table → wait_of (ticks_of table) n i ≤ d
  wait_high n d i top enough h =
      let here = tick i (omega arith) in
      let later = tick (i + n) (omega (arith, top)) in
      let v = get_or (ticks_of table) i 0 in
      let passed = nth_before (is_supplied table) i v (suc v) here (omega arith) in
      let at : i + n < on_of table 0 (suc v + d) = omega (arith, window_split (suc v) d, floor_low table ok (suc v) d, passed) in
      omega (arith, nth_after (is_supplied table) (i + n) (get_or (ticks_of table) (i + n) 0) (suc v + d) later at)

  -- and from any tick on, the tick before it
  wait_from : (n d p i : ℕ) → n ≤ once_of table → i < once_of table → wait_of (ticks_of table) n i ≤ d → on_of table 0 p ≡ suc i → n ≤ on_of table p d
  wait_from n d p i top h wait front =
      let here = tick i (omega arith) in
      let later = tick (i + n) (omega (arith, top)) in
      let v = get_or (ticks_of table) i 0 in
      let past = nth_after (is_supplied table) i v p here (omega (arith, front)) in
      omega (
        arith,
        nth_before (is_supplied table) (i + n) (get_or (ticks_of table) (i + n) 0) (p + d) later
            (omega (arith, wait, past)),
        window_split p d,
        front,
      )

  wait_low : (n d : ℕ) → 1 ≤ n → n ≤ once_of table → max_below (wait_of (ticks_of table) n) (once_of table) ≤ d → n ≤ floor_of table d
  wait_low n d low top waits =
      let at = floor_at table ok d in
      let p = at.place in
      let within : p ≤ table.cycle = omega (arith, at.within) in
      let high = count_mono (is_supplied table) 0 p table.cycle within in
      elim (cases_lt 0 (on_of table 0 p)) [
        | inl some ↦
            let i = on_of table 0 p - 1 in
            let wait = max_at_least (wait_of (ticks_of table) n) (once_of table) i (omega (arith, high, some)) in
            omega (arith, at.is, wait_from n d p i top (omega (arith, high, some)) (omega (arith, wait, waits)) (omega (arith, some)))
        | inr none ↦
            let i = once_of table - 1 in
            let wait = max_at_least (wait_of (ticks_of table) n) (once_of table) i (omega (arith, low, top)) in
            let next = wait_from n d (p + table.cycle) i top (omega (arith, low, top)) (omega (arith, wait, waits))
            (omega (arith, round_split p, none, low, top)) in
            omega (arith, at.is, next, count_round (is_supplied table) table.cycle (supplied_round table) p d)
      ]

  -- so the n-th time is the longest wait for n ticks
  pub times_listed : times_of table ≡ listed (λ n. max_below (wait_of (ticks_of table) n) (once_of table)) (once_of table)
  times_listed =
      let whole = floor_cycle table ok in
      rises_listed (floor_of table) (λ n. max_below (wait_of (ticks_of table) n) (once_of table)) (once_of table) table.cycle
      (floor_grows table ok) (omega (arith, whole)) (λ n low top. record {
        soon = λ d enough. max_bound (wait_of (ticks_of table) n) (once_of table) d (λ i b. wait_high n d i top enough b);
        there = λ d waits. wait_low n d low top waits;
      })
      ∙ ap (listed (λ n. max_below (wait_of (ticks_of table) n) (once_of table))) whole

  -- the same of what the code has counted
  pub times_from : (ticks times : List ℕ) (once n : ℕ) → ticks ≡ ticks_of table → once ≡ length ticks / 2 → n ≡ once →
      times ≡ listed (λ m. max_below (wait_of ticks m) once) n → times ≡ times_of table
  times_from ticks times once n same half all is =
      let once_is : once ≡ once_of table = omega (arith, half, ap (λ (xs : List ℕ). length xs) same, length_ticks) in
      is
      ∙ ap (λ (xs : List ℕ). listed (λ m. max_below (wait_of xs m) once) n) same
      ∙ ap (λ (w : ℕ). listed (λ m. max_below (wait_of (ticks_of table) m) w) n) once_is
      ∙ ap (listed (λ m. max_below (wait_of (ticks_of table) m) (once_of table))) (all ∙ once_is)
      ∙ sym times_listed
