use Rattle.std.proofs.Common.{◌≡◌, ℕ, zero, suc, ◌+◌, ◌-◌, ◌*◌, ◌%◌, ◌<◌, ◌≤◌, ◌&&◌, ◌||◌, Bool, true, false, cond, leb, ltb, List, [], ◌∷◌, ◌++◌}
use Rattle.std.proofs.Common.{length, get_or, refl, sym, ◌∙◌, ap, subst, arith, add-zero, add-suc, inl, inr}
use Rattle.std.specs.List.{list_any, flat_map}
use Rattle.std.proofs.lemmas.Bool.{cases_lt, cases_Bool, and_parts, and_from, and_left, and_right, lt-leb, le-leb, lt-ltb, le-ltb, leb-true, or_from}
use Rattle.std.proofs.lemmas.List.{append-nil, append_assoc, length-append, get_or_append_left, get_or_push}
use Rattle.std.proofs.lemmas.Nat.{mod-mul-add}
use Rattle.supply_table.specs.declared.table.Slot.{Slot}
use Rattle.supply_table.specs.TableParts.{TableParts}
use Rattle.supply_table.specs.Validity.{IsTable, are_in_order, supplied_sum}
use Rattle.supply_table.specs.Floors.{count_in, is_in_slot, is_supplied, on_of}
use Rattle.supply_table.specs.Ticks.{numbers_from, slot_ticks, passing_below}
use Rattle.supply_table.proofs.CountFacts.{count_none, count_more, count_mono}

-- the list of what passes, one number longer
pub more_passes : (test : ℕ → Bool) (n : ℕ) → test n ≡ true → passing_below test (suc n) ≡ passing_below test n ++ (n ∷ [])
more_passes test n h = rw h refl

pub more_fails : (test : ℕ → Bool) (n : ℕ) → test n ≡ false → passing_below test (suc n) ≡ passing_below test n
more_fails test n h = rw h refl

passing_none : (test : ℕ → Bool) (m n : ℕ) → ((k : ℕ) → k < n → test (m + k) ≡ false) → passing_below test (m + n) ≡ passing_below test m
passing_none test m zero h = rw add-zero refl
passing_none test m (suc n) h = rw add-suc (more_fails test (m + n) (h n (omega arith)) ∙ passing_none test m n (λ k b. h k (omega arith)))

passing_all : (test : ℕ → Bool) (m n : ℕ) → ((k : ℕ) → k < n → test (m + k) ≡ true) → passing_below test (m + n) ≡ passing_below test m ++ numbers_from m n
passing_all test m zero h = rw add-zero (sym (append-nil (passing_below test m)))
passing_all test m (suc n) h =
    rw add-suc (
    more_passes test (m + n) (h n (omega arith))
    ∙ ap (λ (xs : List ℕ). xs ++ ((m + n) ∷ [])) (passing_all test m n (λ k b. h k (omega arith)))
    ∙ append_assoc (passing_below test m) (numbers_from m n) ((m + n) ∷ [])
    )

-- how many pass
pub length_passing : (test : ℕ → Bool) (n : ℕ) → length (passing_below test n) ≡ count_in test 0 n
length_passing test zero = omega (arith, count_none test 0)
length_passing test (suc n) =
    let at : 0 + n ≡ n = omega arith in
    let more = count_more test 0 n in
    let here = ap (λ (w : ℕ). cond {A = ℕ} (test w) 1 0) at in
    elim (cases_Bool (test n)) [
      | inl t ↦ rw (more_passes test n t)
          (omega (arith, length-append (passing_below test n) (n ∷ []), length_passing test n, more, here, ap (λ (b : Bool). cond {A = ℕ} b 1 0) t))
      | inr f ↦ rw (more_fails test n f) (omega (arith, length_passing test n, more, here, ap (λ (b : Bool). cond {A = ℕ} b 1 0) f))
    ]

-- v passes, and j numbers before it do
pub record IsNth (test : ℕ → Bool) (j v : ℕ) : Type 0 where
  pub before : count_in test 0 v ≡ j
  pub passes : test v ≡ true

pub nth : (test : ℕ → Bool) (n j : ℕ) → j < length (passing_below test n) → IsNth test j (get_or (passing_below test n) j 0)
nth test zero j h = absurd (omega arith)
nth test (suc n) j h = elim (cases_Bool (test n)) [
  | inr f ↦
      let same = more_fails test n f in
      rw same (nth test n j (omega (arith, ap (λ (xs : List ℕ). length xs) same)))
  | inl t ↦
      let more = more_passes test n t in
      let long = length-append (passing_below test n) (n ∷ []) in
      elim (cases_lt j (length (passing_below test n))) [
        | inl c ↦ rw (more, get_or_append_left (passing_below test n) (n ∷ []) 0 j c) (nth test n j c)
        | inr c ↦
            let last : length (passing_below test n) ≡ j = omega (arith, ap (λ (xs : List ℕ). length xs) more, long) in
            rw (more, get_or_push (passing_below test n) n 0 j last) (record { before = omega (arith, length_passing test n, last); passes = t })
      ]
]

-- the tick with number j comes before t exactly where more than j do
pub nth_before : (test : ℕ → Bool) (j v t : ℕ) → IsNth test j v → v < t → j < count_in test 0 t
nth_before test j v t is h =
    let at : 0 + v ≡ v = omega arith in
    omega (
      arith,
      is.before,
      count_mono test 0 (suc v) t (omega arith),
      count_more test 0 v,
      ap (λ (w : ℕ). cond {A = ℕ} (test w) 1 0) at,
      ap (λ (b : Bool). cond {A = ℕ} b 1 0) is.passes,
    )

pub nth_after : (test : ℕ → Bool) (j v t : ℕ) → IsNth test j v → j < count_in test 0 t → v < t
nth_after test j v t is h = elim (cases_lt v t) [
  | inl c ↦ c
  | inr c ↦ absurd (omega (arith, is.before, count_mono test 0 t v c))
]

order_ends : (slots : List Slot) (end cycle : ℕ) → are_in_order end slots cycle ≡ true → end ≤ cycle
order_ends [] end cycle h = leb-true end cycle h
order_ends (s ∷ slots) end cycle h =
    let parts = and_parts (leb end s.start) (are_in_order (s.start + s.length) slots cycle) h in
    omega (arith, leb-true end s.start parts.0, order_ends slots (s.start + s.length) cycle parts.1)

early_outside : (s : Slot) (t : ℕ) → t < s.start → is_in_slot t s ≡ false
early_outside s t h = and_left _ _ (lt-leb s.start t h)

late_outside : (s : Slot) (t : ℕ) → s.start + s.length ≤ t → is_in_slot t s ≡ false
late_outside s t h = and_right _ _ (le-ltb t (s.start + s.length) h)

inside : (s : Slot) (t : ℕ) → s.start ≤ t → t < s.start + s.length → is_in_slot t s ≡ true
inside s t low high = and_from _ _ (le-leb s.start t low) (lt-ltb t (s.start + s.length) high)

-- no slot has a tick before the end from which they are in order
none_before : (slots : List Slot) (end cycle t : ℕ) → are_in_order end slots cycle ≡ true → t < end → list_any (is_in_slot t) slots ≡ false
none_before [] end cycle t h b = refl
none_before (s ∷ slots) end cycle t h b =
    let parts = and_parts (leb end s.start) (are_in_order (s.start + s.length) slots cycle) h in
    let low = leb-true end s.start parts.0 in
    or_from _ _ (early_outside s t (omega (arith, low))) (none_before slots (s.start + s.length) cycle t parts.1 (omega (arith, low)))

-- the ticks of slots in order are all that pass, where a test passes what lies in a slot
cycle_ticks : (test : ℕ → Bool) (begin cycle end : ℕ) (slots : List Slot) → are_in_order end slots cycle ≡ true →
    ((t : ℕ) → end ≤ t → t < cycle → test (begin + t) ≡ list_any (is_in_slot t) slots) →
    passing_below test (begin + cycle) ≡ passing_below test (begin + end) ++ flat_map (slot_ticks begin) slots
cycle_ticks test begin cycle end [] order same =
    let ends = order_ends [] end cycle order in
    let whole : begin + end + (cycle - end) ≡ begin + cycle = omega (arith, ends) in
    ap (passing_below test) (sym whole)
    ∙ passing_none test (begin + end) (cycle - end) (λ k b.
    let at : begin + end + k ≡ begin + (end + k) = omega arith in
    ap test at ∙ same (end + k) (omega arith) (omega (arith, b)))
    ∙ sym (append-nil (passing_below test (begin + end)))
cycle_ticks test begin cycle end (s ∷ slots) order same =
    let parts = and_parts (leb end s.start) (are_in_order (s.start + s.length) slots cycle) order in
    let low = leb-true end s.start parts.0 in
    let ends = order_ends slots (s.start + s.length) cycle parts.1 in
    let gap_at : begin + end + (s.start - end) ≡ begin + s.start = omega (arith, low) in
    let slot_at : begin + s.start + s.length ≡ begin + (s.start + s.length) = omega arith in
    let gap : passing_below test (begin + s.start) ≡ passing_below test (begin + end) =
    ap (passing_below test) (sym gap_at)
    ∙ passing_none test (begin + end) (s.start - end) (λ k b.
    let at : begin + end + k ≡ begin + (end + k) = omega arith in
    ap test at
    ∙ same (end + k) (omega arith) (omega (arith, b, ends))
    ∙ or_from _ _ (early_outside s (end + k) (omega (arith, b))) (none_before slots (s.start + s.length) cycle (end + k) parts.1 (omega (arith, b)))) in
    let slot : passing_below test (begin + (s.start + s.length)) ≡ passing_below test (begin + s.start) ++ slot_ticks begin s =
    ap (passing_below test) (sym slot_at)
    ∙ passing_all test (begin + s.start) s.length (λ k b.
    let at : begin + s.start + k ≡ begin + (s.start + k) = omega arith in
    ap test at
    ∙ same (s.start + k) (omega (arith, low)) (omega (arith, b, ends))
    ∙ ap (λ (v : Bool). v || list_any (is_in_slot (s.start + k)) slots) (inside s (s.start + k) (omega arith) (omega (arith, b)))) in
    let rest : passing_below test (begin + cycle) ≡ passing_below test (begin + (s.start + s.length)) ++ flat_map (slot_ticks begin) slots =
    cycle_ticks test begin cycle (s.start + s.length) slots parts.1 (λ t a b.
    same t (omega (arith, a, low)) b
    ∙ ap (λ (v : Bool). v || list_any (is_in_slot t) slots) (late_outside s t a)) in
    rest
    ∙ ap (λ (xs : List ℕ). xs ++ flat_map (slot_ticks begin) slots) (slot ∙ ap (λ (xs : List ℕ). xs ++ slot_ticks begin s) gap)
    ∙ append_assoc (passing_below test (begin + end)) (slot_ticks begin s) (flat_map (slot_ticks begin) slots)

supplied_at : (table : TableParts) (q t : ℕ) → t < table.cycle → is_supplied table (q * table.cycle + t) ≡ list_any (is_in_slot t) table.slots
unfolding is_supplied
supplied_at table q t h = ap (λ (w : ℕ). list_any (is_in_slot w) table.slots) (mod-mul-add q table.cycle t h)

-- the supplied ticks of a cycle, behind those before it
cycle_of : (table : TableParts) (q : ℕ) → IsTable table →
    passing_below (is_supplied table) (q * table.cycle + table.cycle) ≡ passing_below (is_supplied table)
    (q * table.cycle) ++ flat_map (slot_ticks (q * table.cycle)) table.slots
cycle_of table q ok =
    let at : q * table.cycle + 0 ≡ q * table.cycle = omega arith in
    cycle_ticks (is_supplied table) (q * table.cycle) table.cycle 0 table.slots ok.order (λ t a b. supplied_at table q t b)
    ∙ ap (λ (w : ℕ). passing_below (is_supplied table) w ++ flat_map (slot_ticks (q * table.cycle)) table.slots) at

first_cycle : (table : TableParts) → IsTable table → passing_below (is_supplied table) table.cycle ≡ flat_map (slot_ticks 0) table.slots
first_cycle table ok =
    let begin : 0 * table.cycle ≡ 0 = omega arith in
    let end : 0 * table.cycle + table.cycle ≡ table.cycle = omega arith in
    ap (passing_below (is_supplied table)) (sym end)
    ∙ cycle_of table 0 ok
    ∙ ap (λ (w : ℕ). passing_below (is_supplied table) w ++ flat_map (slot_ticks w) table.slots) begin

pub two_cycles : (table : TableParts) → IsTable table →
    passing_below (is_supplied table) (table.cycle + table.cycle) ≡ flat_map (slot_ticks 0) table.slots ++ flat_map (slot_ticks table.cycle) table.slots
two_cycles table ok =
    let begin : 1 * table.cycle ≡ table.cycle = omega arith in
    let end : 1 * table.cycle + table.cycle ≡ table.cycle + table.cycle = omega arith in
    ap (passing_below (is_supplied table)) (sym end)
    ∙ cycle_of table 1 ok
    ∙ ap (λ (w : ℕ). passing_below (is_supplied table) w ++ flat_map (slot_ticks w) table.slots) begin
    ∙ ap (λ (xs : List ℕ). xs ++ flat_map (slot_ticks table.cycle) table.slots) (first_cycle table ok)

length_numbers : (from n : ℕ) → length (numbers_from from n) ≡ n
length_numbers from zero = refl
length_numbers from (suc n) = omega (arith, length-append (numbers_from from n) ((from + n) ∷ []), length_numbers from n)

length_slots : (begin : ℕ) (slots : List Slot) → length (flat_map (slot_ticks begin) slots) ≡ supplied_sum slots
length_slots begin [] = refl
length_slots begin (s ∷ slots) = omega (
  arith,
  length-append (slot_ticks begin s) (flat_map (slot_ticks begin) slots),
  length_numbers (begin + s.start) s.length,
  length_slots begin slots,
)

-- the ticks that a table supplies in a cycle are those of its slots
pub supplied_is : (table : TableParts) → IsTable table → on_of table 0 table.cycle ≡ supplied_sum table.slots
supplied_is table ok = omega (
  arith,
  length_passing (is_supplied table) table.cycle,
  ap (λ (xs : List ℕ). length xs) (first_cycle table ok),
  length_slots 0 table.slots,
)
