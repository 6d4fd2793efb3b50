use Rattle.std.proofs.Common.{◌≡◌, ℕ, zero, suc, ◌+◌, ◌-◌, ◌*◌, ◌/◌, ◌%◌, ◌<◌, ◌≤◌, ◌&&◌, Bool, true, false, cond, leb, ltb, List, [], ◌∷◌, ◌++◌}
use Rattle.std.proofs.Common.{length, refl, sym, ◌∙◌, ap, subst, inl, inr, arith, add-one}
use Rattle.std.specs.List.{list_all}
use Rattle.std.proofs.lemmas.Bool.{cases_lt, and_parts, and_from, lt-ltb, le-ltb, le-leb, ltb-true}
use Rattle.std.proofs.lemmas.Bool.Decides.{nat_tests}
use Rattle.std.proofs.lemmas.List.{length-append}
use Rattle.task_sheet.specs.Rules.{is_in_range, rise_above, last_number}
use Rattle.supply.specs.Promises.{count_of}
use Rattle.supply.specs.Lawful.{test_holds, test_fails}
use Rattle.supply_table.specs.Floors.{rises_to}

count_append : (xs ys : List ℕ) (r : ℕ) → count_of (xs ++ ys) r ≡ count_of xs r + count_of ys r
count_append [] ys r = omega arith
count_append (x ∷ xs) ys r = omega (arith, count_append xs ys r)

rise_append : (xs : List ℕ) (low x : ℕ) → rise_above low xs ≡ true → last_number low xs < x → rise_above low (xs ++ (x ∷ [])) ≡ true
rise_append [] low x rise h = and_from _ _ (lt-ltb low x h) refl
rise_append (y ∷ xs) low x rise h =
    let parts = and_parts (ltb low y) (rise_above y xs) rise in
    and_from _ _ parts.0 (rise_append xs y x parts.1 h)

last_append : (xs : List ℕ) (low x : ℕ) → last_number low (xs ++ (x ∷ [])) ≡ x
last_append [] low x = refl
last_append (y ∷ xs) low x = last_append xs y x

all_append : (test : ℕ → Bool) (xs : List ℕ) (x : ℕ) → list_all test xs ≡ true → test x ≡ true → list_all test (xs ++ (x ∷ [])) ≡ true
all_append test [] x h t = and_from _ _ t refl
all_append test (y ∷ xs) x h t =
    let parts = and_parts (test y) (list_all test xs) h in
    and_from _ _ parts.0 (all_append test xs x parts.1 t)

-- a function that begins with 0 and grows by at most 1 at a time
pub record Grows (f : ℕ → ℕ) : Type 0 where
  pub begins : f 0 ≡ 0
  pub step : (d : ℕ) → (f d ≤ f (suc d)) × (f (suc d) ≤ f d + 1)

pub grows_low : (f : ℕ → ℕ) → Grows f → (d e : ℕ) → d ≤ e → f d ≤ f e
grows_low f g d zero h = let e : d ≡ 0 = omega arith in omega (arith, ap f e)
grows_low f g d (suc e) h = elim (cases_lt d (suc e)) [
  | inl c ↦ omega (arith, grows_low f g d e (omega arith), (g.step e).0)
  | inr c ↦ let same : d ≡ suc e = omega arith in omega (arith, ap f same)
]

-- one number more: a rise, or none
pub rise_here : (f : ℕ → ℕ) (n : ℕ) → f n < f (suc n) → rises_to f (suc n) ≡ rises_to f n ++ (suc n ∷ [])
rise_here f n h = rw (lt-ltb (f n) (f (suc n)) h) refl

pub none_here : (f : ℕ → ℕ) (n : ℕ) → f (suc n) ≤ f n → rises_to f (suc n) ≡ rises_to f n
none_here f n h = rw (le-ltb (f n) (f (suc n)) h) refl

count_one : (x r : ℕ) → count_of (x ∷ []) r ≡ cond (leb x r) 1 0
count_one x r = omega arith

-- all rises come by r
pub count_all : (f : ℕ → ℕ) → Grows f → (n r : ℕ) → n ≤ r → count_of (rises_to f n) r ≡ f n
count_all f g zero r h = omega (arith, g.begins)
count_all f g (suc n) r h = elim (cases_lt (f n) (f (suc n))) [
  | inl c ↦ rw (rise_here f n c)
      (omega (arith, count_append (rises_to f n) (suc n ∷ []) r, count_one (suc n) r, test_holds (suc n) r h, count_all f g n r (omega arith), (g.step n).1, c))
  | inr c ↦ rw (none_here f n c) (omega (arith, count_all f g n r (omega arith), (g.step n).0, c))
]

-- as many rises come by r as the value there
pub count_rises : (f : ℕ → ℕ) → Grows f → (n r : ℕ) → r ≤ n → count_of (rises_to f n) r ≡ f r
count_rises f g zero r h = let e : r ≡ 0 = omega arith in omega (arith, ap f e, g.begins)
count_rises f g (suc n) r h = elim (cases_lt r (suc n)) [
  | inr c ↦ let e : suc n ≡ r = omega arith in omega (arith, count_all f g (suc n) r (omega arith), ap f e)
  | inl b ↦ elim (cases_lt (f n) (f (suc n))) [
    | inl c ↦ rw (rise_here f n c)
        (omega (arith, count_append (rises_to f n) (suc n ∷ []) r, count_one (suc n) r, test_fails (suc n) r b, count_rises f g n r (omega arith)))
    | inr c ↦ rw (none_here f n c) (count_rises f g n r (omega arith))
  ]
]

pub length_rises : (f : ℕ → ℕ) → Grows f → (n : ℕ) → length (rises_to f n) ≡ f n
length_rises f g zero = omega (arith, g.begins)
length_rises f g (suc n) = elim (cases_lt (f n) (f (suc n))) [
  | inl c ↦ rw (rise_here f n c) (omega (arith, length-append (rises_to f n) (suc n ∷ []), length_rises f g n, (g.step n).1, c))
  | inr c ↦ rw (none_here f n c) (omega (arith, length_rises f g n, (g.step n).0, c))
]

-- what a promise wants of its times
pub record AreTimes (n : ℕ) (times : List ℕ) : Type 0 where
  pub rise : rise_above 0 times ≡ true
  pub last : last_number 0 times ≤ n
  pub fit : list_all is_in_range times ≡ true

in_range : (n : ℕ) → 1 ≤ n → n ≤ 100000 → is_in_range n ≡ true
in_range n low high = grind (arith, nat_tests)

pub rises_are : (f : ℕ → ℕ) (n : ℕ) → n ≤ 100000 → AreTimes n (rises_to f n)
rises_are f zero h = record { rise = refl; last = omega arith; fit = refl }
rises_are f (suc n) h =
    let before = rises_are f n (omega arith) in
    elim (cases_lt (f n) (f (suc n))) [
      | inl c ↦ rw (rise_here f n c) (record {
        rise = rise_append (rises_to f n) 0 (suc n) before.rise (omega (arith, before.last));
        last = omega (arith, last_append (rises_to f n) 0 (suc n));
        fit = all_append is_in_range (rises_to f n) (suc n) before.fit (in_range (suc n) (omega arith) h);
      })
      | inr c ↦ rw (none_here f n c) (record { rise = before.rise; last = omega (arith, before.last); fit = before.fit })
    ]
