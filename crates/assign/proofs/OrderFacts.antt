-- How many tasks have a level, and that a level that cannot be filled is the fault of no order.
use Rattle.std.proofs.Common.{◌≡◌, ◌≢◌, ℕ, zero, suc, ◌+◌, ◌<◌, ◌≤◌, ◌⊎◌, Bool, true, false, cond, List, [], ◌∷◌, length, refl, sym, ap, ◌∙◌}
use Rattle.std.proofs.Common.{subst, inl, inr, arith, eq-eqb}
use Rattle.std.proofs.lemmas.Bool.{cases_eq, cases_lt, cases_Bool, ne_eqb}
use Rattle.lists.specs.Sums.{sum_below}
use Rattle.lists.proofs.SumFacts.{sum_same, sum_gap, at_most_one}
use Rattle.task_sheet.specs.SheetParts.{SheetParts}
use Rattle.preemption.specs.CutMeaning.{CutMeaning}
use Rattle.assign.specs.Sheets.{sheet_by, level_in, IsGood}
use Rattle.assign.specs.Assignment.{is_placed, MayFollow, AreFilled, NoneGood}
use Rattle.assign.proofs.SheetFacts.{left_above, placed_below, level_last}
use Rattle.assign.proofs.RaisedFacts.{KeepsCuts, IsRaised, plain, plain_up_to, entry_raised}

-- the tasks of the list are of a sheet with n tasks, each once
abbrev pub AreApart : ℕ → List ℕ → Type 0
AreApart n [] = Unit {0}
AreApart n (i ∷ before) = (i < n) × (is_placed before i ≡ false) × AreApart n before

pub apart : (m : CutMeaning) (sbf : ℕ → ℕ) (sheet : SheetParts) (horizon : ℕ) (order : List ℕ) →
    AreFilled m sbf sheet horizon order → AreApart (length sheet.tasks) order
apart m sbf sheet horizon [] filled = tt
apart m sbf sheet horizon (i ∷ before) filled = (filled.0.may.task, filled.0.may.left, apart m sbf sheet horizon before filled.1)

-- the last of the list, and the others
pub placed_last : (i : ℕ) (before : List ℕ) → is_placed (i ∷ before) i ≡ true
placed_last i before = rw (eq-eqb i i refl) refl

pub placed_other : (i : ℕ) (before : List ℕ) (o : ℕ) → o ≢ i → is_placed (i ∷ before) o ≡ is_placed before o
placed_other i before o other = rw (ne_eqb o i other) refl

pub level_other : (above i : ℕ) (before : List ℕ) (o : ℕ) → o ≢ i → level_in above (i ∷ before) o ≡ level_in above before o
level_other above i before o other = rw (ne_eqb o i other) refl

-- 1 where the task has a level
abbrev mark : List ℕ → ℕ → ℕ
mark order o = cond (is_placed order o) 1 0

sum_none : (n : ℕ) → sum_below (λ o. 0) n ≡ 0
sum_none zero = refl
sum_none (suc n) = omega (arith, sum_none n)

sum_ones : (n : ℕ) → sum_below (λ o. 1) n ≡ n
sum_ones zero = refl
sum_ones (suc n) = omega (arith, sum_ones n)

-- one term is greater by 1
sum_step : (f g : ℕ → ℕ) (n i : ℕ) → i < n → ((o : ℕ) → o < n → o ≢ i → f o ≡ g o) → f i ≡ g i + 1 → sum_below f n ≡ sum_below g n + 1
sum_step f g zero i b same more = absurd (omega arith)
sum_step f g (suc n) i b same more = elim (cases_lt i n) [
  | inl lt ↦ omega (arith, sum_step f g n i lt (λ o l ne. same o (omega arith) ne) more, same n (omega arith) (λ e. absurd (omega (arith, e, lt))))
  | inr ge ↦
      let e : n ≡ i = omega arith in
      let last : f n ≡ g n + 1 = subst (λ (w : ℕ). f w ≡ g w + 1) (sym e) more in
      omega (arith, sum_same f g n (λ o l. same o (omega arith) (λ s. absurd (omega (arith, s, l, e)))), last)
]

mark_placed : (order : List ℕ) (o : ℕ) → is_placed order o ≡ true → mark order o ≡ 1
mark_placed order o t = ap (λ (b : Bool). cond {A = ℕ} b 1 0) t

mark_left : (order : List ℕ) (o : ℕ) → is_placed order o ≡ false → mark order o ≡ 0
mark_left order o f = ap (λ (b : Bool). cond {A = ℕ} b 1 0) f

pub count_placed : (n : ℕ) (order : List ℕ) → AreApart n order → sum_below (mark order) n ≡ length order
count_placed n [] h = sum_none n
count_placed n (i ∷ before) h = omega (
  arith,
  count_placed n before h.2,
  sum_step (mark (i ∷ before)) (mark before) n i h.0
      (λ o l ne. ap (λ (b : Bool). cond {A = ℕ} b 1 0) (placed_other i before o ne))
      (omega (arith, mark_placed (i ∷ before) i (placed_last i before), mark_left before i h.1)),
)

-- with as many levels as tasks each task has one
pub all_placed : (n : ℕ) (order : List ℕ) → AreApart n order → length order ≡ n → (o : ℕ) → o < n → is_placed order o ≡ true
all_placed n order h whole o l = elim (cases_Bool (is_placed order o)) [
  | inl t ↦ t
  | inr f ↦ absurd (omega (
    arith,
    whole,
    count_placed n order h,
    sum_ones n,
    sum_gap (mark order) (λ k. 1) n o 1 l (λ k b. at_most_one (is_placed order k)) (omega (arith, mark_left order o f)),
  ))
]

-- of the tasks below n that have no level, one with the least priority
record Lowest (priority : ℕ → ℕ) (order : List ℕ) (n : ℕ) : Type 0 where
  pub task : ℕ
  pub within : task < n
  pub left : is_placed order task ≡ false
  pub least : (o : ℕ) → o < n → is_placed order o ≡ false → priority task ≤ priority o

module _ (priority : ℕ → ℕ) (order : List ℕ) where
  one_more : (n : ℕ) → is_placed order n ≡ false → Lowest priority order n → Lowest priority order (suc n)
  one_more n left low = elim (cases_lt (priority n) (priority low.task)) [
    | inl less ↦ record {
      task = n;
      within = omega arith;
      left = left;
      least = λ o b l. elim (cases_lt o n) [
        | inl lt ↦ omega (arith, less, low.least o lt l)
        | inr ge ↦ let e : o ≡ n = omega arith in omega (arith, ap priority e)
      ];
    }
    | inr more ↦ record {
      task = low.task;
      within = omega (arith, low.within);
      left = low.left;
      least = λ o b l. elim (cases_lt o n) [
        | inl lt ↦ low.least o lt l
        | inr ge ↦ let e : o ≡ n = omega arith in omega (arith, ap priority e, more)
      ];
    }
  ]

  lowest : (n : ℕ) → ((o : ℕ) → o < n → is_placed order o ≡ true) ⊎ Lowest priority order n
  lowest zero = inl (λ o b. absurd (omega arith))
  lowest (suc n) = elim (cases_Bool (is_placed order n)) [
    | inl t ↦ elim (lowest n) [
      | inl all ↦ inl (λ o b. elim (cases_lt o n) [
        | inl lt ↦ all o lt
        | inr ge ↦ let e : n ≡ o = omega arith in subst (λ (w : ℕ). is_placed order w ≡ true) e t
      ])
      | inr low ↦ inr (record {
        task = low.task;
        within = omega (arith, low.within);
        left = low.left;
        least = λ o b l. elim (cases_lt o n) [
          | inl lt ↦ low.least o lt l
          | inr ge ↦
              let e : o ≡ n = omega arith in
              let clash : false ≡ true = sym l ∙ ap (is_placed order) e ∙ t in
              absurd (cc)
        ];
      })
    ]
    | inr f ↦ elim (lowest n) [
      | inl all ↦ inr (record {
        task = n;
        within = omega arith;
        left = f;
        least = λ o b l. elim (cases_lt o n) [
          | inl lt ↦ let clash : false ≡ true = sym l ∙ all o lt in absurd (cc)
          | inr ge ↦ let e : n ≡ o = omega arith in omega (arith, ap priority e)
        ];
      })
      | inr low ↦ inr (one_more n f low)
    ]
  ]

module _ (m : CutMeaning) (sbf : ℕ → ℕ) (sheet : SheetParts) (kept : KeepsCuts m sbf sheet) (horizon : ℕ) where
  pub good_raised : (f g : ℕ → ℕ) (i : ℕ) → i < length sheet.tasks → IsRaised (length sheet.tasks) f g i →
      IsGood m sbf (sheet_by sheet f) horizon i → IsGood m sbf (sheet_by sheet g) horizon i
  good_raised f g i b raised good = record {
    entry = plain good.entry;
    some = good.some;
    up_to = plain_up_to horizon good.entry good.up_to;
    meets = entry_raised m sbf sheet kept f g i b raised good.entry good.meets;
  }

  -- of the tasks with no level one of the least priority has them all in its class, and these are its class at the next level
  lowest_raised : (priority : ℕ → ℕ) (order : List ℕ) (low : Lowest priority order (length sheet.tasks)) →
      IsRaised (length sheet.tasks) priority (level_in (length sheet.tasks + 1) (low.task ∷ order)) low.task
  lowest_raised priority order low o b other le =
      let above = length sheet.tasks + 1 in
      elim (cases_Bool (is_placed order o)) [
        | inl t ↦ absurd (omega (
          arith,
          le,
          level_last above low.task order,
          level_other above low.task order o other,
          placed_below above order o t,
        ))
        | inr f ↦ low.least o b f
      ]

  -- a level that no task may take is filled in no good order
  pub none_good : (order : List ℕ) → AreFilled m sbf sheet horizon order → length order < length sheet.tasks →
      ((i : ℕ) → MayFollow m sbf sheet horizon order i → ⊥) → NoneGood m sbf sheet horizon
  none_good order filled short none priority good =
      elim (lowest priority order (length sheet.tasks)) [
        | inl all ↦
            let n = length sheet.tasks in
            let full : sum_below (mark order) n ≡ sum_below (λ o. 1) n = sum_same (mark order) (λ o. 1) n (λ o l. mark_placed order o (all o l)) in
            absurd (omega (arith, full, sum_ones n, count_placed n order (apart m sbf sheet horizon order filled), short))
        | inr low ↦
            none low.task (record {
              task = low.within;
              left = low.left;
              good = good_raised priority (level_in (length sheet.tasks + 1) (low.task ∷ order)) low.task low.within
                  (lowest_raised priority order low) (good low.task low.within);
            })
      ]

  -- who has a level keeps its class as others take the next one
  pub held_raised : (order : List ℕ) (next i : ℕ) → length order ≤ length sheet.tasks → is_placed order next ≡ false → is_placed order i ≡ true →
      IsRaised (length sheet.tasks) (level_in (length sheet.tasks + 1) order) (level_in (length sheet.tasks + 1) (next ∷ order)) i
  held_raised order next i short left placed o b other le =
      let above = length sheet.tasks + 1 in
      let ne : i ≢ next = λ e. absurd (let clash : true ≡ false = sym placed ∙ ap (is_placed order) e ∙ left in cc) in
      elim (cases_eq o next) [
        | inl e ↦ omega (arith, placed_below above order i placed, left_above above order next left, ap (level_in above order) e, short)
        | inr elsewhere ↦ omega (arith, le, level_other above next order i ne, level_other above next order o elsewhere)
      ]
