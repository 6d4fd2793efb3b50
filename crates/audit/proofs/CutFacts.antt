-- What the sums of first segments tell of where a job can be cut.
use Rattle.std.proofs.Common.{◌≡◌, ℕ, zero, suc, ◌+◌, ◌-◌, ◌<◌, ◌≤◌, ◌==◌, ◌&&◌, ◌||◌, ◌⊎◌, Bool, true, List, [], ◌∷◌, length, sum, get_or, is_ok}
use Rattle.std.proofs.Common.{refl, sym, ◌∙◌, ap, subst, inl, inr, arith, leb}
use Rattle.std.specs.declared.result.Result.{Result}
use Rattle.std.specs.declared.result.Result.TheVariants.{Ok, Err}
use Rattle.std.specs.List.Sorted.{IsBinarySearchResult}
use Rattle.std.specs.Ordering.{nat_cmp}
use Rattle.std.proofs.lemmas.Bool.{cases_Bool, cases_lt, leb-true, eqb-true, and_from, and_parts, or_cases, le-leb}
use Rattle.std.proofs.lemmas.List.Sorted.{searched}
use Rattle.lists.specs.Ranges.{is_between}
use Rattle.task_sheet.specs.Sheets.{IsTask}
use Rattle.task_sheet.specs.declared.tasks.Cut.{Cut}
use Rattle.task_sheet.specs.declared.tasks.Cut.TheVariants.{Full, Never, Fixed, Floating}
use Rattle.task_sheet.specs.declared.tasks.Job.{Job}
use Rattle.task_sheet.specs.declared.tasks.Task.{Task}
use Rattle.preemption.specs.CutMeaning.{CutMeaning}
use Rattle.preemption.specs.CutLaws.{IsLawfulCut, IsTabledCut}
use Rattle.preemption.specs.Cuts.{is_prefix_sum, has_none, each_within, are_lengths_within, cuttable_by, segments_fit}
use Rattle.preemption.specs.Segments.{or_right, prefix_zero}
use Rattle.audit.specs.CutSums.{sums_from}

-- no sum is below the first
sums_low : (s : ℕ) (xs : List ℕ) (i : ℕ) → i < length (sums_from s xs) → s ≤ get_or (sums_from s xs) i 0
sums_low s [] zero b = omega arith
sums_low s [] (suc i) b = absurd (omega arith)
sums_low s (x ∷ xs) zero b = omega arith
sums_low s (x ∷ xs) (suc i) b = omega (arith, sums_low (s + x) xs i (omega arith))

-- they do not fall
sums_rise : (s : ℕ) (xs : List ℕ) (i j : ℕ) → i ≤ j → j < length (sums_from s xs) →
    get_or (sums_from s xs) i 0 ≤ get_or (sums_from s xs) j 0
sums_rise s [] zero zero h b = omega arith
sums_rise s [] (suc i) zero h b = absurd (omega arith)
sums_rise s [] i (suc j) h b = absurd (omega arith)
sums_rise s (x ∷ xs) zero j h b = sums_low s (x ∷ xs) j b
sums_rise s (x ∷ xs) (suc i) zero h b = absurd (omega arith)
sums_rise s (x ∷ xs) (suc i) (suc j) h b = sums_rise (s + x) xs i j (omega arith) (omega arith)

later_prefix : (x r : ℕ) (xs : List ℕ) → is_prefix_sum xs (r - x) ≡ true → x ≤ r → is_prefix_sum (x ∷ xs) r ≡ true
later_prefix x r xs h b = or_right (r == 0) _ (and_from (leb x r) (is_prefix_sum xs (r - x)) (le-leb x r b) h)

-- what stands among them is the sum of some first numbers
sums_are : (s : ℕ) (xs : List ℕ) (i : ℕ) → i < length (sums_from s xs) →
    is_prefix_sum xs (get_or (sums_from s xs) i 0 - s) ≡ true
sums_are s [] zero b = let e : s - s ≡ 0 = omega arith in ap (is_prefix_sum []) e ∙ prefix_zero []
sums_are s [] (suc i) b = absurd (omega arith)
sums_are s (x ∷ xs) zero b = let e : s - s ≡ 0 = omega arith in ap (is_prefix_sum (x ∷ xs)) e ∙ prefix_zero (x ∷ xs)
sums_are s (x ∷ xs) (suc i) b =
    let low = sums_low (s + x) xs i (omega arith) in
    let v = get_or (sums_from (s + x) xs) i 0 in
    let e : v - s - x ≡ v - (s + x) = omega arith in
    later_prefix x (v - s) xs (ap (is_prefix_sum xs) e ∙ sums_are (s + x) xs i (omega arith)) (omega (arith, low))

-- where a number stands in a list
record Stands (xs : List ℕ) (n : ℕ) : Type 0 where
  at : ℕ
  within : at < length xs
  is : get_or xs at 0 ≡ n

stands_later : (x n : ℕ) (xs : List ℕ) → Stands xs n → Stands (x ∷ xs) n
stands_later x n xs h = record { at = suc h.at; within = omega (arith, h.within); is = h.is }

-- the sum of some first numbers stands among them
sums_have : (s : ℕ) (xs : List ℕ) (r n : ℕ) → is_prefix_sum xs r ≡ true → s + r ≡ n → Stands (sums_from s xs) n
sums_have s [] r n h e = record { at = 0; within = omega arith; is = omega (arith, eqb-true r 0 h, e) }
sums_have s (x ∷ xs) r n h e = elim (or_cases (r == 0) (leb x r && is_prefix_sum xs (r - x)) h) [
  | inl z ↦ record { at = 0; within = omega arith; is = omega (arith, eqb-true r 0 z, e) }
  | inr k ↦
      let p = and_parts (leb x r) (is_prefix_sum xs (r - x)) k in
      stands_later s n (sums_from (s + x) xs) (sums_have (s + x) xs (r - x) n p.1 (omega (arith, leb-true x r p.0, e)))
]

-- a search among them finds the sums of some first numbers
found_is : (xs : List ℕ) (n : ℕ) (r : Result ℕ ℕ) → IsBinarySearchResult (λ y. nat_cmp y n) (sums_from 0 xs) r →
    is_ok r ≡ is_prefix_sum xs n
found_is xs n (Ok i) h =
    let at = searched (sums_from 0 xs) n (Ok i) h (sums_rise 0 xs) in
    let e : get_or (sums_from 0 xs) i 0 - 0 ≡ n = omega (arith, at.1) in
    sym (sym (ap (is_prefix_sum xs) e) ∙ sums_are 0 xs i at.0)
found_is xs n (Err i) h =
    let at = searched (sums_from 0 xs) n (Err i) h (sums_rise 0 xs) in
    elim (cases_Bool (is_prefix_sum xs n)) [
      | inr uncut ↦ sym uncut
      | inl is ↦
          let place = sums_have 0 xs n n is (omega arith) in
          elim (cases_lt place.at i) [
            | inl c ↦ absurd (omega (arith, at.1 place.at c, place.is))
            | inr c ↦ absurd (omega (arith, at.2 place.at c place.within, place.is))
          ]
    ]

-- a task whose jobs have segments
abbrev HasSegments : Cut → Type 0
HasSegments Full = ⊥
HasSegments Never = ⊥
HasSegments (Fixed segments) = Unit {0}
HasSegments (Floating bound) = Unit {0}

cut_by : (cut : Cut) (j : Job) (s : ℕ) → HasSegments cut →
    cuttable_by cut j s ≡ (is_prefix_sum j.segs s || leb j.cost s)
cut_by Full j s h = absurd h
cut_by Never j s h = absurd h
cut_by (Fixed segments) j s h = refl
cut_by (Floating bound) j s h = refl

segments_either : (cut : Cut) →
    ((segments : List ℕ) × (cut ≡ Fixed segments)) ⊎ ((bound : ℕ) × (cut ≡ Floating bound)) → HasSegments cut
segments_either cut (inl p) = subst HasSegments (sym p.1) tt
segments_either cut (inr p) = subst HasSegments (sym p.1) tt

-- so it tells where a job can be cut, by every kind of the table that serves its task
pub searched_cut : (m : CutMeaning) (task : Task) (j : Job) (sums : List ℕ) (s : ℕ) (r : Result ℕ ℕ) (found : Bool) →
    IsTabledCut m task →
    ((segments : List ℕ) × (task.cut ≡ Fixed segments)) ⊎ ((bound : ℕ) × (task.cut ≡ Floating bound)) →
    sums ≡ sums_from 0 j.segs → IsBinarySearchResult (λ y. nat_cmp y s) sums r → is_ok r ≡ found → (found || leb j.cost s) ≡ m.cuttable task j s
searched_cut m task j sums s r found tabled cut are h is =
    let same = found_is j.segs s r (subst (λ (l : List ℕ). IsBinarySearchResult (λ y. nat_cmp y s) l r) are h) in
    ap (λ (b : Bool). b || leb j.cost s) (sym is ∙ same) ∙ (sym (cut_by task.cut j s (segments_either task.cut cut)) ∙ sym (tabled.same_cuts j s))

none_sum : (xs : List ℕ) → has_none xs ≡ true → sum xs ≡ 0
none_sum [] h = refl
none_sum (x ∷ xs) h = absurd (cc)

segments_sum : (cut : Cut) (j : Job) → segments_fit cut j ≡ true → sum j.segs ≤ j.cost
segments_sum Full j h = omega (arith, none_sum j.segs h)
segments_sum Never j h = omega (arith, none_sum j.segs h)
segments_sum (Fixed segments) j h = omega (arith, eqb-true (sum j.segs) j.cost (and_parts (each_within j.segs segments) (sum j.segs == j.cost) h).1)
segments_sum (Floating bound) j h = omega (arith, eqb-true (sum j.segs) j.cost (and_parts (are_lengths_within bound j.segs) (sum j.segs == j.cost) h).1)

-- the segments of a job that fits sum up to at most 10^9
pub few_segments : (m : CutMeaning) (task : Task) (j : Job) → IsTask task → IsLawfulCut m task →
    IsTabledCut m task → m.fits task j ≡ true → sum j.segs ≤ 1000000000
few_segments m task j ok lawful tabled fit =
    let parts = and_parts (is_between 1 task.cost j.cost) (segments_fit task.cut j) (sym (tabled.same_fits j) ∙ fit) in
    omega (arith, segments_sum task.cut j parts.1, lawful.cost_bound j fit, ok.cost_high)
