-- The order of ranks.
use Rattle.std.proofs.Common.{◌≡◌, ◌≢◌, ℕ, ℤ, not, true, false, List, refl, ap, inl, inr, arith, get_or}
use Rattle.std.specs.Cmp.{IsTotalOrder}
use Rattle.std.specs.declared.cmp.Ordering.{Ordering}
use Rattle.std.specs.declared.cmp.Ordering.TheVariants.{Less, Equal, Greater}
use Rattle.std.specs.Ordering.{is_eq, is_gt, nat_cmp, int_cmp, ordering_then}
use Rattle.std.specs.BTreeMap.{is_at}
use Rattle.std.proofs.lemmas.Bool.{cases_Bool}
use Rattle.std.proofs.lemmas.Bool.Decides.{nat_tests}
use Rattle.std.proofs.lemmas.Int.{ints}
use Rattle.std.proofs.lemmas.Cmp.{then_total, on_total, nat_cmp_total, int_cmp_total, tied_itself}
use Rattle.task_sheet.specs.SheetParts.{SheetParts}
use Rattle.task_sheet.specs.declared.tasks.Job.{Job}
use Rattle.policy.specs.Keys.{key_le}
use Rattle.policy.specs.PolicyMeaning.{PolicyMeaning}
use Rattle.run_model.specs.Runs.{no_job}
use Rattle.urgency.specs.declared.rank.Rank.{Rank}
use Rattle.urgency.specs.Ranks.{rank_of, rank_cmp}

pub rank_total : IsTotalOrder rank_cmp
rank_total =
    then_total (on_total (λ (r : Rank). r.high) int_cmp_total)
    (then_total (on_total (λ (r : Rank). r.low) int_cmp_total)
    (then_total (on_total (λ (r : Rank). r.task) nat_cmp_total)
    (then_total (on_total (λ (r : Rank). r.arrival) nat_cmp_total) (on_total (λ (r : Rank). r.number) nat_cmp_total))))

pub eq_tells : (o : Ordering) → is_eq o ≡ true → o ≡ Equal
eq_tells Less h = absurd (cc)
eq_tells Equal h = refl
eq_tells Greater h = absurd (cc)

pub then_equal : (o p : Ordering) → ordering_then o p ≡ Equal → (o ≡ Equal) × (p ≡ Equal)
then_equal Less p h = absurd (cc)
then_equal Equal p h = (refl, h)
then_equal Greater p h = absurd (cc)

pub equal_nat : (a b : ℕ) → nat_cmp a b ≡ Equal → a ≡ b
equal_nat a b h = grind (arith, nat_tests)

equal_int : (a b : ℤ) → int_cmp a b ≡ Equal → a ≡ b
equal_int a b h = grind (arith, ints)

abbrev rank : ℤ → ℤ → ℕ → ℕ → ℕ → Rank
rank high low task arrival number = record { high = high; low = low; task = task; arrival = arrival; number = number }

rank_by_parts : (a b c d : ℤ) (e f g h i j : ℕ) → a ≡ c → b ≡ d → e ≡ h → f ≡ i → g ≡ j →
    rank a b e f g ≡ rank c d h i j
rank_by_parts a b c d e f g h i j k l m n o = cc

pub same_rank : (a b : Rank) → rank_cmp a b ≡ Equal → a ≡ b
same_rank a b h =
    let high = then_equal (int_cmp a.high b.high) _ h in
    let low = then_equal (int_cmp a.low b.low) _ high.1 in
    let task = then_equal (nat_cmp a.task b.task) _ low.1 in
    let arrival = then_equal (nat_cmp a.arrival b.arrival) _ task.1 in
    rank_by_parts _ _ _ _ _ _ _ _ _ _ (equal_int _ _ high.0) (equal_int _ _ low.0) (equal_nat _ _ task.0) (equal_nat _ _ arrival.0) (equal_nat _ _ arrival.1)

pub same_entry : (a b : Rank) → is_at (rank_cmp a) b ≡ true → a ≡ b
same_entry a b h = same_rank a b (eq_tells (rank_cmp a b) h)

pub itself : (a : Rank) → is_at (rank_cmp a) a ≡ true
itself a = ap is_eq (tied_itself rank_total a)

-- what does not come after is at least as urgent
key_by : (a b c d : ℤ) (high low last : Ordering) → int_cmp a c ≡ high → int_cmp b d ≡ low →
    is_gt (ordering_then high (ordering_then low last)) ≡ false →
    key_le (record { high = a; low = b }) (record { high = c; low = d }) ≡ true
key_by a b c d Less low last e f h = grind (arith, ints)
key_by a b c d Equal Less last e f h = grind (arith, ints)
key_by a b c d Equal Equal last e f h = grind (arith, ints)
key_by a b c d Equal Greater last e f h = absurd (cc)
key_by a b c d Greater low last e f h = absurd (cc)

pub urgent_by_rank : (p : PolicyMeaning) (sheet : SheetParts) (jobs : List Job) (f k : ℕ) →
    is_gt (rank_cmp (rank_of p sheet jobs f) (rank_of p sheet jobs k)) ≡ false →
    key_le (p.key sheet (get_or jobs f no_job)) (p.key sheet (get_or jobs k no_job)) ≡ true
urgent_by_rank p sheet jobs f k h =
    let a = p.key sheet (get_or jobs f no_job) in
    let b = p.key sheet (get_or jobs k no_job) in
    key_by a.high a.low b.high b.low _ _ _ refl refl h

-- other numbers, other ranks
pub apart : (p : PolicyMeaning) (sheet : SheetParts) (jobs : List Job) (r : Rank) (k : ℕ) → r.number ≢ k →
    is_at (rank_cmp r) (rank_of p sheet jobs k) ≡ false
apart p sheet jobs r k ne = elim (cases_Bool (is_at (rank_cmp r) (rank_of p sheet jobs k))) [
  | inr f ↦ f
  | inl e ↦ absurd (ne (ap (λ (q : Rank). q.number) (same_entry r (rank_of p sheet jobs k) e)))
]
