-- Which job comes before which: a total order.
use Rattle.std.proofs.Common.{◌≡◌, ℕ, ℤ, ◌<◌, ◌==◌, ◌&&◌, ◌||◌, not, Bool, true, false, refl, sym, ◌∙◌, ap, inl, inr, arith}
use Rattle.std.specs.Prelude.{int_lt, int_le, nat_lt}
use Rattle.std.specs.Cmp.{IsTotalOrder}
use Rattle.std.specs.Ordering.{nat_cmp, int_cmp, int_eq, ordering_then, is_lt}
use Rattle.std.specs.declared.cmp.Ordering.{Ordering}
use Rattle.std.specs.declared.cmp.Ordering.TheVariants.{Less, Equal, Greater}
use Rattle.std.proofs.lemmas.Bool.{cases_Bool, and_from}
use Rattle.preemption.specs.Segments.{or_right}
use Rattle.std.proofs.lemmas.Bool.Decides.{nat_tests}
use Rattle.std.proofs.lemmas.Int.{ints}
use Rattle.std.proofs.lemmas.Cmp.{then_total, on_total, nat_cmp_total, int_cmp_total, tied_itself}
use Rattle.policy.specs.declared.keys.Key.{Key}
use Rattle.policy.specs.Keys.{key_le}
use Rattle.run_model.specs.declared.run.Run.{Run}
use Rattle.run_model.specs.Runs.{job_at}
use Rattle.simulated_run.specs.SimulatedRun.{World, by_number, comes_before}

-- by which jobs are ordered
pub record Place : Type 0 where
  pub high : ℤ
  pub low : ℤ
  pub task : ℕ
  pub arrival : ℕ
  pub number : ℕ

abbrev pub place_of : World → Run → ℕ → Place
place_of w run k = record {
  high = (w.policy.key w.sheet (job_at run k)).high;
  low = (w.policy.key w.sheet (job_at run k)).low;
  task = (job_at run k).task;
  arrival = (job_at run k).arrival;
  number = k;
}

-- the comparison by each of them in turn
abbrev pub place_cmp : Place → Place → Ordering
place_cmp a b =
    ordering_then (int_cmp a.high b.high)
    (ordering_then (int_cmp a.low b.low) (ordering_then (nat_cmp a.task b.task) (ordering_then (nat_cmp a.arrival b.arrival) (nat_cmp a.number b.number))))

pub place_total : IsTotalOrder place_cmp
place_total =
    then_total (on_total (λ (r : Place). r.high) int_cmp_total)
    (then_total (on_total (λ (r : Place). r.low) int_cmp_total)
    (then_total (on_total (λ (r : Place). r.task) nat_cmp_total)
    (then_total (on_total (λ (r : Place). r.arrival) nat_cmp_total) (on_total (λ (r : Place). r.number) nat_cmp_total))))

number_is : (k n : ℕ) → nat_lt k n ≡ is_lt (nat_cmp k n)
number_is k n = grind (arith, nat_tests)

then_number : (k n : ℕ) (b : Bool) (r : Ordering) → b ≡ is_lt r → (nat_lt k n || ((k == n) && b)) ≡ is_lt (ordering_then (nat_cmp k n) r)
then_number k n b r h = grind (arith, nat_tests)

by_number_is : (a b c d e f : ℕ) → by_number (a, b, c) (d, e, f) ≡ is_lt (ordering_then (nat_cmp a d) (ordering_then (nat_cmp b e) (nat_cmp c f)))
by_number_is a b c d e f = then_number a d _ _ (then_number b e _ _ (number_is c f))

by_key_is : (p q u v : ℤ) (b : Bool) (r : Ordering) → b ≡ is_lt r →
    (not (int_lt q p || (int_eq q p && int_le v u)) || ((int_lt p q || (int_eq p q && int_le u v)) && b)) ≡ is_lt
    (ordering_then (int_cmp p q) (ordering_then (int_cmp u v) r))
by_key_is p q u v b r h = grind (arith, ints)

-- the key of a place
abbrev key_of : Place → Key
key_of a = record { high = a.high; low = a.low }

place_is : (a b : Place) →
    (not (key_le (key_of b) (key_of a)) ||
    (key_le (key_of a) (key_of b) && by_number (a.task, a.arrival, a.number) (b.task, b.arrival, b.number))) ≡ is_lt (place_cmp a b)
place_is a b =
    by_key_is a.high b.high a.low b.low (by_number (a.task, a.arrival, a.number) (b.task, b.arrival, b.number))
    (ordering_then (nat_cmp a.task b.task) (ordering_then (nat_cmp a.arrival b.arrival) (nat_cmp a.number b.number)))
    (by_number_is a.task a.arrival a.number b.task b.arrival b.number)

lt_less : (o : Ordering) → is_lt o ≡ true → o ≡ Less
lt_less Less h = refl
lt_less Equal h = absurd (cc)
lt_less Greater h = absurd (cc)

place_chain : (a b c : Place) → is_lt (place_cmp a b) ≡ true → is_lt (place_cmp c b) ≡ false → is_lt (place_cmp c a) ≡ false
place_chain a b c h k = elim (cases_Bool (is_lt (place_cmp c a))) [
  | inr f ↦ f
  | inl e ↦ absurd (let l : place_cmp c b ≡ Less = place_total.trans c a b (lt_less _ e) (lt_less _ h) in let m : is_lt
      (place_cmp c b) ≡ true = ap is_lt l in cc)
]

not_left : (a b : Bool) → (not a || b) ≡ false → a ≡ true
not_left true b h = refl
not_left false b h = absurd (cc)

number_first : (task other arrival later k n : ℕ) → task ≡ other → arrival < later → by_number (task, arrival, k) (other, later, n) ≡ true
number_first task other arrival later k n e h = grind (arith, nat_tests)

module _ (w : World) (run : Run) where
  -- to come before is to be less in the comparison
  pub comes_before_is : (k n : ℕ) → comes_before w run k n ≡ is_lt (place_cmp (place_of w run k) (place_of w run n))
  unfolding comes_before
  comes_before_is k n = place_is (place_of w run k) (place_of w run n)

  pub comes_itself : (k : ℕ) → comes_before w run k k ≡ false
  comes_itself k = comes_before_is k k ∙ ap is_lt (tied_itself place_total (place_of w run k))

  -- what does not come before one that comes later does not come before the earlier one
  pub comes_chain : (a b c : ℕ) → comes_before w run a b ≡ true → comes_before w run c b ≡ false → comes_before w run c a ≡ false
  comes_chain a b c h k =
      comes_before_is c a ∙ place_chain (place_of w run a) (place_of w run b) (place_of w run c) (sym (comes_before_is a b) ∙ h) (sym (comes_before_is c b) ∙ k)

  pub comes_once : (k n : ℕ) → comes_before w run k n ≡ true → comes_before w run n k ≡ false
  comes_once k n h = comes_chain k n n h (comes_itself n)

  -- who does not come before has a key that is no more urgent
  pub later_key : (k n : ℕ) → comes_before w run n k ≡ false → key_le (w.policy.key w.sheet (job_at run k)) (w.policy.key w.sheet (job_at run n)) ≡ true
  unfolding comes_before
  later_key k n h = not_left _ _ h

  -- of one task's jobs whose keys do not say otherwise, who arrived earlier comes before
  pub earlier_first : (k n : ℕ) →
      key_le (w.policy.key w.sheet (job_at run k)) (w.policy.key w.sheet (job_at run n)) ≡ true →
      (job_at run k).task ≡ (job_at run n).task → (job_at run k).arrival < (job_at run n).arrival →
      comes_before w run k n ≡ true
  unfolding comes_before
  earlier_first k n le same earlier =
      or_right _ _
      (and_from _ _ le (number_first (job_at run k).task (job_at run n).task (job_at run k).arrival (job_at run n).arrival k n same earlier))
