-- What demand and points make of policies that say the same.
use Rattle.std.proofs.Common.{◌≡◌, ℕ, zero, suc, ◌+◌, ◌-◌, ◌*◌, ◌<◌, ◌==◌, ◌&&◌, ◌||◌, max, Bool, true, false, cond, not, List, ◌∷◌, length, refl, ap}
use Rattle.std.proofs.Common.{inl, inr, arith}
use Rattle.std.proofs.lemmas.Bool.{cases_Bool, cases_eq, ne_eqb, eq-eqb}
use Rattle.lists.specs.Sums.{max_below}
use Rattle.lists.proofs.SumFacts.{sum_same}
use Rattle.lists.proofs.FirstFacts.{all_same}
use Rattle.task_sheet.specs.declared.tasks.PolicyKind.{PolicyKind}
use Rattle.task_sheet.specs.SheetParts.{SheetParts}
use Rattle.task_sheet.specs.Sheets.{task_at}
use Rattle.policy.specs.declared.keys.Cap.{Cap}
use Rattle.policy.specs.PolicyMeaning.{PolicyMeaning}
use Rattle.policy.specs.Offsets.{cap_count, compared_of}
use Rattle.preemption.specs.CutMeaning.{CutMeaning}
use Rattle.demand.specs.Demand.{capped_count, own_of, other_of, others_of, block_of, blocking_of, need_of, delay_of, class_part_of, window_need_of}
use Rattle.search_space.specs.Points.{same_at, is_point}
use Rattle.solver.specs.Points.{passing, points_below}

-- the sheet with another policy
abbrev pub twin : SheetParts → PolicyKind → SheetParts
twin s k = record { policy = k; supply = s.supply; tasks = s.tasks }

-- two policies say the same of the tasks of two sheets, keys aside
pub record IsAlike (p q : PolicyMeaning) (s t : SheetParts) : Type 0 where
  pub class : (i o : ℕ) → i < length s.tasks → o < length s.tasks → p.class s i o ≡ q.class t i o
  pub cap : (i o a : ℕ) → i < length s.tasks → o < length s.tasks → (o ≡ i → ⊥) → p.cap s i o a ≡ q.cap t i o a
  pub may_block : (i o a : ℕ) → i < length s.tasks → o < length s.tasks → (o ≡ i → ⊥) → p.may_block s i o a ≡ q.may_block t i o a
  pub may_delay : (i o : ℕ) → i < length s.tasks → o < length s.tasks → (o ≡ i → ⊥) → p.may_delay s i o ≡ q.may_delay t i o

max_same : (f g : ℕ → ℕ) (n : ℕ) → ((k : ℕ) → k < n → f k ≡ g k) → max_below f n ≡ max_below g n
max_same f g zero same = refl
max_same f g (suc n) same = rw (max_same f g n (λ k b. same k (omega arith)), same n (omega arith)) refl

-- what is the same of all others is the same where the task itself is left out
but_itself : {A : Type 0} (o i : ℕ) (own x y : A) → ((o ≡ i → ⊥) → x ≡ y) → cond (o == i) own x ≡ cond (o == i) own y
but_itself o i own x y same = elim (cases_eq o i) [
  | inl e ↦ rw (eq-eqb o i e) refl
  | inr ne ↦ ap (cond (o == i) own) (same ne)
]

others_only : (o i : ℕ) (x y : Bool) → ((o ≡ i → ⊥) → x ≡ y) → (not (o == i) && x) ≡ (not (o == i) && y)
others_only o i x y same = elim (cases_eq o i) [
  | inl e ↦ rw (eq-eqb o i e) refl
  | inr ne ↦ ap (λ (w : Bool). not (o == i) && w) (same ne)
]

passing_same : (f g : ℕ → Bool) → ((k : ℕ) → f k ≡ g k) → (from n : ℕ) → passing f from n ≡ passing g from n
passing_same f g same from zero = refl
passing_same f g same from (suc n) = rw (same from, passing_same f g same (suc from) n) refl

module _ (p q : PolicyMeaning) (m : CutMeaning) (s : SheetParts) (k : PolicyKind) (same : IsAlike p q s (twin s k)) (i : ℕ) (here : i < length s.tasks) where
  pub others_same : (a x : ℕ) → others_of p s i a x ≡ others_of q (twin s k) i a x
  unfolding others_of
  others_same a x = sum_same (other_of p s i a x) (other_of q (twin s k) i a x) (length s.tasks)
      (λ o b. but_itself o i 0 _ _ (λ ne. ap
      (λ (w : Cap). (task_at s o).cost * capped_count (task_at s o).curve (task_at s o).jitter w x) (same.cap i o a here b ne)))

  pub blocking_same : (a : ℕ) → blocking_of p m s i a ≡ blocking_of q m (twin s k) i a
  unfolding blocking_of
  blocking_same a = max_same (block_of p m s i a) (block_of q m (twin s k) i a) (length s.tasks)
      (λ o b. ap (λ (w : Bool). cond w (m.longest (task_at s o) - 1) 0) (others_only o i _ _ (λ ne. same.may_block i o a here b ne)))

  pub own_same : (a : ℕ) → own_of m s i a ≡ own_of m (twin s k) i a
  unfolding own_of
  own_same a = refl

  pub need_same : (a x : ℕ) → need_of p m s i a x ≡ need_of q m (twin s k) i a x
  unfolding need_of
  need_same a x = rw (blocking_same a, own_same a, others_same a x) refl

  delays_same : max_below (delay_of p m s i) (length s.tasks) ≡ max_below (delay_of q m (twin s k) i) (length s.tasks)
  delays_same = max_same _ _ (length s.tasks)
      (λ o b. ap (λ (w : Bool). cond w (m.longest (task_at s o) - 1) 0) (others_only o i _ _ (λ ne. same.may_delay i o here b ne)))

  pub window_need_same : (l : ℕ) → window_need_of p m s i l ≡ window_need_of q m (twin s k) i l
  unfolding window_need_of
  window_need_same l =
      let parts = sum_same (class_part_of p s i l) (class_part_of q (twin s k) i l) (length s.tasks)
      (λ o b. rw (same.class i o here b) refl) in
      rw (delays_same, parts) refl

  compared_same : (a o : ℕ) → o < length s.tasks → compared_of p s i a o ≡ compared_of q (twin s k) i a o
  compared_same a o b = but_itself o i _ _ _ (λ ne. ap (cap_count (task_at s o).curve) (same.cap i o a here b ne))

  pub at_same : (a b : ℕ) → same_at p s i a b ≡ same_at q (twin s k) i a b
  at_same a b = all_same _ _ (length s.tasks) (λ o l. rw (compared_same a o l, compared_same b o l) refl)

  is_point_same : (a : ℕ) → is_point p s i a ≡ is_point q (twin s k) i a
  unfolding is_point
  is_point_same a = ap (λ (w : Bool). (a == 0) || not w) (at_same (a - 1) a)

  pub points_same : (window : ℕ) → points_below p s i window ≡ points_below q (twin s k) i window
  unfolding points_below
  points_same window = passing_same _ _ is_point_same 0 window
