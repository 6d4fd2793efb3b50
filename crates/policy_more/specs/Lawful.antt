-- proofs of the laws, for any point up to 10^9 from 0; nothing here is to be believed
use Rattle.std.proofs.Common.{◌≡◌, ℕ, ℤ, ◌+◌, ◌<◌, ◌≤◌, ◌⊎◌, Bool, true, false, cond, refl, sym, ap, subst, ◌∙◌, inl, inr, arith, leb, pos, neg_ℤ}
use Rattle.std.proofs.Common.{◌+ℤ◌, ◌-ℤ◌, ◌<ℤ◌, ◌≤ℤ◌, int_lt}
use Rattle.std.proofs.lemmas.Int.{ints}
use Rattle.std.proofs.lemmas.Bool.{cases_lt, cases_order, and_from, lt-ltb}
use Rattle.std.proofs.lemmas.Bool.Decides.{nat_tests}
use Rattle.lists.specs.Limits.{greatest_number}
use Rattle.task_sheet.specs.SheetParts.{SheetParts}
use Rattle.task_sheet.specs.Sheets.{task_at, IsValidSheet}
use Rattle.task_sheet.specs.Limits.{jitter_high, point_low, point_high}
use Rattle.policy.specs.declared.keys.Cap.{Cap}
use Rattle.policy.specs.declared.keys.Cap.TheVariants.{Nothing, At, All}
use Rattle.policy.specs.declared.keys.Key.{Key}
use Rattle.policy.specs.Keys.{key_le}
use Rattle.policy.specs.PolicyLaws.{IsLawfulPolicy, Admits, GrowsTo, AdmitsNone, IsLimited}
use Rattle.policy_more.specs.PointPolicies.{gel_meaning, elf_meaning, by_priority}

-- arrival plus point, as a key
abbrev point_key : ℤ → Key
point_key d = record { high = d; low = pos 0 }

no_later_point : (d e : ℤ) → key_le (point_key d) (point_key e) ≡ true → d ≤ℤ e
no_later_point d e h = grind (arith, ints)

sooner_point : (d e : ℤ) → key_le (point_key d) (point_key e) ≡ false → e <ℤ d
sooner_point d e h = grind (arith, ints)

-- job j of a task with point own is released at offset a; another job, as urgent, arrives at b
within_point_cap : (b start a j jitter : ℕ) (own other : ℤ) → j ≤ start + a → (pos b +ℤ other) ≤ℤ (pos j +ℤ own) →
    pos (b + jitter) <ℤ (pos start +ℤ ((pos (a + 1 + jitter) +ℤ own) -ℤ other))
within_point_cap b start a j jitter own other late h = omega (arith, ints)

-- job j, released at offset a and late by its jitter at most, is more urgent than one that was released before the window
blocked : (b start a j jitter : ℕ) (own other : ℤ) → b < start → start + a ≤ j + jitter → (pos j +ℤ own) <ℤ (pos b +ℤ other) →
    int_lt (own +ℤ pos a) (other +ℤ pos jitter) ≡ true
blocked b start a j jitter own other before soon later = grind (arith, ints)

-- with no jitter who blocks has a later point than every job that arrives in the window
none_in_window : (a own_jitter other_jitter : ℕ) (own other : ℤ) → int_lt (own +ℤ pos a) (other +ℤ pos own_jitter) ≡ true →
    own_jitter + other_jitter ≡ 0 → ((pos (a + 1 + other_jitter) +ℤ own) -ℤ other) ≤ℤ pos 0
none_in_window a own_jitter other_jitter own other late none = grind (arith, ints)

-- who blocks has a later point, but for the jitter
sooner_without_offset : (a own_jitter : ℕ) (own other : ℤ) → int_lt (own +ℤ pos a) (other +ℤ pos own_jitter) ≡ true →
    int_lt own (other +ℤ pos own_jitter) ≡ true
sooner_without_offset a own_jitter own other late = grind (arith, ints)

limited : (a jitter : ℕ) (own other : ℤ) → a < greatest_number → jitter ≤ greatest_number → own ≤ℤ pos greatest_number →
    neg_ℤ (pos greatest_number) ≤ℤ other → ((pos (a + 1 + jitter) +ℤ own) -ℤ other) ≤ℤ pos 4000000000
limited a jitter own other early late high low = omega (arith, ints)

-- by priority points keeps the laws
pub gel_lawful : (sheet : SheetParts) → IsValidSheet sheet → IsLawfulPolicy gel_meaning sheet
gel_lawful sheet ok = record {
  own_class = λ i b. refl;
  higher_class = λ k j b c h. refl;
  class_closed = λ i k j a b c h e. refl;
  in_order = λ k j b c e h. let d = ap (λ (w : ℕ). (task_at sheet w).point) e in grind (arith, ints);
  capped = λ start a k j b c tk tj ne e h l.
      let own = task_at sheet j.task in
      let other = task_at sheet k.task in
      within_point_cap k.arrival start a j.arrival other.jitter own.point other.point (omega (arith, tj.after))
      (no_later_point (pos k.arrival +ℤ other.point) (pos j.arrival +ℤ own.point) l);
  blocks = λ start a k j b c tk tj ne e h l.
      let own = task_at sheet j.task in
      let other = task_at sheet k.task in
      blocked k.arrival start a j.arrival own.jitter own.point other.point (omega (arith, tk.after)) (omega (arith, tj.soon))
      (sooner_point (pos k.arrival +ℤ other.point) (pos j.arrival +ℤ own.point) l);
  cap_grows = λ i o a b c d ne h. omega (arith, ints);
  block_falls = λ i o a b c d ne h e. grind (arith, ints);
  cap_limited = λ i o a b c ne h.
      limited a (task_at sheet o).jitter (task_at sheet i).point (task_at sheet o).point h
      (jitter_high (task_at sheet o) (ok.each o c)) (point_high (task_at sheet i) (ok.each i b)) (point_low (task_at sheet o) (ok.each o c));
  cap_class = λ i o a b c ne e. absurd (cc);
  outside_delays = λ i o b c e. absurd (cc);
  block_delays = λ i o a b c ne e.
      let own = task_at sheet i in
      let other = task_at sheet o in
      elim (cases_lt 0 (own.jitter + other.jitter)) [
        | inl some ↦ inl (and_from _ _ (sooner_without_offset a own.jitter own.point other.point e) (lt-ltb 0 (own.jitter + other.jitter) some))
        | inr none ↦ inr (none_in_window a own.jitter other.jitter own.point other.point e (omega arith))
      ];
}

pub above : {A : Type 0} (sheet : SheetParts) (i o : ℕ) (x y z : A) → (task_at sheet i).priority < (task_at sheet o).priority → by_priority sheet i o x y z ≡ x
above sheet i o x y z h = grind (arith, nat_tests)

pub level : {A : Type 0} (sheet : SheetParts) (i o : ℕ) (x y z : A) → (task_at sheet i).priority ≡ (task_at sheet o).priority → by_priority sheet i o x y z ≡ y
level sheet i o x y z h = grind (arith, nat_tests)

pub below : {A : Type 0} (sheet : SheetParts) (i o : ℕ) (x y z : A) → (task_at sheet o).priority < (task_at sheet i).priority → by_priority sheet i o x y z ≡ z
below sheet i o x y z h = grind (arith, nat_tests)

-- what holds of each of the three, in its case
each_case : {A : Type 0} (P : A → Type 0) (sheet : SheetParts) (i o : ℕ) (x y z : A) →
    ((task_at sheet i).priority < (task_at sheet o).priority → P x) → ((task_at sheet i).priority ≡ (task_at sheet o).priority → P y) →
    ((task_at sheet o).priority < (task_at sheet i).priority → P z) → P (by_priority sheet i o x y z)
each_case P sheet i o x y z greater equal lower = elim (cases_order (task_at sheet i).priority (task_at sheet o).priority) [
  | inl e ↦ subst P (sym (level sheet i o x y z e)) (equal e)
  | inr (inl h) ↦ subst P (sym (above sheet i o x y z h)) (greater h)
  | inr (inr h) ↦ subst P (sym (below sheet i o x y z h)) (lower h)
]

-- a priority, and arrival plus point, as a key
abbrev rank_key : ℕ → ℤ → Key
rank_key p d = record { high = pos greatest_number -ℤ pos p; low = d }

-- who is as urgent has no lower priority
no_lower : (p q : ℕ) (d e : ℤ) → key_le (rank_key p d) (rank_key q e) ≡ true → q ≤ p
no_lower p q d e h = grind (arith, ints)

-- among equal priorities the points decide
as_urgent : (p q : ℕ) (d e : ℤ) → p ≡ q → key_le (rank_key p d) (rank_key q e) ≡ key_le (point_key d) (point_key e)
as_urgent p q d e same = grind (arith, ints)

-- who is less urgent has no greater priority
no_greater : (p q : ℕ) (d e : ℤ) → key_le (rank_key p d) (rank_key q e) ≡ false → p ≤ q
no_greater p q d e h = grind (arith, ints)

-- by priorities, then by points keeps the laws
pub elf_lawful : (sheet : SheetParts) → IsValidSheet sheet → IsLawfulPolicy elf_meaning sheet
elf_lawful sheet ok =
    let gel = gel_lawful sheet ok in
    record {
      own_class = λ i b. grind (arith, nat_tests);
      higher_class = λ k j b c h. grind (arith, ints, nat_tests);
      class_closed = λ i k j a b c h e. grind (arith, ints, nat_tests);
      in_order = λ k j b c e h.
          let own = task_at sheet j.task in
          let other = task_at sheet k.task in
          let same : other.priority ≡ own.priority = ap (λ (w : ℕ). (task_at sheet w).priority) e in
          as_urgent other.priority own.priority (pos k.arrival +ℤ other.point) (pos j.arrival +ℤ own.point) same ∙ gel.in_order k j b c e h;
      capped = λ start a k j b c tk tj ne e h l.
          let own = task_at sheet j.task in
          let other = task_at sheet k.task in
          each_case (λ w. Admits w start (k.arrival + other.jitter)) sheet j.task k.task All (gel_meaning.cap sheet j.task k.task a) Nothing
          (λ _. tt)
          (λ same. gel.capped start a k j b c tk tj ne e h
          (sym (as_urgent other.priority own.priority (pos k.arrival +ℤ other.point) (pos j.arrival +ℤ own.point) (sym same)) ∙ l))
          (λ lower. absurd (omega (arith, lower, no_lower other.priority own.priority (pos k.arrival +ℤ other.point) (pos j.arrival +ℤ own.point) l)));
      blocks = λ start a k j b c tk tj ne e h l.
          let own = task_at sheet j.task in
          let other = task_at sheet k.task in
          each_case (λ w. w ≡ true) sheet j.task k.task false (gel_meaning.may_block sheet j.task k.task a) true
          (λ greater. absurd (omega (arith, greater, no_greater other.priority own.priority (pos k.arrival +ℤ other.point) (pos j.arrival +ℤ own.point) l)))
          (λ same. gel.blocks start a k j b c tk tj ne e h
          (sym (as_urgent other.priority own.priority (pos k.arrival +ℤ other.point) (pos j.arrival +ℤ own.point) (sym same)) ∙ l))
          (λ _. refl);
      cap_grows = λ i o a b c d ne h. elim (cases_order (task_at sheet i).priority (task_at sheet o).priority) [
        | inl e ↦ rw (
          level sheet i o All (gel_meaning.cap sheet i o a) Nothing e,
          level sheet i o All (gel_meaning.cap sheet i o b) Nothing e,
        ) (gel.cap_grows i o a b c d ne h)
        | inr (inl e) ↦ rw (above sheet i o All (gel_meaning.cap sheet i o a) Nothing e, above sheet i o All (gel_meaning.cap sheet i o b) Nothing e) tt
        | inr (inr e) ↦ rw (below sheet i o All (gel_meaning.cap sheet i o a) Nothing e, below sheet i o All (gel_meaning.cap sheet i o b) Nothing e) tt
      ];
      block_falls = λ i o a b c d ne h. elim (cases_order (task_at sheet i).priority (task_at sheet o).priority) [
        | inl e ↦ rw (
          level sheet i o false (gel_meaning.may_block sheet i o a) true e,
          level sheet i o false (gel_meaning.may_block sheet i o b) true e,
        ) (gel.block_falls i o a b c d ne h)
        | inr (inl e) ↦ rw (
          above sheet i o false (gel_meaning.may_block sheet i o a) true e,
          above sheet i o false (gel_meaning.may_block sheet i o b) true e,
        ) (λ f. f)
        | inr (inr e) ↦ λ _. below sheet i o false (gel_meaning.may_block sheet i o a) true e
      ];
      cap_limited = λ i o a b c ne h. each_case IsLimited sheet i o All (gel_meaning.cap sheet i o a) Nothing (λ _. tt)
          (λ _. gel.cap_limited i o a b c ne h) (λ _. tt);
      cap_class = λ i o a b c ne e. below sheet i o All (gel_meaning.cap sheet i o a) Nothing (grind (arith, nat_tests));
      outside_delays = λ i o b c e. below sheet i o false (gel_meaning.may_delay sheet i o) true (grind (arith, nat_tests));
      block_delays = λ i o a b c ne. elim (cases_order (task_at sheet i).priority (task_at sheet o).priority) [
        | inl e ↦ rw (
          level sheet i o false (gel_meaning.may_block sheet i o a) true e,
          level sheet i o false (gel_meaning.may_delay sheet i o) true e,
          level sheet i o All (gel_meaning.cap sheet i o a) Nothing e,
        ) (gel.block_delays i o a b c ne)
        | inr (inl e) ↦ rw (above sheet i o false (gel_meaning.may_block sheet i o a) true e) (λ f. absurd (cc))
        | inr (inr e) ↦ λ _. inl (below sheet i o false (gel_meaning.may_delay sheet i o) true e)
      ];
    }
