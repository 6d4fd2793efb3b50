-- proofs of the laws; nothing here is to be believed
use Rattle.std.proofs.Common.{◌≡◌, ℕ, ◌+◌, ◌<◌, ◌≤◌, Bool, true, false, cond, refl, sym, ap, subst, inl, inr, arith, leb, pos, ◌+ℤ◌, ◌-ℤ◌, ◌<ℤ◌, ◌≤ℤ◌}
use Rattle.std.proofs.lemmas.Int.{ints}
use Rattle.std.proofs.lemmas.Bool.{cases_lt, and_from, ltb-true, lt-ltb}
use Rattle.std.proofs.lemmas.Bool.Decides.{nat_tests}
use Rattle.lists.specs.Limits.{greatest_number}
use Rattle.task_sheet.specs.SheetParts.{SheetParts}
use Rattle.task_sheet.specs.Sheets.{task_at, IsValidSheet}
use Rattle.task_sheet.specs.Limits.{jitter_high}
use Rattle.policy.specs.declared.keys.Cap.TheVariants.{Nothing, All}
use Rattle.policy.specs.declared.keys.Key.{Key}
use Rattle.policy.specs.Keys.{key_le}
use Rattle.policy.specs.PolicyLaws.{IsLawfulPolicy, Admits, GrowsTo, IsLimited}
use Rattle.policy.specs.Policies.{fp_meaning, edf_meaning, fifo_meaning}

pub same_cap : (b : Bool) → GrowsTo (cond b All Nothing) (cond b All Nothing)
same_cap true = tt
same_cap false = tt

pub no_limit : (b : Bool) → IsLimited (cond b All Nothing)
no_limit true = tt
no_limit false = tt

-- fixed priority keeps the laws
pub fp_lawful : (sheet : SheetParts) → IsValidSheet sheet → IsLawfulPolicy fp_meaning sheet
fp_lawful sheet ok = record {
  own_class = λ i b. grind (arith, nat_tests);
  higher_class = λ k j b c h. grind (arith, ints, nat_tests);
  class_closed = λ i k j a b c h e. grind (arith, ints, nat_tests);
  in_order = λ k j b c e h. let d = ap (λ (w : ℕ). (task_at sheet w).priority) e in grind (arith, ints);
  capped = λ start a k j b c tk tj ne e h l.
      let t : leb (task_at sheet j.task).priority (task_at sheet k.task).priority ≡ true = grind (arith, ints, nat_tests) in
      subst (λ w. Admits (cond w All Nothing) start (k.arrival + (task_at sheet k.task).jitter)) (sym t) tt;
  blocks = λ start a k j b c tk tj ne e h l. grind (arith, ints, nat_tests);
  cap_grows = λ i o a b c d ne h. same_cap (leb (task_at sheet i).priority (task_at sheet o).priority);
  block_falls = λ i o a b c d ne h e. e;
  cap_limited = λ i o a b c ne h. no_limit (leb (task_at sheet i).priority (task_at sheet o).priority);
  cap_class = λ i o a b c ne e. ap (λ (w : Bool). cond w All Nothing) e;
  outside_delays = λ i o b c e. grind (arith, nat_tests);
  block_delays = λ i o a b c ne e. inl e;
}

-- a tick, as a key
abbrev tick_key : ℕ → Key
tick_key d = record { high = pos d; low = pos 0 }

no_later : (d e : ℕ) → key_le (tick_key d) (tick_key e) ≡ true → d ≤ e
no_later d e h = grind (arith, ints)

sooner : (d e : ℕ) → key_le (tick_key d) (tick_key e) ≡ false → e < d
sooner d e h = grind (arith, ints)

-- job j of a task with deadline own is released at offset a; another job, as urgent, arrives at b
within_cap : (b start a j own other jitter : ℕ) → j ≤ start + a → b + other ≤ j + own →
    pos (b + jitter) <ℤ (pos start +ℤ (pos (a + 1 + own + jitter) -ℤ pos other))
within_cap b start a j own other jitter late h = omega (arith, ints)

-- with no jitter who blocks has a later deadline than every job that arrives in the window
none_within : (a own other own_jitter other_jitter : ℕ) → own + a < other + own_jitter → own_jitter + other_jitter ≡ 0 →
    (pos (a + 1 + own + other_jitter) -ℤ pos other) ≤ℤ pos 0
none_within a own other own_jitter other_jitter late none = omega (arith, ints)

-- earliest deadline first keeps the laws
pub edf_lawful : (sheet : SheetParts) → IsValidSheet sheet → IsLawfulPolicy edf_meaning sheet
edf_lawful sheet ok = record {
  own_class = λ i b. refl;
  higher_class = λ k j b c h. refl;
  class_closed = λ i k j a b c h e. refl;
  in_order = λ k j b c e h. let d = ap (λ (w : ℕ). (task_at sheet w).deadline) e in grind (arith, ints);
  capped = λ start a k j b c tk tj ne e h l.
      let own = task_at sheet j.task in
      let other = task_at sheet k.task in
      within_cap k.arrival start a j.arrival own.deadline other.deadline other.jitter (omega (arith, tj.after))
      (no_later (k.arrival + other.deadline) (j.arrival + own.deadline) l);
  blocks = λ start a k j b c tk tj ne e h l.
      let own = task_at sheet j.task in
      let other = task_at sheet k.task in
      let later = sooner (k.arrival + other.deadline) (j.arrival + own.deadline) l in
      lt-ltb (own.deadline + a) (other.deadline + own.jitter) (omega (arith, tk.after, tj.soon));
  cap_grows = λ i o a b c d ne h. omega (arith, ints);
  block_falls = λ i o a b c d ne h e. grind (arith, nat_tests);
  cap_limited = λ i o a b c ne h.
      let own : (task_at sheet i).deadline ≤ greatest_number = (ok.each i b).deadline_high in
      let other : (task_at sheet o).jitter ≤ greatest_number = jitter_high (task_at sheet o) (ok.each o c) in
      omega (arith, ints);
  cap_class = λ i o a b c ne e. absurd (cc);
  outside_delays = λ i o b c e. absurd (cc);
  block_delays = λ i o a b c ne e.
      let own = task_at sheet i in
      let other = task_at sheet o in
      let later = ltb-true (own.deadline + a) (other.deadline + own.jitter) e in
      elim (cases_lt 0 (own.jitter + other.jitter)) [
        | inl some ↦ inl (and_from _ _ (lt-ltb own.deadline (other.deadline + own.jitter) (omega arith)) (lt-ltb 0 (own.jitter + other.jitter) some))
        | inr none ↦ inr (none_within a own.deadline other.deadline own.jitter other.jitter later (omega arith))
      ];
}

-- first in, first out keeps the laws
pub fifo_lawful : (sheet : SheetParts) → IsValidSheet sheet → IsLawfulPolicy fifo_meaning sheet
fifo_lawful sheet ok = record {
  own_class = λ i b. refl;
  higher_class = λ k j b c h. refl;
  class_closed = λ i k j a b c h e. refl;
  in_order = λ k j b c e h. grind (arith, ints);
  capped = λ start a k j b c tk tj ne e h l.
      let early = no_later k.arrival j.arrival l in
      omega (arith, ints, tj.after);
  blocks = λ start a k j b c tk tj ne e h l.
      let later = sooner k.arrival j.arrival l in
      lt-ltb a (task_at sheet j.task).jitter (omega (arith, tk.after, tj.soon));
  cap_grows = λ i o a b c d ne h. omega (arith, ints);
  block_falls = λ i o a b c d ne h e. grind (arith, nat_tests);
  cap_limited = λ i o a b c ne h. let other : (task_at sheet o).jitter ≤ greatest_number = jitter_high (task_at sheet o) (ok.each o c) in omega (arith, ints);
  cap_class = λ i o a b c ne e. absurd (cc);
  outside_delays = λ i o b c e. absurd (cc);
  block_delays = λ i o a b c ne e. inl (grind (arith, nat_tests));
}
