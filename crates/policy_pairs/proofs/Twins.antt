-- The pairs of policies that say the same of some sheets.
use Rattle.std.proofs.Common.{◌≡◌, ◌≢◌, ℕ, ℤ, ◌+◌, ◌<◌, ◌≤◌, ◌&&◌, nat_le, nat_lt, Bool, true, false, cond, length, refl, sym, ap, subst, ◌∙◌, inl}
use Rattle.std.proofs.Common.{inr, arith, pos, ◌+ℤ◌, ◌-ℤ◌, int_lt}
use Rattle.std.proofs.lemmas.Int.{ints}
use Rattle.std.proofs.lemmas.Bool.{cases_Bool, cases_order, le-leb, lt-ltb, ltb-true}
use Rattle.std.proofs.lemmas.Bool.Decides.{nat_tests}
use Rattle.task_sheet.specs.declared.tasks.PolicyKind.{PolicyKind}
use Rattle.task_sheet.specs.declared.tasks.PolicyKind.TheVariants.{Fp, Edf, Fifo, Gel, Elf}
use Rattle.task_sheet.specs.declared.tasks.SupplySpec.{SupplySpec}
use Rattle.task_sheet.specs.SheetParts.{SheetParts}
use Rattle.task_sheet.specs.Sheets.{task_at, parts_of}
use Rattle.policy.specs.declared.keys.Cap.{Cap}
use Rattle.policy.specs.declared.keys.Cap.TheVariants.{Nothing, At, All}
use Rattle.policy.specs.Policies.{fp_meaning, edf_meaning, fifo_meaning}
use Rattle.policy_more.specs.PointPolicies.{gel_meaning, elf_meaning, by_priority}
use Rattle.policy_more.specs.Meanings.{meaning_of}
use Rattle.policy_more.specs.Lawful.{above, level, below}
use Rattle.preemption.specs.CutMeaning.{CutMeaning}
use Rattle.policy_pairs.specs.Pairs.{DifferInPolicy, AreJudgedAlike, PointsAreDeadlines, HaveOnePoint, HaveOnePriority, HaveDistinctPriorities}
use Rattle.policy_pairs.specs.Pairs.{GelIsEdf, GelIsFifo, ElfIsGel, ElfIsFp}
use Rattle.policy_pairs.proofs.Alike.{twin, IsAlike}
use Rattle.policy_pairs.proofs.AlikeConditions.{failed_same}
use Rattle.policy_pairs.proofs.AlikeBest.{best_same}

-- sheets that differ in the policy alone are judged alike where their policies say the same
judged_alike : (m : CutMeaning) (sbf : ℕ → ℕ) (one other : PolicyKind) (s t : SheetParts) → DifferInPolicy one other s t →
    IsAlike (meaning_of one) (meaning_of other) s (twin s other) → AreJudgedAlike m sbf s t
judged_alike m sbf one other s t differ same =
    let first : IsAlike (meaning_of s.policy) (meaning_of other) s (twin s other) =
    subst (λ (w : PolicyKind). IsAlike (meaning_of w) (meaning_of other) s (twin s other)) (sym differ.first) same in
    let alike : IsAlike (meaning_of s.policy) (meaning_of t.policy) s (twin s t.policy) =
    subst (λ (w : PolicyKind). IsAlike (meaning_of s.policy) (meaning_of w) s (twin s w)) (sym differ.second) first in
    let twins : AreJudgedAlike m sbf s (twin s t.policy) = record {
      failed = failed_same (meaning_of s.policy) (meaning_of t.policy) m sbf s t.policy alike;
      best = best_same (meaning_of s.policy) (meaning_of t.policy) m sbf s t.policy alike;
    } in
    let whole : twin s t.policy ≡ t = ap (λ (w : SupplySpec). parts_of t.policy w s.tasks) differ.supply ∙ ap (parts_of t.policy t.supply) differ.tasks in
    subst (AreJudgedAlike m sbf s) whole twins

same_test : (b c : Bool) → (b ≡ true → c ≡ true) → (c ≡ true → b ≡ true) → b ≡ c
same_test true c there back = sym (there refl)
same_test false true there back = back refl
same_test false false there back = refl

cap_by_deadlines : (a jitter own other : ℕ) (u v : ℤ) → u ≡ pos own → v ≡ pos other →
    ((pos (a + 1 + jitter) +ℤ u) -ℤ v) ≡ (pos (a + 1 + own + jitter) -ℤ pos other)
cap_by_deadlines a jitter own other u v e f = omega (arith, ints)

block_by_deadlines : (a jitter own other : ℕ) (u v : ℤ) → u ≡ pos own → v ≡ pos other →
    int_lt (u +ℤ pos a) (v +ℤ pos jitter) ≡ nat_lt (own + a) (other + jitter)
block_by_deadlines a jitter own other u v e f = same_test _ _ (λ h. lt-ltb _ _ (grind (arith, ints))) (λ h. grind (arith, ints, nat_tests))

delay_by_deadlines : (jitter own other : ℕ) (u v : ℤ) → u ≡ pos own → v ≡ pos other → int_lt u (v +ℤ pos jitter) ≡ nat_lt own (other + jitter)
delay_by_deadlines jitter own other u v e f = same_test _ _ (λ h. lt-ltb _ _ (grind (arith, ints))) (λ h. grind (arith, ints, nat_tests))

pub gel_edf : (m : CutMeaning) (sbf : ℕ → ℕ) → GelIsEdf m sbf
gel_edf m sbf s t differ deadlines = judged_alike m sbf Gel Edf s t differ (record {
  class = λ i o b c. refl;
  cap = λ i o a b c ne. ap At (cap_by_deadlines a (task_at s o).jitter (task_at s i).deadline (task_at s o).deadline
      (task_at s i).point (task_at s o).point (deadlines i b) (deadlines o c));
  may_block = λ i o a b c ne. block_by_deadlines a (task_at s i).jitter (task_at s i).deadline (task_at s o).deadline
      (task_at s i).point (task_at s o).point (deadlines i b) (deadlines o c);
  may_delay = λ i o b c ne. ap (λ (w : Bool). w && nat_lt 0 ((task_at s i).jitter + (task_at s o).jitter))
      (delay_by_deadlines (task_at s i).jitter (task_at s i).deadline (task_at s o).deadline (task_at s i).point
      (task_at s o).point (deadlines i b) (deadlines o c));
})

cap_by_arrivals : (n : ℕ) (u v : ℤ) → u ≡ v → ((pos n +ℤ u) -ℤ v) ≡ pos n
cap_by_arrivals n u v e = omega (arith, ints)

block_by_arrivals : (a jitter : ℕ) (u v : ℤ) → u ≡ v → int_lt (u +ℤ pos a) (v +ℤ pos jitter) ≡ nat_lt a jitter
block_by_arrivals a jitter u v e = same_test _ _ (λ h. lt-ltb _ _ (grind (arith, ints))) (λ h. grind (arith, ints, nat_tests))

some_jitter : (own other : ℕ) → (nat_lt 0 own && nat_lt 0 (own + other)) ≡ nat_lt 0 own
some_jitter own other = elim (cases_Bool (nat_lt 0 own)) [
  | inl t ↦ rw (t, lt-ltb 0 (own + other) (omega (arith, ltb-true 0 own t))) refl
  | inr f ↦ rw f refl
]

delay_by_arrivals : (own other : ℕ) (u v : ℤ) → u ≡ v → (int_lt u (v +ℤ pos own) && nat_lt 0 (own + other)) ≡ nat_lt 0 own
delay_by_arrivals own other u v e =
    let later : int_lt u (v +ℤ pos own) ≡ nat_lt 0 own = same_test _ _ (λ h. lt-ltb _ _ (grind (arith, ints))) (λ h. grind (arith, ints, nat_tests)) in
    ap (λ (w : Bool). w && nat_lt 0 (own + other)) later ∙ some_jitter own other

pub gel_fifo : (m : CutMeaning) (sbf : ℕ → ℕ) → GelIsFifo m sbf
gel_fifo m sbf s t differ equal = judged_alike m sbf Gel Fifo s t differ (record {
  class = λ i o b c. refl;
  cap = λ i o a b c ne. ap At (cap_by_arrivals (a + 1 + (task_at s o).jitter) (task_at s i).point (task_at s o).point (equal i o b c));
  may_block = λ i o a b c ne. block_by_arrivals a (task_at s i).jitter (task_at s i).point (task_at s o).point (equal i o b c);
  may_delay = λ i o b c ne. delay_by_arrivals (task_at s i).jitter (task_at s o).jitter (task_at s i).point (task_at s o).point (equal i o b c);
})

pub elf_gel : (m : CutMeaning) (sbf : ℕ → ℕ) → ElfIsGel m sbf
elf_gel m sbf s t differ equal = judged_alike m sbf Elf Gel s t differ (record {
  class = λ i o b c. le-leb _ _ (omega (arith, equal i o b c));
  cap = λ i o a b c ne. level s i o All _ Nothing (equal i o b c);
  may_block = λ i o a b c ne. level s i o false _ true (equal i o b c);
  may_delay = λ i o b c ne. level s i o false _ true (equal i o b c);
})

cap_by_priorities : (sheet : SheetParts) (i o : ℕ) (x : Cap) → (task_at sheet i).priority ≢ (task_at sheet o).priority →
    by_priority sheet i o All x Nothing ≡ cond (nat_le (task_at sheet i).priority (task_at sheet o).priority) All Nothing
cap_by_priorities sheet i o x differ = elim (cases_order (task_at sheet i).priority (task_at sheet o).priority) [
  | inl e ↦ absurd (differ e)
  | inr (inl h) ↦ above sheet i o All x Nothing h ∙ sym (ap (λ (w : Bool). cond w All Nothing) (le-leb _ _ (omega arith)))
  | inr (inr h) ↦
      let lower : nat_le (task_at sheet i).priority (task_at sheet o).priority ≡ false = grind (arith, nat_tests) in
      below sheet i o All x Nothing h ∙ sym (ap (λ (w : Bool). cond w All Nothing) lower)
]

block_by_priorities : (sheet : SheetParts) (i o : ℕ) (x : Bool) → (task_at sheet i).priority ≢ (task_at sheet o).priority →
    by_priority sheet i o false x true ≡ nat_lt (task_at sheet o).priority (task_at sheet i).priority
block_by_priorities sheet i o x differ = elim (cases_order (task_at sheet i).priority (task_at sheet o).priority) [
  | inl e ↦ absurd (differ e)
  | inr (inl h) ↦
      let higher : nat_lt (task_at sheet o).priority (task_at sheet i).priority ≡ false = grind (arith, nat_tests) in
      above sheet i o false x true h ∙ sym higher
  | inr (inr h) ↦ below sheet i o false x true h ∙ sym (lt-ltb _ _ h)
]

pub elf_fp : (m : CutMeaning) (sbf : ℕ → ℕ) → ElfIsFp m sbf
elf_fp m sbf s t differ distinct = judged_alike m sbf Elf Fp s t differ (record {
  class = λ i o b c. refl;
  cap = λ i o a b c ne. cap_by_priorities s i o _ (distinct i o b c (λ e. ne (sym e)));
  may_block = λ i o a b c ne. block_by_priorities s i o _ (distinct i o b c (λ e. ne (sym e)));
  may_delay = λ i o b c ne. block_by_priorities s i o _ (distinct i o b c (λ e. ne (sym e)));
})
