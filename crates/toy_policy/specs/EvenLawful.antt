-- the proof that cuts at even services keep the laws of a kind of preemption; nothing here is to be believed
use Rattle.std.proofs.Common.{◌≡◌, ℕ, ◌+◌, ◌-◌, ◌%◌, ◌<◌, ◌≤◌, ◌==◌, ◌||◌, Bool, true, false, cond, refl, ◌∙◌, ap, subst, inl, inr, arith, leb}
use Rattle.std.proofs.Math.Nat.{add-mod_right}
use Rattle.std.proofs.lemmas.Bool.{cases_Bool, cases_lt, leb-true, eqb-true, and_parts, or_cases, le-leb}
use Rattle.std.proofs.lemmas.Bool.Decides.{nat_tests}
use Rattle.lists.specs.Ranges.{is_between}
use Rattle.task_sheet.specs.declared.tasks.Task.{Task}
use Rattle.task_sheet.specs.declared.tasks.Job.{Job}
use Rattle.task_sheet.specs.Sheets.{IsTask}
use Rattle.preemption.specs.CutLaws.{IsLawfulCut, HasNextCut}
use Rattle.preemption.specs.Segments.{or_left, or_right}
use Rattle.toy_policy.specs.EvenCuts.{even_meaning}

-- within 1..cost
record IsThreshold (cost n : ℕ) : Type 0 where
  low : 1 ≤ n
  high : n ≤ cost

threshold_within : (cost : ℕ) → 1 ≤ cost → IsThreshold cost (cond (cost % 2 == 0) (cost - 1) cost)
threshold_within cost h = elim (cases_Bool (cost % 2 == 0)) [
  | inl even ↦ rw even (record { low = omega (arith, eqb-true (cost % 2) 0 even); high = omega arith })
  | inr odd ↦ rw odd (record { low = h; high = omega arith })
]

fitting_cost : (task : Task) (j : Job) → is_between 1 task.cost j.cost ≡ true → (1 ≤ j.cost) × (j.cost ≤ task.cost)
fitting_cost task j f =
    let range = and_parts (leb 1 j.cost) (leb j.cost task.cost) f in
    (leb-true 1 j.cost range.0, leb-true j.cost task.cost range.1)

-- two ticks on, or at the end, a job can be cut again
next_even : (task : Task) (j : Job) (s : ℕ) → j.cost ≤ task.cost → ((s % 2 == 0) || leb j.cost s) ≡ true → s < j.cost → HasNextCut even_meaning task j s
next_even task j s high cut l = elim (or_cases (s % 2 == 0) (leb j.cost s) cut) [
  | inr over ↦ absurd (omega (arith, leb-true j.cost s over))
  | inl even ↦ elim (cases_lt (s + 1) j.cost) [
    | inl more ↦ record {
      at = s + 2;
      later = omega arith;
      near = omega arith;
      cut = or_left ((s + 2) % 2 == 0) (leb j.cost (s + 2)) (ap (λ (n : ℕ). n == 0) (add-mod_right s 2) ∙ even);
    }
    | inr last ↦ record {
      at = j.cost;
      later = l;
      near = omega arith;
      cut = or_right (j.cost % 2 == 0) (leb j.cost j.cost) (le-leb j.cost j.cost (omega arith));
    }
  ]
]

uncut_at_odd : (s cost : ℕ) → s % 2 ≡ 1 → s < cost → ((s % 2 == 0) || leb cost s) ≡ false
uncut_at_odd s cost odd l = grind (arith, nat_tests)

-- between the threshold and the end there is an odd service at most
uncut_after : (task : Task) (j : Job) (s : ℕ) → j.cost ≤ task.cost → cond (task.cost % 2 == 0) (task.cost - 1) task.cost ≤ s →
    s < j.cost → ((s % 2 == 0) || leb j.cost s) ≡ false
uncut_after task j s high h l = elim (cases_Bool (task.cost % 2 == 0)) [
  | inl even ↦
      let past : task.cost - 1 ≤ s = subst (λ (b : Bool). cond b (task.cost - 1) task.cost ≤ s) even h in
      uncut_at_odd s j.cost (omega (arith, eqb-true (task.cost % 2) 0 even)) l
  | inr odd ↦
      let past : task.cost ≤ s = subst (λ (b : Bool). cond b (task.cost - 1) task.cost ≤ s) odd h in
      absurd (omega arith)
]

pub even_lawful : (task : Task) → IsTask task → IsLawfulCut even_meaning task
even_lawful task ok = record {
  longest_positive = omega (arith, ok.cost_low);
  longest_bound = omega arith;
  threshold_positive = (threshold_within task.cost ok.cost_low).low;
  threshold_bound = (threshold_within task.cost ok.cost_low).high;
  cost_positive = λ j f. (fitting_cost task j f).0;
  cost_bound = λ j f. (fitting_cost task j f).1;
  cut_first = λ j f. refl;
  cut_last = λ j s f h. or_right (s % 2 == 0) (leb j.cost s) (le-leb j.cost s h);
  cut_next = λ j s f c h. next_even task j s (fitting_cost task j f).1 c h;
  last_part = λ j s f h l. uncut_after task j s (fitting_cost task j f).1 h l;
}
