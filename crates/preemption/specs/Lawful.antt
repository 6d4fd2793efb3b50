-- proofs that the five kinds keep their laws; nothing here is to be believed
use Rattle.std.proofs.Common.{◌≡◌, ℕ, ◌+◌, ◌-◌, ◌<◌, ◌≤◌, ◌==◌, ◌&&◌, ◌||◌, Bool, true, false, List, length, refl, sym, ap, subst, inl, inr, arith, leb, sum}
use Rattle.std.specs.List.{list_all}
use Rattle.std.proofs.lemmas.Bool.{cases_Bool, leb-true, eqb-true, and_parts, or_cases, le-leb}
use Rattle.std.proofs.lemmas.Bool.Decides.{nat_tests}
use Rattle.lists.specs.Limits.{most_parts}
use Rattle.lists.specs.Ranges.{is_between}
use Rattle.task_sheet.specs.declared.tasks.Cut.{Cut}
use Rattle.task_sheet.specs.declared.tasks.Cut.TheVariants.{Full, Never, Fixed, Floating}
use Rattle.task_sheet.specs.declared.tasks.Task.{Task}
use Rattle.task_sheet.specs.declared.tasks.Job.{Job}
use Rattle.task_sheet.specs.Rules.{is_in_range, last_number}
use Rattle.task_sheet.specs.Sheets.{CutFits, IsTask}
use Rattle.preemption.specs.Cuts.{is_prefix_sum, greatest, each_within, are_lengths_within, cuttable_by, longest_by, threshold_by, segments_fit}
use Rattle.preemption.specs.CutLaws.{IsLawfulCut, IsTabledCut}
use Rattle.preemption.specs.Kinds.{is_full, is_never, is_fixed, is_floating, segments_of, bound_of, by_cut, full_meaning, never_meaning}
use Rattle.preemption.specs.Kinds.{fixed_meaning, floating_meaning, per_task_meaning}
use Rattle.preemption.specs.Segments.{HasNextSum, or_left, or_right, prefix_zero, next_sum, last_within, prefix_leaves_last, greatest_within}
use Rattle.preemption.specs.Segments.{greatest_all, greatest_sum, greatest_some, last_some}

-- a job whose cost and segments fit a cut
record Fitting (cut : Cut) (cost : ℕ) (j : Job) : Type 0 where
  low : 1 ≤ j.cost
  high : j.cost ≤ cost
  segments : segments_fit cut j ≡ true

record NextCut (cut : Cut) (cost : ℕ) (j : Job) (s : ℕ) : Type 0 where
  at : ℕ
  later : s < at
  near : at ≤ s + longest_by cut cost
  there : cuttable_by cut j at ≡ true

-- the laws, of a cut and a cost
record IsLawfulBy (cut : Cut) (cost : ℕ) : Type 0 where
  longest_positive : 1 ≤ longest_by cut cost
  longest_bound : longest_by cut cost ≤ cost
  threshold_positive : 1 ≤ threshold_by cut cost
  threshold_bound : threshold_by cut cost ≤ cost
  cut_first : (j : Job) → Fitting cut cost j → cuttable_by cut j 0 ≡ true
  cut_last : (j : Job) (s : ℕ) → Fitting cut cost j → j.cost ≤ s → cuttable_by cut j s ≡ true
  cut_next : (j : Job) (s : ℕ) → Fitting cut cost j → cuttable_by cut j s ≡ true → s < j.cost → NextCut cut cost j s
  last_part : (j : Job) (s : ℕ) → Fitting cut cost j → threshold_by cut cost ≤ s → s < j.cost → cuttable_by cut j s ≡ false

uncut_inside : (s cost : ℕ) → 1 ≤ s → s < cost → ((s == 0) || leb cost s) ≡ false
uncut_inside s cost h l = grind (arith, nat_tests)

next_inside : (j : Job) (s most : ℕ) → sum j.segs ≡ j.cost → greatest j.segs ≤ most →
    (is_prefix_sum j.segs s || leb j.cost s) ≡ true → s < j.cost → HasNextSum j.segs s most
next_inside j s most whole g c h = elim (or_cases (is_prefix_sum j.segs s) (leb j.cost s) c) [
  | inr over ↦ absurd (omega (arith, leb-true j.cost s over))
  | inl cut ↦ next_sum j.segs s most cut (omega (arith, whole)) g
]

fixed_job : (segments : List ℕ) (j : Job) → segments_fit (Fixed segments) j ≡ true → (each_within j.segs segments ≡ true) × (sum j.segs ≡ j.cost)
fixed_job segments j f =
    let parts = and_parts (each_within j.segs segments) (sum j.segs == j.cost) f in
    (parts.0, eqb-true (sum j.segs) j.cost parts.1)

floating_job : (bound : ℕ) (j : Job) → segments_fit (Floating bound) j ≡ true → (are_lengths_within bound j.segs ≡ true) × (sum j.segs ≡ j.cost)
floating_job bound j f =
    let parts = and_parts (are_lengths_within bound j.segs) (sum j.segs == j.cost) f in
    (parts.0, eqb-true (sum j.segs) j.cost parts.1)

-- the last segment is not cut
last_uncut : (segments : List ℕ) (j : Job) (cost s : ℕ) → sum segments ≡ cost → 1 ≤ last_number 0 segments → each_within j.segs segments ≡ true →
    sum j.segs ≡ j.cost → cost - last_number 0 segments + 1 ≤ s → s < j.cost →
    (is_prefix_sum j.segs s || leb j.cost s) ≡ false
last_uncut segments j cost s total last each whole h l = elim (cases_Bool (is_prefix_sum j.segs s || leb j.cost s)) [
  | inr uncut ↦ uncut
  | inl is ↦ elim (or_cases (is_prefix_sum j.segs s) (leb j.cost s) is) [
    | inr over ↦ absurd (omega (arith, leb-true j.cost s over))
    | inl cut ↦ elim (prefix_leaves_last 0 j.segs segments s each cut) [
      | inl e ↦ absurd (omega (arith, e, l, whole))
      | inr e ↦ absurd (omega (arith, e, h, total, last))
    ]
  ]
]

full_by : (cost : ℕ) → 1 ≤ cost → IsLawfulBy Full cost
full_by cost low = record {
  longest_positive = omega arith;
  longest_bound = low;
  threshold_positive = low;
  threshold_bound = omega arith;
  cut_first = λ j f. refl;
  cut_last = λ j s f h. refl;
  cut_next = λ j s f c h. record { at = s + 1; later = omega arith; near = omega arith; there = refl };
  last_part = λ j s f h l. absurd (omega (arith, f.high));
}

never_by : (cost : ℕ) → 1 ≤ cost → IsLawfulBy Never cost
never_by cost low = record {
  longest_positive = low;
  longest_bound = omega arith;
  threshold_positive = omega arith;
  threshold_bound = low;
  cut_first = λ j f. refl;
  cut_last = λ j s f h. or_right (s == 0) (leb j.cost s) (le-leb j.cost s h);
  cut_next = λ j s f c h. record {
    at = j.cost;
    later = h;
    near = omega (arith, f.high);
    there =
        or_right (j.cost == 0) (leb j.cost j.cost) (le-leb j.cost j.cost (omega arith));
  };
  last_part = λ j s f h l. uncut_inside s j.cost h l;
}

fixed_by : (segments : List ℕ) (cost : ℕ) → 1 ≤ cost → CutFits cost (Fixed segments) → IsLawfulBy (Fixed segments) cost
fixed_by segments cost low f =
    let counts = and_parts (is_between 1 most_parts (length segments)) (list_all is_in_range segments) f.0 in
    let some = leb-true 1 (length segments) (and_parts (leb 1 (length segments)) (leb (length segments) most_parts) counts.0).0 in
    let last = last_some segments counts.1 some in
    record {
      longest_positive = greatest_some segments (omega (arith, f.1));
      longest_bound = omega (arith, greatest_sum segments, f.1);
      threshold_positive = omega arith;
      threshold_bound = omega (arith, last, last_within 0 segments, f.1);
      cut_first = λ j fit. or_left (is_prefix_sum j.segs 0) (leb j.cost 0) (prefix_zero j.segs);
      cut_last = λ j s fit h. or_right (is_prefix_sum j.segs s) (leb j.cost s) (le-leb j.cost s h);
      cut_next = λ j s fit c h.
          let job = fixed_job segments j fit.segments in
          let n = next_inside j s (greatest segments) job.1 (greatest_within j.segs segments job.0) c h in
          record { at = n.at; later = n.later; near = n.near; there = or_left (is_prefix_sum j.segs n.at) (leb j.cost n.at) n.cut };
      last_part = λ j s fit h l. let job = fixed_job segments j fit.segments in last_uncut segments j cost s f.1 last job.0 job.1 h l;
    }

floating_by : (bound cost : ℕ) → 1 ≤ cost → CutFits cost (Floating bound) → IsLawfulBy (Floating bound) cost
floating_by bound cost low f = record {
  longest_positive = f.0;
  longest_bound = f.1;
  threshold_positive = low;
  threshold_bound = omega arith;
  cut_first = λ j fit. or_left (is_prefix_sum j.segs 0) (leb j.cost 0) (prefix_zero j.segs);
  cut_last = λ j s fit h. or_right (is_prefix_sum j.segs s) (leb j.cost s) (le-leb j.cost s h);
  cut_next = λ j s fit c h.
      let job = floating_job bound j fit.segments in
      let n = next_inside j s bound job.1 (greatest_all bound j.segs job.0) c h in
      record { at = n.at; later = n.later; near = n.near; there = or_left (is_prefix_sum j.segs n.at) (leb j.cost n.at) n.cut };
  last_part = λ j s fit h l. absurd (omega (arith, fit.high));
}

lawful_by : (cut : Cut) (cost : ℕ) → 1 ≤ cost → CutFits cost cut → IsLawfulBy cut cost
lawful_by Full cost low f = full_by cost low
lawful_by Never cost low f = never_by cost low
lawful_by (Fixed segments) cost low f = fixed_by segments cost low f
lawful_by (Floating bound) cost low f = floating_by bound cost low f

fitting : (cut : Cut) (cost : ℕ) (j : Job) → (is_between 1 cost j.cost && segments_fit cut j) ≡ true → Fitting cut cost j
fitting cut cost j f =
    let parts = and_parts (is_between 1 cost j.cost) (segments_fit cut j) f in
    let range = and_parts (leb 1 j.cost) (leb j.cost cost) parts.0 in
    record { low = leb-true 1 j.cost range.0; high = leb-true j.cost cost range.1; segments = parts.1 }

-- a kind keeps the laws for a task that it cuts as its sheet says
by_cut_lawful : (own : Task → Cut) (serves : Task → Bool) (task : Task) → IsTask task → own task ≡ task.cut → IsLawfulCut (by_cut own serves) task
by_cut_lawful own serves task ok e =
    let law = lawful_by (own task) task.cost ok.cost_low (subst (CutFits task.cost) (sym e) ok.cut) in
    let job = fitting (own task) task.cost in
    record {
      longest_positive = law.longest_positive;
      longest_bound = law.longest_bound;
      threshold_positive = law.threshold_positive;
      threshold_bound = law.threshold_bound;
      cost_positive = λ j f. (job j f).low;
      cost_bound = λ j f. (job j f).high;
      cut_first = λ j f. law.cut_first j (job j f);
      cut_last = λ j s f h. law.cut_last j s (job j f) h;
      cut_next = λ j s f c h. let n = law.cut_next j s (job j f) c h in record { at = n.at; later = n.later; near = n.near; cut = n.there };
      last_part = λ j s f h l. law.last_part j s (job j f) h l;
    }

-- and what the table says of it
by_cut_tabled : (own : Task → Cut) (serves : Task → Bool) (task : Task) → own task ≡ task.cut → IsTabledCut (by_cut own serves) task
by_cut_tabled own serves task e = record {
  same_cuts = λ j s. ap (λ (c : Cut). cuttable_by c j s) e;
  same_longest = ap (λ (c : Cut). longest_by c task.cost) e;
  same_threshold = ap (λ (c : Cut). threshold_by c task.cost) e;
  same_fits = λ j. ap (λ (c : Cut). is_between 1 task.cost j.cost && segments_fit c j) e;
}

full_own : (cut : Cut) → is_full cut ≡ true → Full ≡ cut
full_own Full h = refl
full_own Never h = absurd (cc)
full_own (Fixed segments) h = absurd (cc)
full_own (Floating bound) h = absurd (cc)

never_own : (cut : Cut) → is_never cut ≡ true → Never ≡ cut
never_own Full h = absurd (cc)
never_own Never h = refl
never_own (Fixed segments) h = absurd (cc)
never_own (Floating bound) h = absurd (cc)

fixed_own : (cut : Cut) → is_fixed cut ≡ true → Fixed (segments_of cut) ≡ cut
fixed_own Full h = absurd (cc)
fixed_own Never h = absurd (cc)
fixed_own (Fixed segments) h = refl
fixed_own (Floating bound) h = absurd (cc)

floating_own : (cut : Cut) → is_floating cut ≡ true → Floating (bound_of cut) ≡ cut
floating_own Full h = absurd (cc)
floating_own Never h = absurd (cc)
floating_own (Fixed segments) h = absurd (cc)
floating_own (Floating bound) h = refl

-- each kind keeps the laws for the tasks that it serves
pub full_lawful : (task : Task) → IsTask task → is_full task.cut ≡ true → IsLawfulCut full_meaning task
full_lawful task ok h = by_cut_lawful (λ t. Full) (λ t. is_full t.cut) task ok (full_own task.cut h)

pub never_lawful : (task : Task) → IsTask task → is_never task.cut ≡ true → IsLawfulCut never_meaning task
never_lawful task ok h = by_cut_lawful (λ t. Never) (λ t. is_never t.cut) task ok (never_own task.cut h)

pub fixed_lawful : (task : Task) → IsTask task → is_fixed task.cut ≡ true → IsLawfulCut fixed_meaning task
fixed_lawful task ok h = by_cut_lawful (λ t. Fixed (segments_of t.cut)) (λ t. is_fixed t.cut) task ok (fixed_own task.cut h)

pub floating_lawful : (task : Task) → IsTask task → is_floating task.cut ≡ true → IsLawfulCut floating_meaning task
floating_lawful task ok h = by_cut_lawful (λ t. Floating (bound_of t.cut)) (λ t. is_floating t.cut) task ok (floating_own task.cut h)

pub per_task_lawful : (task : Task) → IsTask task → IsLawfulCut per_task_meaning task
per_task_lawful task ok = by_cut_lawful (λ t. t.cut) (λ t. true) task ok refl

-- each kind is of the table, for the tasks that it serves
pub full_tabled : (task : Task) → is_full task.cut ≡ true → IsTabledCut full_meaning task
full_tabled task h = by_cut_tabled (λ t. Full) (λ t. is_full t.cut) task (full_own task.cut h)

pub never_tabled : (task : Task) → is_never task.cut ≡ true → IsTabledCut never_meaning task
never_tabled task h = by_cut_tabled (λ t. Never) (λ t. is_never t.cut) task (never_own task.cut h)

pub fixed_tabled : (task : Task) → is_fixed task.cut ≡ true → IsTabledCut fixed_meaning task
fixed_tabled task h = by_cut_tabled (λ t. Fixed (segments_of t.cut)) (λ t. is_fixed t.cut) task (fixed_own task.cut h)

pub floating_tabled : (task : Task) → is_floating task.cut ≡ true → IsTabledCut floating_meaning task
floating_tabled task h = by_cut_tabled (λ t. Floating (bound_of t.cut)) (λ t. is_floating t.cut) task (floating_own task.cut h)

pub per_task_tabled : (task : Task) → IsTabledCut per_task_meaning task
per_task_tabled task = by_cut_tabled (λ t. t.cut) (λ t. true) task refl
