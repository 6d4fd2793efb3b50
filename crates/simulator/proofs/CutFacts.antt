-- Where the jobs of a simulation can be cut.
use Rattle.std.proofs.Common.{◌≡◌, ℕ, zero, suc, ◌+◌, ◌-◌, ◌*◌, ◌/◌, ◌%◌, ◌<◌, ◌≤◌, ◌==◌, ◌||◌, Bool, true, false, List, ◌∷◌, ◌++◌, replicate, refl}
use Rattle.std.proofs.Common.{sym, ◌∙◌, ap, subst, inl, inr, arith, leb}
use Rattle.std.proofs.Math.Nat.{add-mod_right, mod-eq_of_lt}
use Rattle.std.proofs.lemmas.Bool.{cases_lt, ne_eqb, le-leb}
use Rattle.std.proofs.lemmas.Bool.Decides.{nat_tests}
use Rattle.task_sheet.specs.Sheets.{IsTask, CutFits}
use Rattle.task_sheet.specs.declared.tasks.Cut.{Cut}
use Rattle.task_sheet.specs.declared.tasks.Cut.TheVariants.{Full, Never, Fixed, Floating}
use Rattle.task_sheet.specs.declared.tasks.Job.{Job}
use Rattle.task_sheet.specs.declared.tasks.Task.{Task}
use Rattle.preemption.specs.CutMeaning.{CutMeaning}
use Rattle.preemption.specs.CutLaws.{IsTabledCut}
use Rattle.preemption.specs.Cuts.{is_prefix_sum, cuttable_by}
use Rattle.preemption.specs.Segments.{or_right}
use Rattle.simulated_run.specs.declared.mode.Mode.{Mode}
use Rattle.simulated_run.specs.declared.mode.Mode.TheVariants.{Dense, Seed}
use Rattle.simulated_run.specs.Jobs.{rest_segment, floating_segments, new_job, cost_by, segments_by}
use Rattle.simulator.specs.SimulationState.{FloatsBy}

-- within the first bound only the begin is a multiple of it
small_multiple : (s bound : ℕ) → s < bound → (s % bound == 0) ≡ (s == 0)
small_multiple s bound h = ap (λ (n : ℕ). n == 0) (mod-eq_of_lt h)

rest_prefix : (s r : ℕ) → s < r → is_prefix_sum (rest_segment r) s ≡ (s == 0)
rest_prefix s r h = rw (ne_eqb r 0 (λ e. omega arith)) (grind (arith, nat_tests))

bound_prefix : (s bound : ℕ) (xs : List ℕ) → s < bound → is_prefix_sum (bound ∷ xs) s ≡ (s == 0)
bound_prefix s bound xs h = grind (arith, nat_tests)

later_prefix : (s bound : ℕ) (xs : List ℕ) → 1 ≤ bound → bound ≤ s → is_prefix_sum (bound ∷ xs) s ≡ is_prefix_sum xs (s - bound)
later_prefix s bound xs l h = rw (ne_eqb s 0 (λ e. omega arith), le-leb bound s h) refl

less_bound : (s bound : ℕ) → bound ≤ s → (s - bound) % bound ≡ s % bound
less_bound s bound h =
    let e : s - bound + bound ≡ s = omega arith in
    sym (add-mod_right (s - bound) bound) ∙ ap (λ (n : ℕ). n % bound) e

bounds_prefix : (n bound r s : ℕ) → 1 ≤ bound → r < bound → s < n * bound + r → is_prefix_sum (replicate n bound ++ rest_segment r) s ≡ (s % bound == 0)
bounds_prefix zero bound r s l b h = rest_prefix s r (omega arith) ∙ sym (small_multiple s bound (omega arith))
bounds_prefix (suc n) bound r s l b h = elim (cases_lt s bound) [
  | inl c ↦ bound_prefix s bound (replicate n bound ++ rest_segment r) c ∙ sym (small_multiple s bound c)
  | inr c ↦
      later_prefix s bound (replicate n bound ++ rest_segment r) l c
      ∙ (bounds_prefix n bound r (s - bound) l b (omega arith) ∙ ap (λ (m : ℕ). m == 0) (less_bound s bound c))
]

-- floating segments are cut at the multiples of their bound
pub floating_cut : (bound cost s : ℕ) → 1 ≤ bound → ((s % bound == 0) || leb cost s) ≡ (is_prefix_sum (floating_segments bound cost) s || leb cost s)
unfolding floating_segments
floating_cut bound cost s l = elim (cases_lt s cost) [
  | inl c ↦ ap (λ (b : Bool). b || leb cost s) (sym (bounds_prefix (cost / bound) bound (cost % bound) s l (omega arith) (omega arith)))
  | inr c ↦ or_right (s % bound == 0) (leb cost s) (le-leb cost s c) ∙
      sym (or_right (is_prefix_sum (floating_segments bound cost) s) (leb cost s) (le-leb cost s c))
]

-- so they are for every kind of the table that serves the task
pub floating_cuttable : (m : CutMeaning) (task : Task) (j : Job) (bound s : ℕ) → IsTask task → IsTabledCut m task →
    task.cut ≡ Floating bound → FloatsBy task.cut j → ((s % bound == 0) || leb j.cost s) ≡ m.cuttable task j s
floating_cuttable m task j bound s ok tabled is floats =
    let low = (subst (CutFits task.cost) is ok.cut).0 in
    let segs : j.segs ≡ floating_segments bound j.cost = subst (λ (c : Cut). FloatsBy c j) is floats in
    floating_cut bound j.cost s low
    ∙ (ap (λ (l : List ℕ). is_prefix_sum l s || leb j.cost s) (sym segs) ∙ (ap (λ (c : Cut). cuttable_by c j s) (sym is) ∙ sym (tabled.same_cuts j s)))

floats_by : (mode : Mode) (cut : Cut) (o t r cost state : ℕ) →
    FloatsBy cut (record {
      task = o;
      arrival = t;
      release = r;
      cost = cost_by mode cut cost state;
      segs =
          segments_by mode cut (cost_by mode cut cost state) state;
    })
floats_by mode Full o t r cost state = tt
floats_by mode Never o t r cost state = tt
floats_by mode (Fixed segments) o t r cost state = tt
floats_by Dense (Floating bound) o t r cost state = refl
floats_by (Seed seed) (Floating bound) o t r cost state = refl

pub new_floats : (mode : Mode) (task : Task) (o t last state : ℕ) → FloatsBy task.cut (new_job mode task o t last state)
unfolding new_job
new_floats mode task o t last state = floats_by mode task.cut o t _ task.cost state

-- either way

pub or_first : (a b c : Bool) → a ≡ true → (a || b) ≡ c → a ≡ c
or_first true b c e h = h
or_first false b c e h = absurd (cc)

pub or_second : (a b c : Bool) → a ≡ false → (a || b) ≡ c → b ≡ c
or_second true b c e h = absurd (cc)
or_second false b c e h = h
