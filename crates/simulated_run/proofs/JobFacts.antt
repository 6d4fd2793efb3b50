-- A new job fits its task.
use Rattle.std.proofs.Common.{◌≡◌, ℕ, zero, suc, ◌+◌, ◌*◌, ◌/◌, ◌%◌, ◌≤◌, true, List, [], ◌∷◌, ◌++◌, length, replicate, sum, refl, sym, ◌∙◌, inl, inr}
use Rattle.std.proofs.Common.{arith, leb}
use Rattle.std.proofs.lemmas.Bool.{cases_eq, and_from, and_parts, leb-true, le-leb, eq-eqb, ne_eqb}
use Rattle.std.specs.List.{list_all}
use Rattle.lists.specs.Ranges.{is_between}
use Rattle.task_sheet.specs.Rules.{is_in_range}
use Rattle.task_sheet.specs.Sheets.{IsTask, CutFits}
use Rattle.task_sheet.specs.declared.tasks.Cut.{Cut}
use Rattle.task_sheet.specs.declared.tasks.Cut.TheVariants.{Full, Never, Fixed, Floating}
use Rattle.task_sheet.specs.declared.tasks.Task.{Task}
use Rattle.task_sheet.specs.declared.tasks.Job.{Job}
use Rattle.preemption.specs.CutMeaning.{CutMeaning}
use Rattle.preemption.specs.CutLaws.{IsTabledCut}
use Rattle.preemption.specs.Cuts.{each_within, are_lengths_within, segments_fit, fits}
use Rattle.preemption.specs.Segments.{sum_more}
use Rattle.simulated_run.specs.declared.mode.Mode.{Mode}
use Rattle.simulated_run.specs.declared.mode.Mode.TheVariants.{Dense, Seed}
use Rattle.simulated_run.specs.Words.{word, next}
use Rattle.simulated_run.specs.Jobs.{drawn_segments, rest_segment, floating_segments, drawn_cost, cost_by, segments_by, after_load, released_by, new_job}

-- drawn segments: each within the task's

pub drawn_within : (gs : List ℕ) (state : ℕ) → list_all is_in_range gs ≡ true → each_within (drawn_segments gs state) gs ≡ true
drawn_within [] state h = refl
drawn_within (g ∷ gs) state h =
    let p = and_parts (is_in_range g) (list_all is_in_range gs) h in
    let low = leb-true 1 g (and_parts (leb 1 g) (leb g 1000000000) p.0).0 in
    and_from (leb (1 + word state % g) g) _ (le-leb _ _ (omega arith)) (drawn_within gs (next state) p.1)

pub drawn_sum_low : (gs : List ℕ) (state : ℕ) → 1 ≤ length gs → 1 ≤ sum (drawn_segments gs state)
drawn_sum_low [] state h = absurd (omega arith)
drawn_sum_low (g ∷ gs) state h = omega (arith, sum_more (1 + word state % g) (drawn_segments gs (next state)))

pub drawn_sum_high : (gs : List ℕ) (state : ℕ) → list_all is_in_range gs ≡ true → sum (drawn_segments gs state) ≤ sum gs
drawn_sum_high [] state h = omega arith
drawn_sum_high (g ∷ gs) state h =
    let p = and_parts (is_in_range g) (list_all is_in_range gs) h in
    let low = leb-true 1 g (and_parts (leb 1 g) (leb g 1000000000) p.0).0 in
    omega (arith, drawn_sum_high gs (next state) p.1, sum_more (1 + word state % g) (drawn_segments gs (next state)), sum_more g gs)

pub drawn_length : (gs : List ℕ) (state : ℕ) → length (drawn_segments gs state) ≡ length gs
drawn_length [] state = refl
drawn_length (g ∷ gs) state = omega (arith, drawn_length gs (next state))

each_itself : (gs : List ℕ) → each_within gs gs ≡ true
each_itself [] = refl
each_itself (g ∷ gs) = and_from (leb g g) (each_within gs gs) (le-leb g g (omega arith)) (each_itself gs)

-- floating segments: the bound as often as it fits, and the rest

pub bounds_sum : (n bound : ℕ) (rest : List ℕ) → sum (replicate n bound ++ rest) ≡ n * bound + sum rest
bounds_sum zero bound rest = omega arith
bounds_sum (suc n) bound rest = omega (arith, sum_more bound (replicate n bound ++ rest), bounds_sum n bound rest)

pub bounds_within : (n bound : ℕ) (rest : List ℕ) → 1 ≤ bound → are_lengths_within bound rest ≡ true →
    are_lengths_within bound (replicate n bound ++ rest) ≡ true
bounds_within zero bound rest low h = h
bounds_within (suc n) bound rest low h =
    and_from _ _ (and_from (leb 1 bound) (leb bound bound) (le-leb 1 bound low) (le-leb bound bound (omega arith)))
    (bounds_within n bound rest low h)

pub rest_sum : (n : ℕ) → sum (rest_segment n) ≡ n
rest_sum n = elim (cases_eq n 0) [
  | inl z ↦ rw (eq-eqb n 0 z) (sym z)
  | inr p ↦ rw (ne_eqb n 0 p) (omega (arith, sum_more n []))
]

pub rest_within : (bound n : ℕ) → n ≤ bound → are_lengths_within bound (rest_segment n) ≡ true
rest_within bound n h = elim (cases_eq n 0) [
  | inl z ↦ rw (eq-eqb n 0 z) refl
  | inr p ↦ rw (ne_eqb n 0 p) (and_from _ true (and_from (leb 1 n) (leb n bound) (le-leb 1 n (omega arith)) (le-leb n bound h)) refl)
]

pub floating_sum : (bound cost : ℕ) → 1 ≤ bound → sum (floating_segments bound cost) ≡ cost
unfolding floating_segments
floating_sum bound cost low = omega (arith, bounds_sum (cost / bound) bound (rest_segment (cost % bound)), rest_sum (cost % bound))

pub floating_within : (bound cost : ℕ) → 1 ≤ bound → are_lengths_within bound (floating_segments bound cost) ≡ true
unfolding floating_segments
floating_within bound cost low = bounds_within (cost / bound) bound (rest_segment (cost % bound)) low (rest_within bound (cost % bound) (omega arith))

-- the cost of a new job

record CostFits (cost own : ℕ) : Type 0 where
  low : 1 ≤ own
  high : own ≤ cost

drawn_fits : (cost state : ℕ) → 1 ≤ cost → CostFits cost (drawn_cost cost state)
drawn_fits cost state h = record { low = omega arith; high = omega arith }

fixed_fits : (segments : List ℕ) (cost state : ℕ) → CutFits cost (Fixed segments) → CostFits cost (sum (drawn_segments segments state))
fixed_fits segments cost state f =
    let parts = and_parts (is_between 1 1000 (length segments)) (list_all is_in_range segments) f.0 in
    let counts = and_parts (leb 1 (length segments)) (leb (length segments) 1000) parts.0 in
    record { low = drawn_sum_low segments state (leb-true 1 (length segments) counts.0); high = omega (arith, drawn_sum_high segments state parts.1, f.1) }

cost_fits : (mode : Mode) (cut : Cut) (cost state : ℕ) → 1 ≤ cost → CutFits cost cut → CostFits cost (cost_by mode cut cost state)
cost_fits Dense cut cost state h f = record { low = h; high = omega arith }
cost_fits (Seed seed) Full cost state h f = drawn_fits cost state h
cost_fits (Seed seed) Never cost state h f = drawn_fits cost state h
cost_fits (Seed seed) (Fixed segments) cost state h f = fixed_fits segments cost state f
cost_fits (Seed seed) (Floating bound) cost state h f = drawn_fits cost state h

-- a job with these numbers
abbrev job_of : ℕ → ℕ → ℕ → ℕ → List ℕ → Job
job_of o t release cost segments = record { task = o; arrival = t; release = release; cost = cost; segs = segments }

floats : (o t r bound cost : ℕ) → 1 ≤ bound → segments_fit (Floating bound) (job_of o t r cost (floating_segments bound cost)) ≡ true
floats o t r bound cost low = and_from _ _ (floating_within bound cost low) (eq-eqb _ _ (floating_sum bound cost low))

segments_by_fit : (mode : Mode) (cut : Cut) (cost o t r state : ℕ) → CutFits cost cut →
    segments_fit cut (job_of o t r (cost_by mode cut cost state) (segments_by mode cut (cost_by mode cut cost state) state)) ≡ true
segments_by_fit Dense Full cost o t r state f = refl
segments_by_fit Dense Never cost o t r state f = refl
segments_by_fit Dense (Fixed segments) cost o t r state f = and_from _ _ (each_itself segments) (eq-eqb _ _ f.1)
segments_by_fit Dense (Floating bound) cost o t r state f = floats o t r bound cost f.0
segments_by_fit (Seed seed) Full cost o t r state f = refl
segments_by_fit (Seed seed) Never cost o t r state f = refl
segments_by_fit (Seed seed) (Fixed segments) cost o t r state f =
    let parts = and_parts (is_between 1 1000 (length segments)) (list_all is_in_range segments) f.0 in
    and_from _ _ (drawn_within segments state parts.1) (eq-eqb _ _ refl)
segments_by_fit (Seed seed) (Floating bound) cost o t r state f = floats o t r bound (drawn_cost cost state) f.0

module _ (mode : Mode) (task : Task) (ok : IsTask task) (o t last state : ℕ) where
  pub new_cost_low : 1 ≤ (new_job mode task o t last state).cost
  unfolding new_job
  new_cost_low = (cost_fits mode task.cut task.cost state ok.cost_low ok.cut).low

  pub new_cost_high : (new_job mode task o t last state).cost ≤ task.cost
  unfolding new_job
  new_cost_high = (cost_fits mode task.cut task.cost state ok.cost_low ok.cut).high

  pub new_task : (new_job mode task o t last state).task ≡ o
  unfolding new_job
  new_task = refl

  pub new_arrival : (new_job mode task o t last state).arrival ≡ t
  unfolding new_job
  new_arrival = refl

  pub new_release : (new_job mode task o t last state).release ≡ released_by mode task.jitter t last (after_load mode task state)
  unfolding new_job
  new_release = refl

  -- a new job fits by the task's own cut
  pub new_fits : fits task (new_job mode task o t last state) ≡ true
  unfolding new_job
  new_fits =
      and_from _ _
      (and_from _ _ (le-leb _ _ (cost_fits mode task.cut task.cost state ok.cost_low ok.cut).low)
      (le-leb _ _ (cost_fits mode task.cut task.cost state ok.cost_low ok.cut).high))
      (segments_by_fit mode task.cut task.cost o t _ state ok.cut)

  -- and so by every kind of the table that serves the task
  pub new_fits_by : (m : CutMeaning) → IsTabledCut m task → m.fits task (new_job mode task o t last state) ≡ true
  new_fits_by m tabled = tabled.same_fits (new_job mode task o t last state) ∙ new_fits
