-- Step "The offset lies in the window" of docs/ANALYSIS.md:
-- a job is released less than a window after the last quiet tick of its class.
use Rattle.std.proofs.Common.{◌≡◌, ℕ, suc, ◌+◌, ◌-◌, ◌<◌, ◌≤◌, ◌==◌, ◌&&◌, Bool, true, false, cond, not}
use Rattle.std.proofs.Common.{length, ap, inl, inr, arith}
use Rattle.std.proofs.lemmas.Bool.{cases_lt, and_from, ne_eqb}
use Rattle.lists.specs.Sums.{sum_below, max_below}
use Rattle.lists.proofs.SumFacts.{sum_le}
use Rattle.task_sheet.specs.Sheets.{task_at}
use Rattle.run_model.specs.declared.run.Tick.TheVariants.{Runs}
use Rattle.run_model.specs.Runs.{job_at, tick_at, service_of}
use Rattle.demand.specs.Demand.{delay_of, class_part_of, window_need_of}
use Rattle.busy_window.specs.Busy.{IsUpSet, IsQuiet, IsBusy}
use Rattle.demand.specs.Meeting.{IsWindow}
use Rattle.abstract_rta.proofs.Setting.{Setting, ran, of_sheet, timely, fit_of, jitter_of, segment_of, served}
use Rattle.abstract_rta.proofs.Quiet.{IsLate, still_pending, late_since}
use Rattle.abstract_rta.proofs.Service.{inside_since, supply_served}
use Rattle.abstract_rta.proofs.Caps.{windowed, most_at}
use Rattle.abstract_rta.proofs.Windows.{in_window, begins, window_from, windows_demand, demand_gap, window_length}

-- the jobs of the class of task i
unfoldable pub of_class : Setting → ℕ → ℕ → Bool
of_class g i k = g.p.class g.sheet i (job_at g.run k).task

-- each task of the class has a window of arrivals for l ticks of releases
unfoldable pub class_window : Setting → ℕ → ℕ → ℕ → ℕ
class_window g i l o = cond (g.p.class g.sheet i o) (l + jitter_of g o) 0

-- the demand of the class within l ticks
abbrev pub class_demand : Setting → ℕ → ℕ → ℕ
class_demand g i l = sum_below (class_part_of g.p g.sheet i l) (length g.sheet.tasks)

-- the greatest delay by a segment outside the class
abbrev pub class_delay : Setting → ℕ → ℕ
class_delay g i = max_below (delay_of g.p g.m g.sheet i) (length g.sheet.tasks)

module _ (g : Setting) (i : ℕ) (in_range : i < length g.sheet.tasks) where
  pub class_up : IsUpSet g.p g.sheet g.run (of_class g i)
  unfolding of_class
  class_up = λ k n b c h e.
      g.laws.policy.class_closed i (job_at g.run k) (job_at g.run n) in_range (of_sheet g k b) (of_sheet g n c) h e

  within_class : (l : ℕ) → windows_demand g (class_window g i l) ≤ class_demand g i l
  unfolding class_window
  within_class l = sum_le _ _ (length g.sheet.tasks) (λ o b.
      let task = task_at g.sheet o in
      windowed (g.p.class g.sheet i o) task.curve (g.laws.valid.each o b).curve task.cost (l + jitter_of g o))

  delay_bound : (k : ℕ) → k < length g.run.jobs → of_class g i k ≡ false → segment_of g k - 1 ≤ class_delay g i
  unfolding of_class
  delay_bound k b o =
      let task = (job_at g.run k).task in
      let other : task ≡ i → ⊥ = λ e.
      let f = ap (g.p.class g.sheet i) e in
      let t = g.laws.policy.own_class i in_range in
      absurd (cc) in
      let may : ℕ → Bool = λ o. not (o == i) && g.p.may_delay g.sheet i o in
      most_at may (λ o. g.m.longest (task_at g.sheet o) - 1) (length g.sheet.tasks) task (of_sheet g k b)
      (and_from _ _ (ap not (ne_eqb task i other)) (g.laws.policy.outside_delays i task in_range (of_sheet g k b) o))

  -- since a quiet tick of the class after which none is quiet, fewer ticks have passed than the window has
  pub class_short : (l s a : ℕ) → IsWindow g.p g.m g.sbf g.sheet i l → s ≤ a → a ≤ length g.run.ticks →
      IsQuiet g.run (of_class g i) s → ((u : ℕ) → s < u → u ≤ a → IsLate g.run (of_class g i) u) → a < s + l
  unfolding of_class class_window window_need_of
  class_short l s a window h long quiet late = elim (cases_lt a (s + l)) [
    | inl below ↦ below
    | inr above ↦
        let window_if : ℕ → Bool → ℕ = λ k b. cond b (l + jitter_of g (job_at g.run k).task) 0 in
        let last = late (s + l) (omega (arith, window.positive)) above in
        let since = late_since g.run (of_class g i) s (s + l) (omega arith) (omega arith) quiet last in
        let stretch : IsBusy g.run (of_class g i) s (s + l) = record {
          order = omega arith;
          long = omega arith;
          quiet = quiet;
          busy = λ v b c. still_pending g.run (of_class g i) v (omega arith) (late (suc v) (omega arith) (omega arith));
        } in
        let e : g.p.class g.sheet i (job_at g.run last.job).task ≡ true = last.is.inside in
        let chosen = in_window (class_window g i l) (begins g s) g.run in
        let is_chosen : (v k : ℕ) → s ≤ v → v < s + l → tick_at g.run v ≡ Runs k → of_class g i k ≡ true → chosen k ≡ true =
        λ v k b c r inside.
        let from = inside_since g (of_class g i) s (s + l) stretch v k b c r inside in
        let p = ran g v k (omega arith) r in
        window_from g (class_window g i l) s k p.listed from
        (omega (arith, p.released, (timely g k p.listed).after, ap (window_if k) inside)) in
        let enough : g.sbf (s + l - s) ≤ class_delay g i + served g chosen (s + l) =
        supply_served g (of_class g i) s (s + l) class_up stretch chosen is_chosen _ (λ k b o n. delay_bound k b o) in
        let cut = g.laws.cut (job_at g.run last.job).task (of_sheet g last.job last.listed) in
        let lacks : service_of g.run last.job (s + l) + 1 ≤ (task_at g.sheet (job_at g.run last.job).task).cost =
        omega (arith, last.is.not_done, cut.cost_bound (job_at g.run last.job) (fit_of g last.job last.listed)) in
        let in_time = window_from g (class_window g i l) s last.job last.listed since
        (omega (arith, last.is.earlier, (timely g last.job last.listed).after, ap (window_if last.job) e)) in
        let demand = demand_gap g (class_window g i l) (begins g s) (s + l) last.job 1 (omega arith) last.listed in_time lacks in
        absurd (omega (arith, enough, demand, within_class l, window.enough, ap g.sbf (window_length s l)))
  ]
