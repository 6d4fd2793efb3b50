-- In mode dense as many jobs arrive as the curves still admit.
use Rattle.std.proofs.Common.{◌≡◌, ℕ, zero, suc, ◌+◌, ◌<◌, ◌≤◌, Bool, true, cond, length, refl, ap, arith}
use Rattle.std.proofs.lemmas.Bool.Decides.{nat_tests}
use Rattle.std.proofs.lemmas.Bool.{and_from, eq-eqb, le-leb, lt-ltb}
use Rattle.task_sheet.specs.Sheets.{task_at}
use Rattle.task_sheet.specs.declared.tasks.Job.{Job}
use Rattle.schedule_laws.specs.Compliance.{arrives_in, arrivals_of}
use Rattle.simulated_run.specs.declared.mode.Mode.{Mode}
use Rattle.simulated_run.specs.declared.mode.Mode.TheVariants.{Dense}
use Rattle.simulated_run.specs.Jobs.{new_job, last_release}
use Rattle.simulated_run.specs.SimulatedRun.{World, Moment, arriving, after_arriving, room, add_job, add_jobs, arrive_of, arrive_below, moment_after}
use Rattle.simulated_run.specs.SimulatedRun.{simulated_run}
use Rattle.simulated_run.specs.Laws.{IsDense}
use Rattle.simulated_run.proofs.AllowanceFacts.{allowance_tight}
use Rattle.simulated_run.proofs.GrowthFacts.{BeginsWith, begins_trans, tasks_in_turn, moment_extends, moments_in_turn}
use Rattle.simulated_run.proofs.RunFacts.{arrivals_more, arrivals_le, arrivals_front}

counts : (o s t : ℕ) (j : Job) → j.task ≡ o → j.arrival ≡ t → s ≤ t → arrives_in o s (t + 1) j ≡ true
counts o s t j of at h = and_from _ _ (eq-eqb j.task o of)
    (and_from _ _ (le-leb s j.arrival (omega (arith, at))) (lt-ltb j.arrival (t + 1) (omega (arith, at))))

module _ (w : World) where
  -- n jobs more are in every window that ends with t
  jobs_counted : (o t n s : ℕ) (m : Moment) → s ≤ t → arrivals_of m.run o s t + n ≤ arrivals_of (add_jobs w o t n m).run o s (t + 1)
  unfolding add_job new_job
  jobs_counted o t zero s m h = omega (arith, arrivals_le m.run o s t s (t + 1) (λ k b e. grind (arith, nat_tests)))
  jobs_counted o t (suc n) s m h =
      let p : Moment = add_jobs w o t n m in
      let j : Job = new_job w.mode (task_at w.sheet o) o t (last_release o p.run.jobs) p.state in
      omega (arith, jobs_counted o t n s m h, arrivals_more p.run j o s (t + 1), ap (λ (b : Bool). cond {A = ℕ} b 1 0) (counts o s t j refl refl h))

  dense_counted : (o t s : ℕ) (m : Moment) → w.mode ≡ Dense → s ≤ t → arrivals_of m.run o s t + room w o t m ≤ arrivals_of (arrive_of w o t m).run o s (t + 1)
  unfolding arrive_of
  dense_counted o t s m dense h =
      let g : ℕ = room w o t m in
      let all : arriving w.mode g m.state ≡ g = ap (λ (mode : Mode). arriving mode g m.state) dense in
      omega (arith, jobs_counted o t (arriving w.mode g m.state) s (record { run = m.run; state = after_arriving w.mode g m.state }) h, all)

  -- what arrives at t stays
  arrivals_stay : (n o t : ℕ) → o < length w.sheet.tasks → t < n → BeginsWith (simulated_run w n).jobs (arrive_below w t (suc o) (moment_after w t)).run.jobs
  unfolding simulated_run
  arrivals_stay n o t b h =
      begins_trans _ _ _ (moments_in_turn w (suc t) n (omega arith))
      (begins_trans _ _ _ (moment_extends w t) (tasks_in_turn w t (suc o) (length w.sheet.tasks) (moment_after w t) (omega arith)))

  later_counted : (n o t s : ℕ) → o < length w.sheet.tasks → t < n →
      arrivals_of (arrive_below w t (suc o) (moment_after w t)).run o s (t + 1) ≤ arrivals_of (simulated_run w n) o s (t + 1)
  unfolding arrivals_of
  later_counted n o t s b h = arrivals_front (arrive_below w t (suc o) (moment_after w t)).run (simulated_run w n).jobs o s (t + 1) (arrivals_stay n o t b h)

  pub full : w.mode ≡ Dense → (n : ℕ) → IsDense w.sheet n (simulated_run w n)
  full dense n o t b h =
      let m : Moment = arrive_below w t o (moment_after w t) in
      let most = allowance_tight (task_at w.sheet o).curve o t m.run in
      record {
        start = most.start;
        within = most.within;
        full = omega (arith, most.many, dense_counted o t most.start m dense most.within, later_counted n o t most.start b h);
      }
