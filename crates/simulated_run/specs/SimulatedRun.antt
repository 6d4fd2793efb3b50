-- The simulated run, tick by tick: arrivals, supply, choice.
use Rattle.std.specs.Prelude.{ℕ, zero, suc, ◌+◌, ◌-◌, ◌%◌, ◌==◌, ◌&&◌, ◌||◌, not, [], ◌∷◌, ◌++◌, Bool, cond, length, nat_le, nat_lt, Option, Some, None}
use Rattle.lists.specs.Searches.{greatest_to, best_below}
use Rattle.curve.specs.CurveValue.{Curve}
use Rattle.curve.specs.Curves.{alpha_of}
use Rattle.lists.specs.Firsts.{must, first_below, all_below}
use Rattle.task_sheet.specs.SheetParts.{SheetParts}
use Rattle.task_sheet.specs.Sheets.{task_at}
use Rattle.task_sheet.specs.declared.tasks.Job.{Job}
use Rattle.policy.specs.Keys.{key_le}
use Rattle.policy.specs.PolicyMeaning.{PolicyMeaning}
use Rattle.preemption.specs.CutMeaning.{CutMeaning}
use Rattle.run_model.specs.declared.run.Run.{Run}
use Rattle.run_model.specs.declared.run.Tick.{Tick}
use Rattle.run_model.specs.declared.run.Tick.TheVariants.{Off, Idle, Runs}
use Rattle.run_model.specs.Runs.{job_at, is_on, ticks_in, is_pending}
use Rattle.schedule_laws.specs.Compliance.{arrivals_of, can_cut}
use Rattle.simulated_run.specs.declared.mode.Mode.{Mode}
use Rattle.simulated_run.specs.declared.mode.Mode.TheVariants.{Dense, Seed}
use Rattle.simulated_run.specs.Words.{word, next}
use Rattle.simulated_run.specs.Jobs.{new_job, after_job, last_release}

-- what a run is simulated for
pub record World : Type 0 where
  pub policy : PolicyMeaning
  pub cuts : CutMeaning
  pub sbf : ℕ → ℕ
  pub sheet : SheetParts
  pub mode : Mode

abbrev pub world_of : PolicyMeaning → CutMeaning → (ℕ → ℕ) → SheetParts → Mode → World
world_of p m sbf sheet mode = record { policy = p; cuts = m; sbf = sbf; sheet = sheet; mode = mode }

-- the run so far, and the state of the generator of words
pub record Moment : Type 0 where
  pub run : Run
  pub state : ℕ

-- the run with one job more
unfoldable pub with_job : Run → Job → Run
with_job run job = record { jobs = run.jobs ++ job ∷ []; ticks = run.ticks }

-- the run with one tick more
unfoldable pub with_tick : Run → Tick → Run
with_tick run tick = record { jobs = run.jobs; ticks = run.ticks ++ tick ∷ [] }

-- with g more jobs of task o at t, every window that ends with t is within the curve
abbrev pub admits : Curve → ℕ → Run → ℕ → ℕ → Bool
admits curve o run t g = all_below (λ s. nat_le (arrivals_of run o s t + g) (alpha_of curve (t + 1 - s))) (t + 1)

-- how many jobs of task o may arrive at t
unfoldable pub allowance_of : Curve → ℕ → Run → ℕ → ℕ
allowance_of curve o run t = greatest_to (admits curve o run t) (alpha_of curve 1)

-- how many of them arrive, and the state after that
abbrev pub arriving : Mode → ℕ → ℕ → ℕ
arriving Dense allowance state = allowance
arriving (Seed seed) allowance state = cond (allowance == 0) 0 (word state % (allowance + 1))

abbrev pub after_arriving : Mode → ℕ → ℕ → ℕ
after_arriving Dense allowance state = state
after_arriving (Seed seed) allowance state = cond (allowance == 0) state (next state)

-- where tick t is off, every window that ends with it has the promised ticks
unfoldable pub may_be_off : (ℕ → ℕ) → Run → ℕ → Bool
may_be_off sbf run t = all_below (λ s. nat_le (sbf (t + 1 - s)) (ticks_in is_on (with_tick run Off) s (t + 1 - s))) (t + 1)

-- whether the tick is off, and the state after that
abbrev pub is_off : Mode → Bool → ℕ → Bool
is_off Dense may state = may
is_off (Seed seed) may state = may && (word state % 2 == 1)

abbrev pub after_off : Mode → Bool → ℕ → ℕ
after_off Dense may state = state
after_off (Seed seed) may state = cond may (next state) state

-- job k comes before job n: by key, then by task, then by arrival, then by number
abbrev pub by_number : (ℕ × ℕ × ℕ) → (ℕ × ℕ × ℕ) → Bool
by_number a b = nat_lt a.0 b.0 || ((a.0 == b.0) && (nat_lt a.1 b.1 || ((a.1 == b.1) && nat_lt a.2 b.2)))

unfoldable pub comes_before : World → Run → ℕ → ℕ → Bool
comes_before w run k n =
    let mine = w.policy.key w.sheet (job_at run k) in
    let other = w.policy.key w.sheet (job_at run n) in
    not (key_le other mine) || (key_le mine other && by_number ((job_at run k).task, (job_at run k).arrival, k)
    ((job_at run n).task, (job_at run n).arrival, n))

-- the first job that cannot be cut at t
unfoldable pub inside_segment : World → Run → ℕ → Option ℕ
inside_segment w run t = first_below (λ k. must (can_cut w.cuts w.sheet run k t) k) (length run.jobs)

-- the pending job that comes before the others
unfoldable pub most_urgent : World → Run → ℕ → Option ℕ
most_urgent w run t = best_below (λ k. is_pending run k t) (comes_before w run) (length run.jobs)

-- a job inside a segment runs, else the most urgent one, else none
abbrev pub chosen : Option ℕ → Option ℕ → Tick
chosen (Some k) urgent = Runs k
chosen None (Some k) = Runs k
chosen None None = Idle

module _ (w : World) where
  -- one more job of task o arrives at t
  unfoldable pub add_job : ℕ → ℕ → Moment → Moment
  add_job o t m = record {
    run = with_job m.run (new_job w.mode (task_at w.sheet o) o t (last_release o m.run.jobs) m.state);
    state = after_job w.mode (task_at w.sheet o) m.state;
  }

  -- n jobs of task o, one by one
  abbrev pub add_jobs : ℕ → ℕ → ℕ → Moment → Moment
  add_jobs o t zero m = m
  add_jobs o t (suc n) m = add_job o t (add_jobs o t n m)

  abbrev pub room : ℕ → ℕ → Moment → ℕ
  room o t m = allowance_of (task_at w.sheet o).curve o m.run t

  -- the jobs of task o that arrive at t
  unfoldable pub arrive_of : ℕ → ℕ → Moment → Moment
  arrive_of o t m = add_jobs o t (arriving w.mode (room o t m) m.state) (record { run = m.run; state = after_arriving w.mode (room o t m) m.state })

  -- those of the first n tasks, in their order
  abbrev pub arrive_below : ℕ → ℕ → Moment → Moment
  arrive_below t zero m = m
  arrive_below t (suc o) m = arrive_of o t (arrive_below t o m)

  -- what the processor does at t
  abbrev pub choice : Run → ℕ → Tick
  choice run t = chosen (inside_segment w run t) (most_urgent w run t)

  -- tick t, once its jobs have arrived
  unfoldable pub add_tick : ℕ → Moment → Moment
  add_tick t m = record {
    run = with_tick m.run (cond (is_off w.mode (may_be_off w.sbf m.run t) m.state) Off (choice m.run t));
    state = after_off w.mode (may_be_off w.sbf m.run t) m.state;
  }

  -- the state at the begin
  abbrev pub seed_of : Mode → ℕ
  seed_of Dense = 0
  seed_of (Seed seed) = seed

  abbrev pub moment_after : ℕ → Moment
  moment_after zero = record { run = record { jobs = []; ticks = [] }; state = seed_of w.mode }
  moment_after (suc n) = add_tick n (arrive_below n (length w.sheet.tasks) (moment_after n))

  -- the simulated run of n ticks
  unfoldable pub simulated_run : ℕ → Run
  simulated_run n = (moment_after n).run
