-- Simulated runs whose jobs and ticks are known.
use Rattle.std.proofs.Common.{◌≡◌, ℕ, pos, List, [], ◌∷◌, refl}
use Rattle.curve.specs.Curves.{value_of, alpha_of}
use Rattle.task_sheet.specs.Sheets.{no_task}
use Rattle.task_sheet.specs.declared.tasks.PolicyKind.TheVariants.{Fp}
use Rattle.task_sheet.specs.declared.tasks.SupplySpec.{SupplySpec}
use Rattle.task_sheet.specs.declared.tasks.SupplySpec.TheVariants.{Unit as Whole, Promised}
use Rattle.task_sheet.specs.declared.tasks.Cut.{Cut}
use Rattle.task_sheet.specs.declared.tasks.Cut.TheVariants.{Full, Never, Fixed, Floating}
use Rattle.task_sheet.specs.declared.tasks.Task.{Task}
use Rattle.task_sheet.specs.declared.tasks.Job.{Job}
use Rattle.supply.specs.Promises.{promised, sbf_of}
use Rattle.policy.specs.Policies.{fp_meaning}
use Rattle.preemption.specs.Kinds.{per_task_meaning}
use Rattle.run_model.specs.declared.run.Run.{Run}
use Rattle.run_model.specs.declared.run.Tick.TheVariants.{Off, Idle, Runs}
use Rattle.run_model.specs.Runs.{no_job, service_of, ticks_in}
use Rattle.schedule_laws.specs.Compliance.{arrivals_of}
use Rattle.simulated_run.specs.declared.mode.Mode.{Mode}
use Rattle.simulated_run.specs.declared.mode.Mode.TheVariants.{Dense, Seed}
use Rattle.simulated_run.specs.Words.{word, next}
use Rattle.simulated_run.specs.Jobs.{floating_segments, new_job, last_release}
use Rattle.simulated_run.specs.SimulatedRun.{world_of, with_job, with_tick, allowance_of, may_be_off, comes_before, inside_segment, most_urgent}
use Rattle.simulated_run.specs.SimulatedRun.{add_job, arrive_of, add_tick, simulated_run}

-- the bound as often as it fits, and the rest
two_two_one : floating_segments 2 5 ≡ 2 ∷ 2 ∷ 1 ∷ []
unfolding floating_segments
two_two_one = refl

-- a task of one job in each period, whose deadline is the period, and which is released within the jitter
abbrev released_late : ℕ → ℕ → ℕ → ℕ → Cut → Task
released_late cost period priority jitter cut = record {
  name = 97 ∷ [];
  cost = cost;
  deadline = period;
  priority = priority;
  jitter = jitter;
  point = pos 0;
  curve = record { horizon = period; steps = record { time = 1; value = 1 } ∷ [] };
  cut = cut;
}

abbrev periodic : ℕ → ℕ → ℕ → Cut → Task
periodic cost period priority cut = released_late cost period priority 0 cut

-- the run of n ticks of tasks under fixed priority
abbrev run_of : SupplySpec → List Task → Mode → ℕ → Run
run_of supply tasks mode n = simulated_run
    (world_of fp_meaning per_task_meaning (sbf_of supply) (record { policy = Fp; supply = supply; tasks = tasks }) mode) n

-- of every four ticks the third and the fourth
abbrev half : SupplySpec
half = Promised 4 (3 ∷ 4 ∷ [])

abbrev late : ℕ → ℕ → ℕ → ℕ → List ℕ → Job
late o t release cost segments = record { task = o; arrival = t; release = release; cost = cost; segs = segments }

abbrev job : ℕ → ℕ → ℕ → List ℕ → Job
job o t cost segments = late o t t cost segments

-- a task, and a second one that is never preempted
abbrev never_preempted : List Task
never_preempted = periodic 1 4 2 Full ∷ periodic 2 6 1 Never ∷ []

dense_run : run_of Whole never_preempted Dense 12 ≡ record {
  jobs = job 0 0 1 [] ∷ job 1 0 2 [] ∷ job 0 4 1 [] ∷ job 1 6 2 [] ∷ job 0 8 1 [] ∷ [];
  ticks = Runs 0 ∷ Runs 1 ∷ Runs 1 ∷ Idle ∷ Runs 2 ∷ Idle ∷ Runs 3 ∷ Runs 3 ∷ Runs 4 ∷ Idle ∷ Idle ∷ Idle ∷ [];
}
unfolding with_job with_tick allowance_of may_be_off comes_before inside_segment most_urgent add_job arrive_of add_tick
    simulated_run new_job last_release service_of ticks_in arrivals_of value_of alpha_of no_job no_task
dense_run = refl

seeded_run : run_of Whole never_preempted (Seed 7) 20 ≡ record {
  jobs = job 0 0 1 [] ∷ job 1 1 1 [] ∷ job 0 4 1 [] ∷ job 0 8 1 [] ∷ job 1 8 1 [] ∷ job 0 15 1 [] ∷ job 1 15 1 [] ∷ job 0 19 1 [] ∷ [];
  ticks = Runs 0 ∷ Runs 1 ∷ Idle ∷ Idle ∷ Runs 2 ∷ Idle ∷ Idle ∷ Idle ∷ Runs 3 ∷ Runs 4 ∷ Idle ∷ Idle ∷ Idle ∷ Idle ∷ Idle ∷ Runs
      5 ∷ Runs 6 ∷ Idle ∷ Idle ∷ Runs 7 ∷ [];
}
unfolding word next with_job with_tick allowance_of may_be_off comes_before inside_segment most_urgent add_job arrive_of add_tick
    simulated_run new_job last_release service_of ticks_in arrivals_of value_of alpha_of no_job no_task
seeded_run = refl

-- no more ticks are supplied than promised
dense_supply : run_of half (periodic 2 10 1 Full ∷ []) Dense 8 ≡ record {
  jobs = job 0 0 2 [] ∷ [];
  ticks = Off ∷ Off ∷ Runs 0 ∷ Runs 0 ∷ Off ∷ Off ∷ Idle ∷ Idle ∷ [];
}
unfolding promised with_job with_tick allowance_of may_be_off comes_before inside_segment most_urgent add_job arrive_of add_tick
    simulated_run new_job last_release service_of ticks_in arrivals_of value_of alpha_of no_job no_task
dense_supply = refl

fixed_segments : run_of Whole (periodic 5 10 1 (Fixed (2 ∷ 3 ∷ [])) ∷ []) Dense 6 ≡ record {
  jobs = job 0 0 5 (2 ∷ 3 ∷ []) ∷ [];
  ticks = Runs 0 ∷ Runs 0 ∷ Runs 0 ∷ Runs 0 ∷ Runs 0 ∷ Idle ∷ [];
}
unfolding with_job with_tick allowance_of may_be_off comes_before inside_segment most_urgent add_job arrive_of add_tick
    simulated_run new_job last_release service_of ticks_in arrivals_of value_of alpha_of no_job no_task
fixed_segments = refl

-- job 2 is more urgent and waits for the second segment of job 1
seeded_segments : run_of half (periodic 5 10 1 (Fixed (2 ∷ 3 ∷ [])) ∷ periodic 3 6 2 (Floating 2) ∷ []) (Seed 2) 12 ≡ record {
  jobs = job 1 1 1 (1 ∷ []) ∷ job 0 2 5 (2 ∷ 3 ∷ []) ∷ job 1 8 1 (1 ∷ []) ∷ [];
  ticks = Off ∷ Runs 0 ∷ Off ∷ Runs 1 ∷ Off ∷ Runs 1 ∷ Off ∷ Runs 1 ∷ Runs 1 ∷ Runs 1 ∷ Runs 2 ∷ Off ∷ [];
}
unfolding word next promised floating_segments with_job with_tick allowance_of may_be_off comes_before inside_segment most_urgent
    add_job arrive_of add_tick simulated_run new_job last_release service_of ticks_in arrivals_of value_of alpha_of no_job no_task
seeded_segments = refl

abbrev jitter : List Task
jitter = released_late 2 5 1 3 Full ∷ []

-- each job is released as late as it may be, until arrivals come later than that
late_dense : run_of Whole jitter Dense 8 ≡ record {
  jobs = late 0 0 3 2 [] ∷ late 0 5 5 2 [] ∷ [];
  ticks = Idle ∷ Idle ∷ Idle ∷ Runs 0 ∷ Runs 0 ∷ Runs 1 ∷ Runs 1 ∷ Idle ∷ [];
}
unfolding with_job with_tick allowance_of may_be_off comes_before inside_segment most_urgent add_job arrive_of add_tick
    simulated_run new_job last_release service_of ticks_in arrivals_of value_of alpha_of no_job no_task
late_dense = refl

-- no word for the task that is released at once; job 6 would be released at 10, and waits for job 5
late_seeded : run_of Whole (periodic 1 4 2 Full ∷ released_late 2 2 1 6 Full ∷ []) (Seed 2) 14 ≡ record {
  jobs = job 0 1 1 [] ∷ job 1 1 2 [] ∷ late 1 3 4 2 [] ∷ job 0 5 1 [] ∷ late 1 5 11 1 [] ∷ late 1 7 11 1 [] ∷ late 1 9 11 2 [] ∷ job 0 10 1 [] ∷ [];
  ticks = Idle ∷ Runs 0 ∷ Runs 1 ∷ Runs 1 ∷ Runs 2 ∷ Runs 3 ∷ Runs 2 ∷ Idle ∷ Idle ∷ Idle ∷ Runs 7 ∷ Runs 4 ∷ Runs 5 ∷ Runs 6 ∷ [];
}
unfolding word next with_job with_tick allowance_of may_be_off comes_before inside_segment most_urgent add_job arrive_of add_tick
    simulated_run new_job last_release service_of ticks_in arrivals_of value_of alpha_of no_job no_task
late_seeded = refl
