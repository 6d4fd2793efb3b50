-- What a simulation gives: the simulated run, or the limit that its jobs pass.
use Rattle.std.specs.Prelude.{◌≡◌, ℕ, ◌+◌, List, length, take, nat_le, nat_lt, Option, Some, None, Result, Ok, Err}
use Rattle.lists.specs.Limits.{most_jobs, most_segments}
use Rattle.lists.specs.Firsts.{first_of, must, first_below}
use Rattle.task_sheet.specs.declared.tasks.Job.{Job}
use Rattle.run_model.specs.declared.run.Run.{Run}
use Rattle.run_text.specs.Text.{segments_of}
use Rattle.simulated_run.specs.SimulatedRun.{World, simulated_run}
use Rattle.simulator.specs.declared.refusal.SimRefusal.{SimRefusal}
use Rattle.simulator.specs.declared.refusal.SimRefusal.TheVariants.{Jobs, Segments, Memory}

-- the limit that job k passes, after the jobs before it
abbrev pub passed_at : List Job → ℕ → Option SimRefusal
passed_at jobs k = first_of (must (nat_lt k most_jobs) Jobs) (must (nat_le (segments_of (take (k + 1) jobs)) most_segments) Segments)

-- the limit that the first of the jobs to pass one passes
unfoldable pub refused_by : List Job → Option SimRefusal
refused_by jobs = first_below (passed_at jobs) (length jobs)

-- the run, or the limit that refuses it
abbrev pub run_or : Run → Option SimRefusal → Result Run SimRefusal
run_or run None = Ok run
run_or run (Some limit) = Err limit

-- the simulated run of n ticks, or the limit that its jobs pass
abbrev pub simulation_of : World → ℕ → Result Run SimRefusal
simulation_of w n = run_or (simulated_run w n) (refused_by (simulated_run w n).jobs)

-- what the simulation of n ticks gives, but for want of memory
abbrev pub IsSimulation : World → ℕ → Result Run SimRefusal → Type 0
IsSimulation w n (Ok run) = simulation_of w n ≡ Ok run
IsSimulation w n (Err Jobs) = simulation_of w n ≡ Err Jobs
IsSimulation w n (Err Segments) = simulation_of w n ≡ Err Segments
IsSimulation w n (Err Memory) = Unit {0}

-- what a refusal says of the jobs that were to be made
abbrev pub IsRefusal : List Job → SimRefusal → Type 0
IsRefusal jobs Jobs = refused_by jobs ≡ Some Jobs
IsRefusal jobs Segments = refused_by jobs ≡ Some Segments
IsRefusal jobs Memory = Unit {0}
