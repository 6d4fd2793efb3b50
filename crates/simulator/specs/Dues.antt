-- Releases of jobs, the keys of the code's jobs to come. Nothing here is to be believed.
use Rattle.std.specs.Prelude.{ℕ, List, slice_index_or}
use Rattle.std.specs.declared.cmp.Ordering.{Ordering}
use Rattle.std.specs.Ordering.{nat_cmp, ordering_then}
use Rattle.task_sheet.specs.declared.tasks.Job.{Job}
use Rattle.run_model.specs.Runs.{no_job}
use Rattle.simulator.specs.declared.simulation.Due.{Due}

-- when job k is released, as an entry of the jobs to come
abbrev pub due_of : List Job → ℕ → Due
due_of jobs k = record { release = (slice_index_or jobs k no_job).release; number = k }

-- their order: by the release, then by the number
abbrev pub due_cmp : Due → Due → Ordering
due_cmp a b = ordering_then (nat_cmp a.release b.release) (nat_cmp a.number b.number)
