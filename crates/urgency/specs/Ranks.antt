-- Ranks of jobs, by which a queue is ordered.
use Rattle.std.specs.Prelude.{ℕ, List, slice_index_or}
use Rattle.std.specs.declared.cmp.Ordering.{Ordering}
use Rattle.std.specs.Ordering.{nat_cmp, int_cmp, ordering_then}
use Rattle.task_sheet.specs.SheetParts.{SheetParts}
use Rattle.task_sheet.specs.declared.tasks.Job.{Job}
use Rattle.policy.specs.PolicyMeaning.{PolicyMeaning}
use Rattle.run_model.specs.Runs.{no_job}
use Rattle.urgency.specs.declared.rank.Rank.{Rank}

-- the rank of a job with this number
abbrev pub rank_at : PolicyMeaning → SheetParts → Job → ℕ → Rank
rank_at p sheet j k = record { high = (p.key sheet j).high; low = (p.key sheet j).low; task = j.task; arrival = j.arrival; number = k }

-- the rank of job k
abbrev pub rank_of : PolicyMeaning → SheetParts → List Job → ℕ → Rank
rank_of p sheet jobs k = rank_at p sheet (slice_index_or jobs k no_job) k

-- the order of ranks: by the key, then by the task, the arrival and the number
abbrev pub rank_cmp : Rank → Rank → Ordering
rank_cmp a b = ordering_then (int_cmp a.high b.high)
    (ordering_then (int_cmp a.low b.low) (ordering_then (nat_cmp a.task b.task) (ordering_then (nat_cmp a.arrival b.arrival) (nat_cmp a.number b.number))))
