-- What a queue of jobs has.
use Rattle.std.specs.Prelude.{◌≡◌, ℕ, ◌<◌, ◌==◌, ◌&&◌, ◌||◌, not, true, false, Bool, List, length, Option, Some, None, slice_index_or}
use Rattle.std.specs.Ordering.{is_gt}
use Rattle.std.specs.BTreeMap.{BTreeMap, get, IsLowerBound}
use Rattle.task_sheet.specs.SheetParts.{SheetParts}
use Rattle.task_sheet.specs.declared.tasks.Job.{Job}
use Rattle.policy.specs.PolicyMeaning.{PolicyMeaning}
use Rattle.run_model.specs.Runs.{no_job}
use Rattle.urgency.specs.declared.rank.Rank.{Rank}
use Rattle.urgency.specs.Ranks.{rank_of, rank_cmp}

-- an entry is of a job that passes the test, by its rank
pub record IsEntry (p : PolicyMeaning) (sheet : SheetParts) (jobs : List Job) (test : ℕ → Bool) (r : Rank) (k : ℕ) : Type 0 where
  pub listed : k < length jobs
  pub waits : test k ≡ true
  pub rank : r ≡ rank_of p sheet jobs k

-- the queue has exactly the jobs of the list that pass the test
pub record IsQueue (p : PolicyMeaning) (sheet : SheetParts) (jobs : List Job) (test : ℕ → Bool) (queue : BTreeMap Rank ℕ) : Type 0 where
  pub sound : (r : Rank) (k : ℕ) → get rank_cmp queue r ≡ Some k → IsEntry p sheet jobs test r k
  pub complete : (k : ℕ) → k < length jobs → test k ≡ true → get rank_cmp queue (rank_of p sheet jobs k) ≡ Some k

-- the list has this job with this number
pub record Has (jobs : List Job) (n : ℕ) (job : Job) : Type 0 where
  pub listed : n < length jobs
  pub is : job ≡ slice_index_or jobs n no_job

-- what passes, and n
abbrev pub with_member : (ℕ → Bool) → ℕ → ℕ → Bool
with_member test n k = (k == n) || test k

-- what passes, but for n
abbrev pub without : (ℕ → Bool) → ℕ → ℕ → Bool
without test n k = not (k == n) && test k

-- the number of the queue's first entry
pub record IsFirstEntry (queue : BTreeMap Rank ℕ) (k : ℕ) : Type 0 where
  pub rank : Rank
  pub there : get rank_cmp queue rank ≡ Some k
  pub first : IsLowerBound rank_cmp queue rank

-- of the jobs that pass the one whose rank no other comes before; None exactly where none passes
abbrev pub IsMostUrgent : PolicyMeaning → SheetParts → List Job → (ℕ → Bool) → Option ℕ → Type 0
IsMostUrgent p sheet jobs test None = (k : ℕ) → k < length jobs → test k ≡ false
IsMostUrgent p sheet jobs test (Some f) =
    (f < length jobs) × (test f ≡ true) × ((k : ℕ) → k < length jobs → test k ≡ true →
    is_gt (rank_cmp (rank_of p sheet jobs f) (rank_of p sheet jobs k)) ≡ false)
