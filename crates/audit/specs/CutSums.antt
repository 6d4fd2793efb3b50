-- What the first segments of the jobs sum up to.
use Rattle.std.specs.Prelude.{◌≡◌, ℕ, ◌+◌, ◌<◌, List, [], ◌∷◌, length, slice_index_or}
use Rattle.std.specs.Global.{Vec}
use Rattle.run_model.specs.declared.run.Run.{Run}
use Rattle.run_model.specs.Runs.{job_at}

-- the sums of the first numbers, each with s: of none, of one, and so on to all
abbrev pub sums_from : ℕ → List ℕ → List ℕ
sums_from s [] = s ∷ []
sums_from s (x ∷ xs) = s ∷ sums_from (s + x) xs

-- for each job the sums of its first segments
pub record AreSums (run : Run) (sums : List (Vec ℕ)) : Type 0 where
  pub count : length sums ≡ length run.jobs
  pub each : (k : ℕ) (d : Vec ℕ) → k < length run.jobs →
      (slice_index_or sums k d).items ≡ sums_from 0 (job_at run k).segs
