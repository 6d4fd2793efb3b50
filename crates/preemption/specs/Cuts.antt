use Rattle.std.specs.Prelude.{ℕ, ◌+◌, ◌-◌, ◌==◌, ◌&&◌, ◌||◌, List, [], ◌∷◌, max, Bool, true, false, nat_le, sum}
use Rattle.lists.specs.Ranges.{is_between}
use Rattle.task_sheet.specs.declared.tasks.Cut.{Cut}
use Rattle.task_sheet.specs.declared.tasks.Cut.TheVariants.{Full, Never, Fixed, Floating}
use Rattle.task_sheet.specs.declared.tasks.Task.{Task}
use Rattle.task_sheet.specs.declared.tasks.Job.{Job}
use Rattle.task_sheet.specs.Rules.{last_number}

-- s is the sum of some first numbers of the list
abbrev pub is_prefix_sum : List ℕ → ℕ → Bool
is_prefix_sum [] s = s == 0
is_prefix_sum (x ∷ xs) s = (s == 0) || (nat_le x s && is_prefix_sum xs (s - x))

abbrev pub greatest : List ℕ → ℕ
greatest [] = 0
greatest (x ∷ xs) = max x (greatest xs)

-- as many, and each at most the other at its place
abbrev pub each_within : List ℕ → List ℕ → Bool
each_within [] [] = true
each_within [] (y ∷ ys) = false
each_within (x ∷ xs) [] = false
each_within (x ∷ xs) (y ∷ ys) = nat_le x y && each_within xs ys

-- lengths of segments, each at most the bound
abbrev pub are_lengths_within : ℕ → List ℕ → Bool
are_lengths_within bound [] = true
are_lengths_within bound (x ∷ xs) = is_between 1 bound x && are_lengths_within bound xs

abbrev pub has_none : List ℕ → Bool
has_none [] = true
has_none (x ∷ xs) = false

-- whether a job of a task with this cut can be cut at service s
abbrev pub cuttable_by : Cut → Job → ℕ → Bool
cuttable_by Full j s = true
cuttable_by Never j s = (s == 0) || nat_le j.cost s
cuttable_by (Fixed segments) j s = is_prefix_sum j.segs s || nat_le j.cost s
cuttable_by (Floating bound) j s = is_prefix_sum j.segs s || nat_le j.cost s

-- the most service between two cuts
abbrev pub longest_by : Cut → ℕ → ℕ
longest_by Full cost = 1
longest_by Never cost = cost
longest_by (Fixed segments) cost = greatest segments
longest_by (Floating bound) cost = bound

-- from this service on a job is not cut any more
abbrev pub threshold_by : Cut → ℕ → ℕ
threshold_by Full cost = cost
threshold_by Never cost = 1
threshold_by (Fixed segments) cost = cost - last_number 0 segments + 1
threshold_by (Floating bound) cost = cost

-- whether a job's segments fit a task with this cut
abbrev pub segments_fit : Cut → Job → Bool
segments_fit Full j = has_none j.segs
segments_fit Never j = has_none j.segs
segments_fit (Fixed segments) j = each_within j.segs segments && (sum j.segs == j.cost)
segments_fit (Floating bound) j = are_lengths_within bound j.segs && (sum j.segs == j.cost)

abbrev pub is_cuttable : Task → Job → ℕ → Bool
is_cuttable task j s = cuttable_by task.cut j s

abbrev pub longest_of : Task → ℕ
longest_of task = longest_by task.cut task.cost

abbrev pub threshold_of : Task → ℕ
threshold_of task = threshold_by task.cut task.cost

-- a job's cost and segments fit its task
abbrev pub fits : Task → Job → Bool
fits task j = is_between 1 task.cost j.cost && segments_fit task.cut j
