-- The jobs of a simulated run.
use Rattle.std.specs.Prelude.{ℕ, ◌+◌, ◌/◌, ◌%◌, ◌==◌, List, [], ◌∷◌, ◌++◌, cond, length, replicate, sum, max}
use Rattle.task_sheet.specs.declared.tasks.Cut.{Cut}
use Rattle.task_sheet.specs.declared.tasks.Cut.TheVariants.{Full, Never, Fixed, Floating}
use Rattle.task_sheet.specs.declared.tasks.Task.{Task}
use Rattle.task_sheet.specs.declared.tasks.Job.{Job}
use Rattle.simulated_run.specs.declared.mode.Mode.{Mode}
use Rattle.simulated_run.specs.declared.mode.Mode.TheVariants.{Dense, Seed}
use Rattle.simulated_run.specs.Words.{word, next, after}

-- for each segment of the task, one of at most its length, by a word each
abbrev pub drawn_segments : List ℕ → ℕ → List ℕ
drawn_segments [] state = []
drawn_segments (g ∷ gs) state = (1 + word state % g) ∷ drawn_segments gs (next state)

-- what is left of a cost behind whole segments, where it is not 0
abbrev pub rest_segment : ℕ → List ℕ
rest_segment n = cond (n == 0) [] (n ∷ [])

-- the bound as often as it fits into the cost, and then the rest
unfoldable pub floating_segments : ℕ → ℕ → List ℕ
floating_segments bound cost = replicate (cost / bound) bound ++ rest_segment (cost % bound)

-- a cost of at most this one, by one word
abbrev pub drawn_cost : ℕ → ℕ → ℕ
drawn_cost cost state = 1 + word state % cost

-- the cost of a new job of a task with this cut and cost
abbrev pub cost_by : Mode → Cut → ℕ → ℕ → ℕ
cost_by Dense cut cost state = cost
cost_by (Seed seed) Full cost state = drawn_cost cost state
cost_by (Seed seed) Never cost state = drawn_cost cost state
cost_by (Seed seed) (Fixed segments) cost state = sum (drawn_segments segments state)
cost_by (Seed seed) (Floating bound) cost state = drawn_cost cost state

-- the segments of a new job of a task with this cut, where the job has this cost
abbrev pub segments_by : Mode → Cut → ℕ → ℕ → List ℕ
segments_by mode Full cost state = []
segments_by mode Never cost state = []
segments_by Dense (Fixed segments) cost state = segments
segments_by (Seed seed) (Fixed segments) cost state = drawn_segments segments state
segments_by mode (Floating bound) cost state = floating_segments bound cost

-- how many words a new job takes
abbrev pub words_by : Mode → Cut → ℕ
words_by Dense cut = 0
words_by (Seed seed) Full = 1
words_by (Seed seed) Never = 1
words_by (Seed seed) (Fixed segments) = length segments
words_by (Seed seed) (Floating bound) = 1

-- the state after the words of its cost and segments
abbrev pub after_load : Mode → Task → ℕ → ℕ
after_load mode task state = after (words_by mode task.cut) state

-- when a job that arrives at t is released, whose task has this jitter and released its job before at `last`
abbrev pub released_by : Mode → ℕ → ℕ → ℕ → ℕ → ℕ
released_by Dense jitter t last state = max t jitter
released_by (Seed seed) jitter t last state = cond (jitter == 0) t (max (t + word state % (jitter + 1)) last)

-- the state after that
abbrev pub after_release : Mode → ℕ → ℕ → ℕ
after_release Dense jitter state = state
after_release (Seed seed) jitter state = cond (jitter == 0) state (next state)

-- a new job of task o that arrives at t, where the task's job before it was released at `last`
unfoldable pub new_job : Mode → Task → ℕ → ℕ → ℕ → ℕ → Job
new_job mode task o t last state = record {
  task = o;
  arrival = t;
  release = released_by mode task.jitter t last (after_load mode task state);
  cost = cost_by mode task.cut task.cost state;
  segs = segments_by mode task.cut (cost_by mode task.cut task.cost state) state;
}

-- the generator's state after its words
abbrev pub after_job : Mode → Task → ℕ → ℕ
after_job mode task state = after_release mode task.jitter (after_load mode task state)

-- the release of the last job of task o, and the one before where there is none
abbrev pub last_release_from : ℕ → ℕ → List Job → ℕ
last_release_from o before [] = before
last_release_from o before (j ∷ jobs) = last_release_from o (cond (j.task == o) j.release before) jobs

unfoldable pub last_release : ℕ → List Job → ℕ
last_release o jobs = last_release_from o 0 jobs
