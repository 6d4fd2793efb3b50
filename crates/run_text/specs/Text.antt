-- The texts of each run.
use Rattle.std.specs.Prelude.{◌≡◌, ℕ, ◌+◌, ◌*◌, ◌<◌, ◌≤◌, ◌==◌, Bool, true, false, List, [], ◌∷◌, ◌++◌, length, codes, decimal, All, flat_map, sum_by}
use Rattle.std.specs.Prelude.{if◌then◌else◌}
use Rattle.lists.specs.Limits.{greatest_number, most_jobs, most_ticks, most_segments}
use Rattle.poet_io.specs.Texts.{Format}
use Rattle.task_sheet.specs.declared.tasks.Job.{Job}
use Rattle.run_model.specs.declared.run.Run.{Run}
use Rattle.run_model.specs.declared.run.Tick.{Tick}
use Rattle.run_model.specs.declared.run.Tick.TheVariants.{Off, Idle, Runs}
use Rattle.run_text.specs.declared.version.Version.{Version}
use Rattle.run_text.specs.declared.version.Version.TheVariants.{First, Second}

-- a tick, and how often it comes in a row
pub record Stretch : Type 0 where
  pub tick : Tick
  pub count : ℕ

abbrev pub stretch : Tick → ℕ → Stretch
stretch x n = record { tick = x; count = n }

-- the two ticks are the same
abbrev pub is_same : Tick → Tick → Bool
is_same Off Off = true
is_same Idle Idle = true
is_same (Runs k) (Runs m) = k == m
is_same _ _ = false

-- n equal ticks before these stretches: they join the first one, if it is of the same tick
abbrev pub with_front : Tick → ℕ → List Stretch → List Stretch
with_front x n [] = stretch x n ∷ []
with_front x n (s ∷ ss) = if is_same x s.tick then stretch x (n + s.count) ∷ ss else stretch x n ∷ (s ∷ ss)

-- the stretches of the ticks, each as long as can be
abbrev pub stretches_of : List Tick → List Stretch
stretches_of [] = []
stretches_of (x ∷ xs) = with_front x 1 (stretches_of xs)

-- what the processor does: off, idle, or run K
abbrev pub tick_words : Tick → List ℕ
tick_words Off = codes "off "
tick_words Idle = codes "idle "
tick_words (Runs k) = codes "run " ++ (decimal k ++ codes " ")

-- the line of a stretch: off N, idle N, or run K N
abbrev pub stretch_line : Stretch → List ℕ
stretch_line s = tick_words s.tick ++ (decimal s.count ++ codes "\n")

-- a segment in its job's line, with the space before it
abbrev pub segment_text : ℕ → List ℕ
segment_text n = codes " " ++ decimal n

-- the first line, without its newline
abbrev pub head_of : Version → List ℕ
head_of First = codes "poet-run 1"
head_of Second = codes "poet-run 2"

-- a release in its job's line, with the space behind it; the first version says none
abbrev pub release_text : Version → ℕ → List ℕ
release_text First release = []
release_text Second release = decimal release ++ codes " "

-- the line of a job: j TASK ARRIVAL RELEASE COST S1 S2 .., in the first version without the release
abbrev pub job_line : Version → Job → List ℕ
job_line version j =
    codes "j " ++ (decimal j.task ++ (codes " " ++ (decimal j.arrival ++ (codes " " ++
    (release_text version j.release ++ (decimal j.cost ++ (flat_map segment_text j.segs ++ codes "\n")))))))

-- the line of the counts: jobs J ticks T
unfoldable pub counts_line : Run → List ℕ
counts_line run =
    codes "jobs " ++ (decimal (length run.jobs) ++ (codes " ticks " ++ (decimal (length run.ticks) ++ codes "\n")))

-- the text of a run in a version, spelled
abbrev pub text_in : Version → Run → List ℕ
text_in version run =
    head_of version ++ (codes "\n" ++ (counts_line run ++ (flat_map (job_line version) run.jobs ++
    (flat_map stretch_line (stretches_of run.ticks) ++ codes "end\n"))))

-- the text that is written of a run, in the second version
abbrev pub text_of : Run → List ℕ
text_of run = text_in Second run

-- the greatest release that a job's line may have
abbrev pub greatest_release : ℕ
greatest_release = 2 * greatest_number

-- a segment's length is in range
abbrev pub IsSegment : ℕ → Type 0
IsSegment n = n ≤ greatest_number

-- a job's numbers are in range
pub record IsJob (j : Job) : Type 0 where
  pub task : j.task ≤ greatest_number
  pub arrival : j.arrival ≤ greatest_number
  pub release : j.release ≤ greatest_release
  pub cost : j.cost ≤ greatest_number
  pub segs : All IsSegment j.segs

-- the tick runs one of the first n jobs, or none
abbrev pub IsTickOf : ℕ → Tick → Type 0
IsTickOf n Off = Unit {0}
IsTickOf n Idle = Unit {0}
IsTickOf n (Runs k) = k < n

-- how many segments the jobs have together
abbrev pub segments_of : List Job → ℕ
segments_of jobs = sum_by (λ j. length j.segs) jobs

-- the run is small enough to be written, its numbers are in range, and its ticks run only its jobs
pub record IsWithinLimits (run : Run) : Type 0 where
  pub few_jobs : length run.jobs ≤ most_jobs
  pub few_ticks : length run.ticks ≤ most_ticks
  pub few_segments : segments_of run.jobs ≤ most_segments
  pub jobs : All IsJob run.jobs
  pub ticks : All (IsTickOf (length run.jobs)) run.ticks

-- the version can tell the job: the first one says no release, and means the arrival
abbrev pub Tells : Version → Job → Type 0
Tells version j = version ≡ First → j.release ≡ j.arrival

-- the bytes are the text of the run in a version that can tell its jobs
pub record IsTextOf (bytes : List ℕ) (run : Run) : Type 0 where
  pub version : Version
  pub told : All (Tells version) run.jobs
  pub text : bytes ≡ text_in version run

-- the format of runs: each that is within the limits has a text in each version that can tell its jobs
abbrev pub run_format : Format Run
run_format = record { is_within = IsWithinLimits; is_text_of = IsTextOf }
