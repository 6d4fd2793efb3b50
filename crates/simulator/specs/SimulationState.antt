-- How the simulation stands to the run so far: the code's own invariants. Nothing here is to be believed.
use Rattle.std.specs.Prelude.{◌≡◌, ℕ, ◌+◌, ◌<◌, ◌≤◌, List, suc, ◌⊎◌, true, false, length, Option, Some, None, slice_index_or}
use Rattle.std.specs.BTreeMap.{BTreeMap, get, Updates}
use Rattle.std.specs.BTreeSet.{BTreeSet, contains, Updates as UpdatesDue}
use Rattle.std.specs.Global.{Vec}
use Rattle.lists.specs.Limits.{greatest_number, most_jobs, most_segments}
use Rattle.lists.specs.Searches.{OnlyFails}
use Rattle.task_sheet.specs.SheetParts.{SheetParts}
use Rattle.task_sheet.specs.Sheets.{task_at}
use Rattle.task_sheet.specs.declared.tasks.Cut.{Cut}
use Rattle.task_sheet.specs.declared.tasks.Cut.TheVariants.{Full, Never, Fixed, Floating}
use Rattle.task_sheet.specs.declared.tasks.Job.{Job}
use Rattle.policy.specs.PolicyMeaning.{PolicyMeaning}
use Rattle.preemption.specs.CutMeaning.{CutMeaning}
use Rattle.preemption.specs.CutLaws.{IsLawfulCut, IsTabledCut}
use Rattle.supply.specs.Promises.{sbf_of}
use Rattle.run_model.specs.declared.run.Run.{Run}
use Rattle.run_model.specs.declared.run.Tick.{Tick}
use Rattle.run_model.specs.declared.run.Tick.TheVariants.{Off, Idle, Runs}
use Rattle.run_model.specs.Runs.{no_job, job_at, tick_at, service_of}
use Rattle.run_text.specs.Text.{segments_of}
use Rattle.schedule_laws.specs.Compliance.{can_cut}
use Rattle.simulated_run.specs.declared.mode.Mode.{Mode}
use Rattle.simulated_run.specs.Jobs.{floating_segments, last_release}
use Rattle.simulated_run.specs.SimulatedRun.{World, Moment, world_of, arrive_below, moment_after}
use Rattle.windows.specs.Crowds.{AreArrivals}
use Rattle.windows.specs.Supplied.{AreCounts}
use Rattle.simulator.specs.declared.simulation.Simulation.{Simulation}
use Rattle.urgency.specs.declared.rank.Rank.{Rank}
use Rattle.simulator.specs.declared.simulation.Due.{Due}
use Rattle.simulator.specs.Simulations.{refused_by}
use Rattle.urgency.specs.Ranks.{rank_of, rank_cmp}
use Rattle.simulator.specs.Dues.{due_of, due_cmp}

-- the world of a sheet with the supply that it states
abbrev pub world_by : PolicyMeaning → CutMeaning → SheetParts → Mode → World
world_by p m sheet mode = world_of p m (sbf_of sheet.supply) sheet mode

-- the run so far
abbrev pub run_of : Simulation → Run
run_of simulation = record { jobs = simulation.jobs.items; ticks = simulation.ticks.items }

-- with the generator's state
abbrev pub moment_of : Simulation → Moment
moment_of simulation = record { run = run_of simulation; state = simulation.words }

-- the moment at tick t once the jobs of the first n tasks have arrived
abbrev pub moment_with : World → ℕ → ℕ → Moment
moment_with w t n = arrive_below w t n (moment_after w t)

-- when job k is released
abbrev pub release_at : List Job → ℕ → ℕ
release_at jobs k = (slice_index_or jobs k no_job).release

-- the service that job k still needs
abbrev pub left_at : List ℕ → ℕ → ℕ
left_at left k = slice_index_or left k 0

-- an entry of the queue: a job that is not done, and is released before u
pub record IsEntry (p : PolicyMeaning) (sheet : SheetParts) (jobs : List Job) (left : List ℕ) (u : ℕ) (q : Rank) (k : ℕ) : Type 0 where
  pub listed : k < length jobs
  pub waits : 0 < left_at left k
  pub rank : q ≡ rank_of p sheet jobs k
  pub released : release_at jobs k < u

-- a job to come, which is released at v or later
pub record IsToCome (jobs : List Job) (left : List ℕ) (v : ℕ) (d : Due) : Type 0 where
  pub listed : d.number < length jobs
  pub waits : 0 < left_at left d.number
  pub release : d.release ≡ release_at jobs d.number
  pub later : v ≤ d.release

-- the jobs that are not done: those in the queue, and those to come
pub record IsQueue (p : PolicyMeaning) (sheet : SheetParts) (jobs : List Job) (left : List ℕ) (u v : ℕ) (queue : BTreeMap Rank ℕ)
    (coming : BTreeSet Due) : Type 0 where
  pub sound : (q : Rank) (k : ℕ) → get rank_cmp queue q ≡ Some k → IsEntry p sheet jobs left u q k
  pub due : (d : Due) → contains due_cmp coming d ≡ true → IsToCome jobs left v d
  pub complete : (k : ℕ) → k < length jobs → 0 < left_at left k →
      (get rank_cmp queue (rank_of p sheet jobs k) ≡ Some k) ⊎ (contains due_cmp coming (due_of jobs k) ≡ true)

-- what a new job does to them: it is in the queue where it is released by t, else to come
pub record IsTakenUp (t : ℕ) (rank : Rank) (d : Due) (queue queue' : BTreeMap Rank ℕ) (coming coming' : BTreeSet Due) : Type 0 where
  pub queued : d.release ≤ t → Updates rank_cmp queue queue' rank (Some d.number)
  pub kept : d.release ≤ t → coming' ≡ coming
  pub waits : t < d.release → queue' ≡ queue
  pub comes : t < d.release → UpdatesDue due_cmp coming coming' d true

-- no job to come is released by t
abbrev pub NoneIsDue : ℕ → BTreeSet Due → Type 0
NoneIsDue t coming = (d : Due) → contains due_cmp coming d ≡ true → t < d.release

-- one of the jobs to come that is released by t is taken out
pub record IsTakenOut (t : ℕ) (coming coming' : BTreeSet Due) (d : Due) : Type 0 where
  pub there : contains due_cmp coming d ≡ true
  pub released : d.release ≤ t
  pub gone : UpdatesDue due_cmp coming coming' d false
  pub fewer : length coming'.keys < length coming.keys

-- where the segments of a job float, all but the last are as long as may be
abbrev pub FloatsBy : Cut → Job → Type 0
FloatsBy Full j = Unit {0}
FloatsBy Never j = Unit {0}
FloatsBy (Fixed segments) j = Unit {0}
FloatsBy (Floating bound) j = j.segs ≡ floating_segments bound j.cost

-- a job that may be there at t
pub record IsKnown (m : CutMeaning) (sheet : SheetParts) (t : ℕ) (j : Job) : Type 0 where
  pub task : j.task < length sheet.tasks
  pub arrived : j.arrival ≤ t
  pub cost : j.cost ≤ greatest_number
  pub fits : m.fits (task_at sheet j.task) j ≡ true
  pub floats : FloatsBy (task_at sheet j.task).cut j

-- the jobs are within the limits
pub record IsWithin (jobs : List Job) : Type 0 where
  pub none : refused_by jobs ≡ None
  pub few_jobs : length jobs ≤ most_jobs
  pub few_segments : segments_of jobs ≤ most_segments

-- what the simulation keeps of its jobs, before tick t: the queue has those that are released before u, and the others are released at v or later
pub record IsKeptAt (p : PolicyMeaning) (m : CutMeaning) (sheet : SheetParts) (t u v : ℕ) (run : Run) (left : List ℕ)
    (queue : BTreeMap Rank ℕ) (coming : BTreeSet Due) (inside : Option ℕ) : Type 0 where
  pub now : length run.ticks ≡ t
  pub known : (k : ℕ) → k < length run.jobs → IsKnown m sheet t (job_at run k)
  pub listed : (u k : ℕ) → u < t → tick_at run u ≡ Runs k → k < length run.jobs
  pub lefts : length left ≡ length run.jobs
  pub amounts : (k : ℕ) → k < length run.jobs → left_at left k + service_of run k t ≡ (job_at run k).cost
  pub waiting : IsQueue p sheet run.jobs left u v queue coming
  pub segment : OnlyFails (λ k. can_cut m sheet run k t) (length run.jobs) inside
  -- a job inside a segment is released
  pub begun : (k : ℕ) → inside ≡ Some k → (job_at run k).release < u
  pub within : IsWithin run.jobs

-- for each of n tasks, when its jobs arrived
pub record HasArrivals (n : ℕ) (run : Run) (lists : List (Vec ℕ)) : Type 0 where
  pub tasks : length lists ≡ n
  pub each : (o : ℕ) (d : Vec ℕ) → o < n → AreArrivals run o (slice_index_or lists o d).items

-- for each of n tasks, when its last job was released
pub record HasReleases (n : ℕ) (run : Run) (releases : List ℕ) : Type 0 where
  pub tasks : length releases ≡ n
  pub each : (o : ℕ) → o < n → slice_index_or releases o 0 ≡ last_release o run.jobs

-- what the simulation keeps before tick t
pub record IsKeptBy (p : PolicyMeaning) (m : CutMeaning) (sheet : SheetParts) (t u v : ℕ) (run : Run) (left : List ℕ)
    (queue : BTreeMap Rank ℕ) (coming : BTreeSet Due) (inside : Option ℕ) (total : ℕ) (lists : List (Vec ℕ)) (lasts sums : List ℕ) : Type 0 where
  pub jobs : IsKeptAt p m sheet t u v run left queue coming inside
  pub segments : total ≡ segments_of run.jobs
  pub arrivals : HasArrivals (length sheet.tasks) run lists
  pub releases : HasReleases (length sheet.tasks) run lasts
  pub counts : AreCounts run sums t

abbrev pub IsKeptUpTo : PolicyMeaning → CutMeaning → SheetParts → ℕ → ℕ → ℕ → Simulation → Type 0
IsKeptUpTo p m sheet t u v simulation =
    IsKeptBy p m sheet t u v (run_of simulation) simulation.left.items simulation.queue simulation.coming simulation.inside
    simulation.segments simulation.arrivals.items simulation.releases.items simulation.counts.items

-- before the jobs that are released at t are let in
abbrev pub IsKept : PolicyMeaning → CutMeaning → SheetParts → ℕ → Simulation → Type 0
IsKept p m sheet t simulation = IsKeptUpTo p m sheet t t t simulation

-- and after
abbrev pub IsReady : PolicyMeaning → CutMeaning → SheetParts → ℕ → Simulation → Type 0
IsReady p m sheet t simulation = IsKeptUpTo p m sheet t (suc t) (suc t) simulation

-- where a job is inside a segment, it alone may run
abbrev pub CanRun : Option ℕ → ℕ → Type 0
CanRun None k = Unit {0}
CanRun (Some j) k = k ≡ j

-- what may run at t
pub record IsRunnable (simulation : Simulation) (t k : ℕ) : Type 0 where
  pub listed : k < length simulation.jobs.items
  pub waits : 0 < left_at simulation.left.items k
  pub chosen : CanRun simulation.inside k
  pub released : release_at simulation.jobs.items k ≤ t

-- a tick that the simulation can take at t
abbrev pub MayBe : Simulation → ℕ → Tick → Type 0
MayBe simulation t Off = Unit {0}
MayBe simulation t Idle = Unit {0}
MayBe simulation t (Runs k) = IsRunnable simulation t k

-- a job that the simulation can take up
pub record IsNew (m : CutMeaning) (sheet : SheetParts) (jobs : List Job) (j : Job) : Type 0 where
  pub known : IsKnown m sheet j.arrival j
  pub positive : 1 ≤ j.cost
  pub cut : m.cuttable (task_at sheet j.task) j 0 ≡ true
  pub few_jobs : length jobs < most_jobs
  pub few_segments : segments_of jobs + length j.segs ≤ most_segments

-- all but what the simulation keeps of the jobs in the queue
pub record KeepsRest (before after : Simulation) : Type 0 where
  pub jobs : after.jobs ≡ before.jobs
  pub ticks : after.ticks ≡ before.ticks
  pub words : after.words ≡ before.words
  pub segments : after.segments ≡ before.segments
  pub arrivals : after.arrivals ≡ before.arrivals
  pub releases : after.releases ≡ before.releases
  pub counts : after.counts ≡ before.counts

-- the cuts of a world are lawful
abbrev pub HasCuts : World → Type 0
HasCuts w = (o : ℕ) → o < length w.sheet.tasks → IsLawfulCut w.cuts (task_at w.sheet o)

-- and those of the table
abbrev pub IsTabled : World → Type 0
IsTabled w = (o : ℕ) → o < length w.sheet.tasks → IsTabledCut w.cuts (task_at w.sheet o)
