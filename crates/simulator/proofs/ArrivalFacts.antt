-- The simulation, over one more job.
use Rattle.std.proofs.Common.{◌≡◌, ℕ, suc, ◌+◌, ◌-◌, ◌<◌, ◌≤◌, Bool, true, cond, List, [], ◌∷◌, ◌++◌, length, Option, sym, ◌∙◌, ap, subst, inl, inr}
use Rattle.std.proofs.Common.{arith, get_or}
use Rattle.std.specs.Global.{Vec}
use Rattle.std.specs.BTreeMap.{BTreeMap}
use Rattle.std.specs.BTreeSet.{BTreeSet}
use Rattle.std.proofs.Math.ListN.{set}
use Rattle.std.proofs.lemmas.Bool.{cases_eq, eq-eqb, ne_eqb}
use Rattle.std.proofs.lemmas.List.{get_or_read, get_or-set_same, get_or-set_other, length-set}
use Rattle.lists.proofs.SearchFacts.{greatest_within}
use Rattle.curve.specs.CurveValue.{Curve}
use Rattle.curve.specs.Curves.{alpha_of}
use Rattle.curve.specs.Validity.{IsCurve}
use Rattle.curve.proofs.CurveFacts.{alpha_bound}
use Rattle.task_sheet.specs.SheetParts.{SheetParts}
use Rattle.task_sheet.specs.Sheets.{task_at, IsTask, IsValidSheet}
use Rattle.task_sheet.specs.declared.tasks.Job.{Job}
use Rattle.task_sheet.specs.declared.tasks.Task.{Task}
use Rattle.policy.specs.PolicyMeaning.{PolicyMeaning}
use Rattle.policy.specs.PolicyLaws.{IsLawfulPolicy}
use Rattle.preemption.specs.CutMeaning.{CutMeaning}
use Rattle.preemption.specs.CutLaws.{IsLawfulCut, IsTabledCut}
use Rattle.run_model.specs.declared.run.Run.{Run}
use Rattle.run_text.specs.Text.{segments_of}
use Rattle.simulated_run.specs.declared.mode.Mode.{Mode}
use Rattle.simulated_run.specs.Words.{after}
use Rattle.simulated_run.specs.Jobs.{cost_by, segments_by, words_by, after_load, released_by, after_release, new_job, after_job, last_release}
use Rattle.simulated_run.specs.SimulatedRun.{World, Moment, moment_after, with_job, add_job, add_jobs, arrive_of, arrive_below, room, arriving, after_arriving}
use Rattle.simulated_run.proofs.GrowthFacts.{jobs_in_turn, tasks_in_turn}
use Rattle.simulated_run.proofs.ReleaseFacts.{last_more}
use Rattle.simulated_run.proofs.JobFacts.{new_cost_low, new_cost_high, new_fits_by}
use Rattle.simulated_run.proofs.Soundness.{IsLawful}
use Rattle.simulated_run.proofs.Stages.{IsBetween, between}
use Rattle.supply.specs.Lawful.{stated_starts, stated_grows}
use Rattle.windows.specs.Arrivals.{allowance_in, admits_in, IsPast}
use Rattle.windows.specs.Crowds.{AreArrivals}
use Rattle.windows.specs.Supplied.{AreCounts, ArePromised}
use Rattle.simulator.proofs.SameAnswers.{allowance_same, counts_job}
use Rattle.urgency.specs.declared.rank.Rank.{Rank}
use Rattle.simulator.specs.declared.simulation.Due.{Due}
use Rattle.simulator.specs.declared.refusal.SimRefusal.{SimRefusal}
use Rattle.simulator.specs.declared.refusal.SimRefusal.TheVariants.{Jobs, Segments, Memory}
use Rattle.simulator.specs.Simulations.{IsRefusal}
use Rattle.simulator.specs.Loads.{IsLoadRefusal}
use Rattle.urgency.specs.Ranks.{rank_at}
use Rattle.simulator.specs.SimulationState.{IsKeptBy, IsTakenUp, IsWithin, IsNew, IsKnown, HasArrivals, HasReleases, HasCuts, IsTabled, world_by}
use Rattle.simulator.proofs.LimitFacts.{segments_more, too_many_jobs, too_many_segments, refusal_on}
use Rattle.simulator.proofs.WindowFacts.{has_arrivals_more, past_is, promised_is}
use Rattle.simulator.proofs.CutFacts.{new_floats}
use Rattle.simulator.proofs.KeepFacts.{kept_job}

-- the job that is made is the new job
pub job_is : (mode : Mode) (task own : Task) (o t last before state now cost release : ℕ) (segs : List ℕ) → task ≡ own →
    cost ≡ cost_by mode task.cut task.cost state →
    segs ≡ segments_by mode task.cut (cost_by mode task.cut task.cost state) state → last ≡ before →
    now ≡ after (words_by mode task.cut) state → release ≡ released_by mode task.jitter t before now
    → (let j : Job = record { task = o; arrival = t; release = release; cost = cost; segs = segs } in j) ≡ new_job mode own o t last state
unfolding new_job
job_is mode task own o t last before state now cost release segs same e f was is g =
    let own_cost : cost ≡ cost_by mode own.cut own.cost state = e ∙ ap (λ (v : Task). cost_by mode v.cut v.cost state) same in
    let own_segs : segs ≡ segments_by mode own.cut (cost_by mode own.cut own.cost state) state =
    f ∙ ap (λ (v : Task). segments_by mode v.cut (cost_by mode v.cut v.cost state) state) same in
    let own_now : now ≡ after_load mode own state = is ∙ ap (λ (v : Task). after (words_by mode v.cut) state) same in
    let own_release : release ≡ released_by mode own.jitter t last (after_load mode own state) =
    g ∙ (ap (λ (v : Task). released_by mode v.jitter t before now) same
    ∙ (ap (λ (v : ℕ). released_by mode own.jitter t v now) (sym was) ∙ ap (λ (v : ℕ). released_by mode own.jitter t last v) own_now)) in
    cc

-- a new job can be taken up
pub new_is : (mode : Mode) (m : CutMeaning) (sheet : SheetParts) (o t last state : ℕ) (jobs : List Job) →
    o < length sheet.tasks → IsTask (task_at sheet o) → IsLawfulCut m (task_at sheet o) →
    IsTabledCut m (task_at sheet o) → length jobs < 20000
    → segments_of jobs + length (new_job mode (task_at sheet o) o t last state).segs ≤ 1000000 →
    IsNew m sheet jobs (new_job mode (task_at sheet o) o t last state)
unfolding new_job
new_is mode m sheet o t last state jobs b ok law tabled few short =
    let fits : m.fits (task_at sheet o) (new_job mode (task_at sheet o) o t last state) ≡ true =
    new_fits_by mode (task_at sheet o) ok o t last state m tabled in
    record {
      known =
          record {
            task = b;
            arrived = omega arith;
            cost = omega (arith, new_cost_high mode (task_at sheet o) ok o t last state, ok.cost_high);
            fits = fits;
            floats = new_floats mode (task_at sheet o) o t last state;
          };
      positive = new_cost_low mode (task_at sheet o) ok o t last state;
      cut = law.cut_first (new_job mode (task_at sheet o) o t last state) fits;
      few_jobs = few;
      few_segments = short;
    }

pub made_new : (mode : Mode) (m : CutMeaning) (sheet : SheetParts) (o t last state : ℕ) (jobs : List Job) (job : Job) →
    job ≡ new_job mode (task_at sheet o) o t last state → o < length sheet.tasks → IsTask (task_at sheet o) →
    IsLawfulCut m (task_at sheet o) → IsTabledCut m (task_at sheet o) → length jobs < 20000
    → segments_of jobs + length job.segs ≤ 1000000 → IsNew m sheet jobs job
made_new mode m sheet o t last state jobs job e b ok law tabled few short =
    subst (IsNew m sheet jobs) (sym e)
    (new_is mode m sheet o t last state jobs b ok law tabled few (subst (λ (v : Job). segments_of jobs + length v.segs ≤ 1000000) e short))

-- the last releases, with one job more
releases_more : (n : ℕ) (run : Run) (releases : List ℕ) (j : Job) → HasReleases n run releases → j.task < n →
    HasReleases n (with_job run j) (set releases j.task j.release)
unfolding with_job
releases_more n run releases j has b = record {
  tasks = length-set releases j.task j.release ∙ has.tasks;
  each = λ o h. elim (cases_eq j.task o) [
    | inl e ↦
        let now : last_release o (run.jobs ++ j ∷ []) ≡ j.release =
        last_more o run.jobs j ∙ ap (λ (v : Bool). cond {A = ℕ} v j.release (last_release o run.jobs)) (eq-eqb j.task o e) in
        subst (λ i. get_or (set releases j.task j.release) i 0 ≡ last_release o (run.jobs ++ j ∷ [])) e
        (get_or-set_same releases j.task j.release 0 (omega (arith, has.tasks)) ∙ sym now)
    | inr ne ↦
        let same : last_release o (run.jobs ++ j ∷ []) ≡ last_release o run.jobs =
        last_more o run.jobs j ∙ ap (λ (v : Bool). cond {A = ℕ} v j.release (last_release o run.jobs)) (ne_eqb j.task o ne) in
        get_or-set_other releases j.task o j.release 0 (λ e. ne (sym e)) ∙ (has.each o h ∙ sym same)
  ];
}

-- what the simulation has for the task
pub last_is : (o n : ℕ) (run : Run) (releases : List ℕ) (x : ℕ) → HasReleases n run releases → o < n → x ≡ get_or releases o x →
    last_release o run.jobs ≡ x
last_is o n run releases x has b e = sym (has.each o b) ∙ sym (get_or_read releases o x (omega (arith, has.tasks)) e 0)

module _ (p : PolicyMeaning) (m : CutMeaning) (sheet : SheetParts) (t : ℕ) (run : Run) (left : List ℕ) (queue : BTreeMap Rank ℕ) (coming : BTreeSet Due)
    (x : Option ℕ) (total : ℕ) (lists : List (Vec ℕ)) (releases sums : List ℕ)
    (kept : IsKeptBy p m sheet t (suc t) (suc t) run left queue coming x total lists releases sums) where
  -- the simulation after a new job
  pub kept_with : (j : Job) (n : ℕ) (r : Rank) (after : BTreeMap Rank ℕ) (then : BTreeSet Due) (run' : Run) (left' : List ℕ)
      (total' : ℕ) (lists' : List (Vec ℕ)) (longer : Vec ℕ) (releases' : List ℕ) →
      IsNew m sheet run.jobs j → j.arrival ≡ t → n ≡ length run.jobs → r ≡ rank_at p sheet j n →
      IsTakenUp t r (record { release = j.release; number = n }) queue after coming then
      → run' ≡ with_job run j → left' ≡ left ++ j.cost ∷ [] → total' ≡ total + length j.segs → lists' ≡ set lists j.task longer →
      longer.items ≡ (get_or lists j.task longer).items ++ j.arrival ∷ [] → releases' ≡ set releases j.task j.release →
      IsKeptBy p m sheet t (suc t) (suc t) run' left' after then x total' lists' releases' sums
  unfolding with_job
  kept_with j n r after then run' left' total' lists' longer releases' new at_t len is_r up is_run is_left is_total is_lists is_longer is_releases =
      let known : IsKnown m sheet t j = subst (λ i. IsKnown m sheet i j) at_t new.known in
      let up' : IsTakenUp t (rank_at p sheet j n) (record { release = j.release; number = n }) queue after coming then =
      subst (λ (q : Rank). IsTakenUp t q (record { release = j.release; number = n }) queue after coming then) is_r up in
      let done : IsKeptBy p m sheet t (suc t) (suc t) (with_job run j) (left ++ j.cost ∷ []) after then x total'
      (set lists j.task longer) (set releases j.task j.release) sums = record {
        jobs = kept_job p m sheet t run left queue coming x kept.jobs after then j n len known new.positive new.cut new.few_jobs new.few_segments up';
        segments = omega (arith, is_total, kept.segments, segments_more run.jobs j);
        arrivals = has_arrivals_more (length sheet.tasks) run lists j longer kept.arrivals new.known.task
            (λ k b. omega (arith, (kept.jobs.known k b).arrived)) is_longer;
        releases = releases_more (length sheet.tasks) run releases j kept.releases new.known.task;
        counts = counts_job run j sums t kept.counts;
      } in
      subst (λ (v : Run). IsKeptBy p m sheet t (suc t) (suc t) v left' after then x total' lists' releases' sums) (sym is_run)
      (subst (λ (v : List ℕ). IsKeptBy p m sheet t (suc t) (suc t) (with_job run j) v after then x total' lists' releases' sums) (sym is_left)
      (subst (λ (v : List (Vec ℕ)). IsKeptBy p m sheet t (suc t) (suc t) (with_job run j)
      (left ++ j.cost ∷ []) after then x total' v releases' sums) (sym is_lists)
      (subst (λ (v : List ℕ). IsKeptBy p m sheet t (suc t) (suc t) (with_job run j) (left ++ j.cost ∷ []) after then x total'
      (set lists j.task longer) v sums) (sym is_releases) done)))

-- the run after one more job
pub with_job_is : (run : Run) (jobs : List Job) (j : Job) → jobs ≡ run.jobs ++ j ∷ [] →
    (let r : Run = record { jobs = jobs; ticks = run.ticks } in r) ≡ with_job run j
unfolding with_job
with_job_is run jobs j e = ap (λ (l : List Job). (let r : Run = record { jobs = l; ticks = run.ticks } in r)) e

pub added : (w : World) (o t : ℕ) (m : Moment) (job : Job) (run : Run) (state : ℕ) →
    job ≡ new_job w.mode (task_at w.sheet o) o t (last_release o m.run.jobs) m.state → run ≡ with_job m.run job →
    state ≡ after_job w.mode (task_at w.sheet o) m.state
    → (let r : Moment = record { run = run; state = state } in r) ≡ add_job w o t m
unfolding add_job
added w o t m job run state e f g = cc

-- the generator's state after the words of a new job
pub state_is : (mode : Mode) (task own : Task) (state now then : ℕ) → task ≡ own → now ≡ after (words_by mode task.cut) state →
    then ≡ after_release mode task.jitter now → then ≡ after_job mode own state
state_is mode task own state now then same e f =
    f ∙ (ap (after_release mode task.jitter) e ∙ ap (λ (v : Task). after_release mode v.jitter (after (words_by mode v.cut) state)) same)

-- refusals of one more job

module _ (w : World) (o t : ℕ) (m : Moment) (within : IsWithin m.run.jobs) where
  pub refuses_jobs : 20000 ≤ length m.run.jobs → IsRefusal (add_job w o t m).run.jobs Jobs
  unfolding add_job with_job
  refuses_jobs h = too_many_jobs m.run.jobs _ within h

  refuses_by : (spare : ℕ) (e : SimRefusal) → length m.run.jobs < 20000 → spare ≡ 1000000 - segments_of m.run.jobs →
      IsLoadRefusal spare (new_job w.mode (task_at w.sheet o) o t (last_release o m.run.jobs) m.state).segs e →
      IsRefusal (add_job w o t m).run.jobs e
  unfolding add_job with_job
  refuses_by spare Jobs few s h = absurd h
  refuses_by spare Segments few s h = too_many_segments m.run.jobs _ within few (omega arith)
  refuses_by spare Memory few s h = tt

  pub refuses_load : (task : Task) (spare : ℕ) (e : SimRefusal) → task ≡ task_at w.sheet o → length m.run.jobs < 20000 →
      spare ≡ 1000000 - segments_of m.run.jobs →
      IsLoadRefusal spare (segments_by w.mode task.cut (cost_by w.mode task.cut task.cost m.state) m.state) e →
      IsRefusal (add_job w o t m).run.jobs e
  unfolding new_job
  refuses_load task spare e same few s h =
      refuses_by spare e few s
      (subst (λ (v : Task). IsLoadRefusal spare (segments_by w.mode v.cut (cost_by w.mode v.cut v.cost m.state) m.state) e) same h)

-- what refuses one job refuses those after it

pub refuses_then : (w : World) (o t i n : ℕ) (m now : Moment) (e : SimRefusal) → i < n → now ≡ add_jobs w o t i m →
    IsRefusal (add_job w o t now).run.jobs e → IsRefusal (add_jobs w o t n m).run.jobs e
refuses_then w o t i n m now e h is r =
    let here : IsRefusal (add_jobs w o t (suc i) m).run.jobs e = subst (λ (v : Moment). IsRefusal (add_job w o t v).run.jobs e) is r in
    refusal_on _ _ e (jobs_in_turn w o t (suc i) n m (omega arith)) here

pub refuses_tasks : (w : World) (t o n : ℕ) (m now : Moment) (e : SimRefusal) → o < n → now ≡ arrive_below w t o m →
    IsRefusal (arrive_of w o t now).run.jobs e → IsRefusal (arrive_below w t n m).run.jobs e
refuses_tasks w t o n m now e h is r =
    let here : IsRefusal (arrive_below w t (suc o) m).run.jobs e = subst (λ (v : Moment). IsRefusal (arrive_of w o t v).run.jobs e) is r in
    refusal_on _ _ e (tasks_in_turn w t (suc o) n m (omega arith)) here

-- the jobs of a task

pub arrived_by : (w : World) (o t : ℕ) (m : Moment) (g n state : ℕ) → g ≡ room w o t m → n ≡ arriving w.mode g m.state →
    state ≡ after_arriving w.mode g m.state →
    add_jobs w o t n (record { run = m.run; state = state }) ≡ arrive_of w o t m
unfolding arrive_of
arrived_by w o t m g n state e f h =
    let count : n ≡ arriving w.mode (room w o t m) m.state = f ∙ ap (λ (v : ℕ). arriving w.mode v m.state) e in
    let later : state ≡ after_arriving w.mode (room w o t m) m.state = h ∙ ap (λ (v : ℕ). after_arriving w.mode v m.state) e in
    ap (λ (v : ℕ). add_jobs w o t v (record { run = m.run; state = state })) count ∙ ap
    (λ (v : ℕ). add_jobs w o t (arriving w.mode (room w o t m) m.state) (record { run = m.run; state = v })) later

-- the simulation's list of a task
pub list_is : (o n : ℕ) (run : Run) (lists : List (Vec ℕ)) (list : List ℕ) (v : Vec ℕ) → HasArrivals n run lists →
    o < n → v ≡ get_or lists o v → list ≡ v.items → AreArrivals run o list
list_is o n run lists list v has b is_v is_list = subst (AreArrivals run o) (sym (is_list ∙ ap (λ (u : Vec ℕ). u.items) is_v)) (has.each o v b)

pub list_past : (w : World) (laws : IsLawful w) (o t : ℕ) (run : Run) (list : List ℕ) (task : Task) →
    o < length w.sheet.tasks → run ≡ (arrive_below w t o (moment_after w t)).run → task ≡ task_at w.sheet o →
    AreArrivals run o list → IsPast task.curve list t
list_past w laws o t run list task b stage is_task are =
    let here : IsBetween w o t run = subst (IsBetween w o t) (sym stage) (between w laws t o (omega arith)) in
    subst (λ (u : Task). IsPast u.curve list t) (sym is_task) (past_is w o t run list b here are)

pub room_is : (w : World) (o t : ℕ) (m : Moment) (list : List ℕ) (task : Task) (g : ℕ) → task ≡ task_at w.sheet o →
    AreArrivals m.run o list → g ≡ allowance_in task.curve list t → g ≡ room w o t m
room_is w o t m list task g is_task are is_g =
    is_g ∙ (ap (λ (u : Task). allowance_in u.curve list t) is_task ∙ allowance_same (task_at w.sheet o).curve o m.run list t (λ s h. are.same s t))

pub lawful_world : (p : PolicyMeaning) (m : CutMeaning) (sheet : SheetParts) (mode : Mode) → IsValidSheet sheet →
    IsLawfulPolicy p sheet → HasCuts (world_by p m sheet mode) → IsTabled (world_by p m sheet mode) →
    IsLawful (world_by p m sheet mode)
lawful_world p m sheet mode valid policy cuts tabled =
    record { sheet = valid; policy = policy; cuts = cuts; tabled = tabled; starts = stated_starts sheet valid; rises = λ d. (stated_grows sheet d valid).1 }

pub allowance_small : (curve : Curve) (arrivals : List ℕ) (t : ℕ) → IsCurve curve → allowance_in curve arrivals t ≤ 2000000
unfolding allowance_in
allowance_small curve arrivals t ok = omega (arith, greatest_within (admits_in curve arrivals t) (alpha_of curve 1), alpha_bound curve ok 1)

-- after the arrivals at t the counts keep the promise
pub counts_promised : (w : World) (laws : IsLawful w) (t : ℕ) (run : Run) (sums counts : List ℕ) →
    run ≡ (arrive_below w t (length w.sheet.tasks) (moment_after w t)).run → AreCounts run sums t → counts ≡ sums →
    ArePromised w.sbf counts t
counts_promised w laws t run sums counts stage are is =
    let here : IsBetween w (length w.sheet.tasks) t run = subst (IsBetween w (length w.sheet.tasks) t) (sym stage)
    (between w laws t (length w.sheet.tasks) (omega arith)) in
    subst (λ (l : List ℕ). ArePromised w.sbf l t) (sym is) (promised_is w t run sums here.sound are)
