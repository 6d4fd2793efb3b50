-- The simulation as a whole.
use Rattle.std.proofs.Common.{◌≡◌, ℕ, suc, ◌<◌, List, [], ◌∷◌, false, length, replicate, get_or, Some, None, Ok, Err, refl, sym, ◌∙◌, ap, subst, arith}
use Rattle.std.specs.Global.{Vec}
use Rattle.std.specs.BTreeMap.{BTreeMap, get}
use Rattle.std.specs.BTreeSet.{BTreeSet, contains}
use Rattle.std.specs.List.{list_any}
use Rattle.std.specs.Map.{lookup}
use Rattle.std.proofs.lemmas.List.{length-replicate, get_or-replicate}
use Rattle.task_sheet.specs.SheetParts.{SheetParts}
use Rattle.task_sheet.specs.declared.tasks.Job.{Job}
use Rattle.policy.specs.PolicyMeaning.{PolicyMeaning}
use Rattle.preemption.specs.CutMeaning.{CutMeaning}
use Rattle.run_model.specs.declared.run.Run.{Run}
use Rattle.run_model.specs.declared.run.Tick.{Tick}
use Rattle.simulated_run.specs.Jobs.{last_release}
use Rattle.simulated_run.specs.SimulatedRun.{World, Moment, seed_of, moment_after, simulated_run, arrive_below}
use Rattle.simulated_run.proofs.GrowthFacts.{begins_trans, moment_extends, moments_in_turn}
use Rattle.windows.proofs.TickCounts.{counts_start}
use Rattle.urgency.specs.declared.rank.Rank.{Rank}
use Rattle.simulator.specs.declared.simulation.Due.{Due}
use Rattle.simulator.specs.declared.refusal.SimRefusal.{SimRefusal}
use Rattle.simulator.specs.declared.refusal.SimRefusal.TheVariants.{Jobs, Segments, Memory}
use Rattle.simulator.specs.Simulations.{refused_by, simulation_of, IsSimulation, IsRefusal}
use Rattle.urgency.specs.Ranks.{rank_cmp}
use Rattle.simulator.specs.Dues.{due_cmp}
use Rattle.simulator.specs.SimulationState.{IsKeptAt, IsKeptBy, IsQueue, HasReleases}
use Rattle.simulator.proofs.LimitFacts.{none_within, refusal_on}
use Rattle.simulator.proofs.WindowFacts.{has_no_arrivals}

-- the simulation before the first tick

abbrev pub no_run : Run
no_run = record { jobs = []; ticks = [] }

empty_queue : (p : PolicyMeaning) (sheet : SheetParts) (queue : BTreeMap Rank ℕ) (coming : BTreeSet Due) → queue.entries ≡ [] → coming.keys ≡ [] →
    IsQueue p sheet [] [] 0 0 queue coming
empty_queue p sheet queue coming e f = record {
  sound = λ q k h. absurd (let none : get rank_cmp queue q ≡ None = ap (lookup _) e in cc);
  due = λ d h. absurd (let none : contains due_cmp coming d ≡ false = ap (list_any _) f in cc);
  complete = λ k h. absurd (omega arith);
}

no_releases : (n : ℕ) (releases : List ℕ) → releases ≡ replicate n 0 → HasReleases n no_run releases
unfolding last_release
no_releases n releases e = record { tasks = ap length e ∙ length-replicate n 0; each = λ o b. ap (λ (l : List ℕ). get_or l o 0) e ∙ get_or-replicate n o 0 0 b }

pub kept_first : (p : PolicyMeaning) (m : CutMeaning) (sheet : SheetParts) (run : Run) (left : List ℕ) (queue : BTreeMap Rank ℕ)
    (coming : BTreeSet Due) (lists : List (Vec ℕ)) (releases sums : List ℕ) →
    run ≡ no_run → left ≡ [] → queue.entries ≡ [] → coming.keys ≡ [] → length lists ≡ length sheet.tasks
    → ((o : ℕ) (d : Vec ℕ) → o < length sheet.tasks → (get_or lists o d).items ≡ []) → releases ≡ replicate (length sheet.tasks) 0 →
    sums ≡ 0 ∷ [] → IsKeptBy p m sheet 0 0 0 run left queue coming None 0 lists releases sums
kept_first p m sheet run left queue coming lists releases sums is_run is_left is_queue is_coming len none is_releases is_sums =
    let jobs : IsKeptAt p m sheet 0 0 0 no_run [] queue coming None = record {
      now = refl;
      known = λ k h. absurd (omega arith);
      listed = λ u k h. absurd (omega arith);
      lefts = refl;
      amounts = λ k h. absurd (omega arith);
      waiting = empty_queue p sheet queue coming is_queue is_coming;
      segment = λ k h. absurd (omega arith);
      begun = λ k e. absurd (cc);
      within = none_within;
    } in
    let done : IsKeptBy p m sheet 0 0 0 no_run [] queue coming None 0 lists releases (0 ∷ []) = record {
      jobs = jobs;
      segments = refl;
      arrivals = has_no_arrivals (length sheet.tasks) lists len none;
      releases = no_releases (length sheet.tasks) releases is_releases;
      counts = counts_start no_run (0 ∷ []) refl;
    } in
    subst (λ (v : Run). IsKeptBy p m sheet 0 0 0 v left queue coming None 0 lists releases sums) (sym is_run)
    (subst (λ (v : List ℕ). IsKeptBy p m sheet 0 0 0 no_run v queue coming None 0 lists releases sums) (sym is_left)
    (subst (λ (v : List ℕ). IsKeptBy p m sheet 0 0 0 no_run [] queue coming None 0 lists releases v) (sym is_sums) done))

-- the run, or its refusal

pub simulated_is : (w : World) (n t : ℕ) (now : Moment) (run : Run) → t ≡ n → now ≡ moment_after w t → run ≡ now.run → run ≡ simulated_run w n
unfolding simulated_run
simulated_is w n t now run e is is_run = is_run ∙ (ap (λ (m : Moment). m.run) is ∙ ap (λ (k : ℕ). (moment_after w k).run) e)

pub simulated : (w : World) (n : ℕ) (run : Run) → run ≡ simulated_run w n → refused_by run.jobs ≡ None → simulation_of w n ≡ Ok run
simulated w n run is none =
    let allowed : refused_by (simulated_run w n).jobs ≡ None = subst (λ (r : Run). refused_by r.jobs ≡ None) is none in
    rw allowed (ap (λ (r : Run). Ok r) (sym is))

refused_run : (w : World) (n : ℕ) (e : SimRefusal) → refused_by (moment_after w n).run.jobs ≡ Some e → simulation_of w n ≡ Err e
unfolding simulated_run
refused_run w n e h = rw h refl

refusal_is : (w : World) (n : ℕ) (e : SimRefusal) → IsRefusal (moment_after w n).run.jobs e → IsSimulation w n (Err e)
refusal_is w n Jobs h = refused_run w n Jobs h
refusal_is w n Segments h = refused_run w n Segments h
refusal_is w n Memory h = tt

-- what refuses the arrivals at t refuses the run
pub refused : (w : World) (n t : ℕ) (e : SimRefusal) → t < n →
    IsRefusal (arrive_below w t (length w.sheet.tasks) (moment_after w t)).run.jobs e → IsSimulation w n (Err e)
refused w n t e h r = refusal_is w n e (refusal_on _ _ e (begins_trans _ _ _ (moments_in_turn w (suc t) n (omega arith)) (moment_extends w t)) r)

pub no_run_is : (jobs : List Job) (ticks : List Tick) → jobs ≡ [] → ticks ≡ [] → (let r : Run = record { jobs = jobs; ticks = ticks } in r) ≡ no_run
no_run_is jobs ticks e f = cc

pub first_moment : (w : World) (run : Run) (state : ℕ) → run ≡ no_run → state ≡ seed_of w w.mode →
    (let r : Moment = record { run = run; state = state } in r) ≡ moment_after w 0
first_moment w run state e f = cc

pub run_is : (run : Run) (jobs : List Job) (ticks : List Tick) → jobs ≡ run.jobs → ticks ≡ run.ticks →
    (let r : Run = record { jobs = jobs; ticks = ticks } in r) ≡ run
run_is run jobs ticks e f =
    ap (λ (l : List Job). (let r : Run = record { jobs = l; ticks = ticks } in r)) e ∙ ap
    (λ (l : List Tick). (let r : Run = record { jobs = run.jobs; ticks = l } in r)) f
