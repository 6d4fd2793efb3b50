-- The simulation, over one more tick.
use Rattle.std.proofs.Common.{◌≡◌, ℕ, suc, ◌+◌, ◌-◌, ◌<◌, ◌≤◌, Bool, true, false, cond, List, [], ◌∷◌, ◌++◌, length, Option, Some, None, refl, sym}
use Rattle.std.proofs.Common.{◌∙◌, ap, subst, inl, inr, arith, get_or}
use Rattle.std.specs.Global.{Vec}
use Rattle.std.specs.BTreeMap.{BTreeMap, Updates}
use Rattle.std.specs.BTreeSet.{BTreeSet}
use Rattle.std.proofs.Math.ListN.{set}
use Rattle.std.proofs.lemmas.Bool.{cases_lt, false_from_ne_true}
use Rattle.lists.specs.Searches.{OnlyFails}
use Rattle.lists.proofs.SearchFacts.{best_found, IsFound}
use Rattle.task_sheet.specs.SheetParts.{SheetParts}
use Rattle.task_sheet.specs.Sheets.{task_at}
use Rattle.task_sheet.specs.declared.tasks.Job.{Job}
use Rattle.task_sheet.specs.declared.tasks.Task.{Task}
use Rattle.policy.specs.PolicyMeaning.{PolicyMeaning}
use Rattle.preemption.specs.CutMeaning.{CutMeaning}
use Rattle.run_model.specs.declared.run.Run.{Run}
use Rattle.run_model.specs.declared.run.Tick.{Tick}
use Rattle.run_model.specs.declared.run.Tick.TheVariants.{Off, Idle, Runs}
use Rattle.run_model.specs.Runs.{job_at, service_of, is_on, is_pending}
use Rattle.run_model.proofs.PendingFacts.{pending_from}
use Rattle.run_model.proofs.ServiceFacts.{runs_tells}
use Rattle.schedule_laws.specs.Compliance.{can_cut}
use Rattle.simulated_run.specs.SimulatedRun.{World, Moment, with_tick, add_tick, choice, chosen, most_urgent, comes_before, may_be_off, is_off, after_off}
use Rattle.simulator.specs.declared.simulation.Simulation.{Simulation}
use Rattle.urgency.specs.declared.rank.Rank.{Rank}
use Rattle.simulator.specs.declared.simulation.Due.{Due}
use Rattle.urgency.specs.Ranks.{rank_at, rank_of, rank_cmp}
use Rattle.urgency.specs.Queues.{IsFirstEntry}
use Rattle.simulator.specs.SimulationState.{IsKeptAt, IsKeptBy, IsQueue, MayBe, CanRun, HasReleases, HasCuts, left_at, release_at, run_of}
use Rattle.simulator.proofs.WindowFacts.{are_counts_more, has_arrivals_tick}
use Rattle.simulator.proofs.QueueFacts.{queue_first, queue_none, queue_run, queue_done}
use Rattle.simulator.proofs.KeepFacts.{kept_tells, kept_inside, kept_run, kept_tick}

-- what is chosen

module _ (w : World) (t : ℕ) (run : Run) (left : List ℕ) (queue : BTreeMap Rank ℕ) (coming : BTreeSet Due) (x : Option ℕ)
    (kept : IsKeptAt w.policy w.cuts w.sheet t (suc t) (suc t) run left queue coming x) where
  inside_is : (y : Option ℕ) → x ≡ y → choice w run t ≡ chosen y (most_urgent w run t)
  inside_is y e = ap (λ (i : Option ℕ). chosen i (most_urgent w run t)) (kept_inside w t run left queue coming x kept ∙ e)

  pub chosen_inside : (k : ℕ) → x ≡ Some k → choice w run t ≡ Runs k
  chosen_inside k e = inside_is (Some k) e

  pub chosen_first : (k : ℕ) → x ≡ None → IsFirstEntry queue k → choice w run t ≡ Runs k
  chosen_first k e f =
      inside_is None e ∙ ap (chosen None)
      (queue_first w run left queue coming t kept.waiting (kept_tells w.policy w.cuts w.sheet t run left queue coming x kept) k f.rank f.there f.first)

  pub chosen_idle : x ≡ None → length queue.entries ≡ 0 → choice w run t ≡ Idle
  chosen_idle e f = inside_is None e ∙
      ap (chosen None) (queue_none w run left queue coming t kept.waiting (kept_tells w.policy w.cuts w.sheet t run left queue coming x kept) f)

-- a tick that is chosen can be taken

module _ (w : World) (cuts : HasCuts w) (t : ℕ) (m : Simulation)
    (kept : IsKeptAt w.policy w.cuts w.sheet t (suc t) (suc t) (run_of m) m.left.items m.queue m.coming m.inside) where
  over_cut : (k : ℕ) → k < length m.jobs.items → can_cut w.cuts w.sheet (run_of m) k t ≡ false → 0 < left_at m.left.items k
  over_cut k b f = elim (cases_lt 0 (left_at m.left.items k)) [
    | inl p ↦ p
    | inr z ↦
        let known = kept.known k b in
        let all : can_cut w.cuts w.sheet (run_of m) k t ≡ true =
        (cuts (job_at (run_of m) k).task known.task).cut_last (job_at (run_of m) k) (service_of (run_of m) k t) known.fits
        (omega (arith, kept.amounts k b)) in
        absurd (cc)
  ]

  may_urgent : (best : Option ℕ) → best ≡ most_urgent w (run_of m) t → m.inside ≡ None → MayBe m t (chosen None best)
  unfolding most_urgent
  may_urgent None e f = tt
  may_urgent (Some k) e f =
      let found : IsFound (λ i. is_pending (run_of m) i t) (comes_before w (run_of m)) (length m.jobs.items) k =
      best_found (λ i. is_pending (run_of m) i t) (comes_before w (run_of m)) (length m.jobs.items) k (sym e) in
      let tells = kept_tells w.policy w.cuts w.sheet t (run_of m) m.left.items m.queue m.coming m.inside kept in
      record {
        listed = found.listed;
        waits = tells.over k found.listed found.passes;
        chosen = subst (λ (i : Option ℕ). CanRun i k) (sym f) tt;
        released = (pending_from (run_of m) k t found.passes).released;
      }

  may_at : (x : Option ℕ) → m.inside ≡ x → MayBe m t (choice w (run_of m) t)
  may_at (Some k) e =
      let seg : OnlyFails (λ i. can_cut w.cuts w.sheet (run_of m) i t) (length m.jobs.items) (Some k) =
      subst (λ (i : Option ℕ). OnlyFails (λ i. can_cut w.cuts w.sheet (run_of m) i t) (length m.jobs.items) i) e kept.segment in
      let can : CanRun m.inside k = subst (λ (i : Option ℕ). CanRun i k) (sym e) refl in
      let may : MayBe m t (Runs k) = record { listed = seg.0; waits = over_cut k seg.0 seg.1; chosen = can; released = omega (arith, kept.begun k e) } in
      subst (MayBe m t) (sym (chosen_inside w t (run_of m) m.left.items m.queue m.coming m.inside kept k e)) may
  may_at None e = subst (MayBe m t) (sym (inside_is w t (run_of m) m.left.items m.queue m.coming m.inside kept None e))
      (may_urgent (most_urgent w (run_of m) t) refl e)

  pub may_be : MayBe m t (choice w (run_of m) t)
  may_be = may_at m.inside refl

-- after a job has run

pub run_kept : (p : PolicyMeaning) (m : CutMeaning) (sheet : SheetParts) (t : ℕ) (run : Run) (left : List ℕ)
    (queue : BTreeMap Rank ℕ) (coming : BTreeSet Due) (x : Option ℕ) →
    IsKeptAt p m sheet t (suc t) (suc t) run left queue coming x
    → (j rest : ℕ) (v : Job) (k : Task) (after : BTreeMap Rank ℕ) (r : Rank) (cut : Bool) (y : Option ℕ) → j < length run.jobs → 0
    < left_at left j → CanRun x j → release_at run.jobs j ≤ t → rest ≡ left_at left j - 1
    → v ≡ job_at run j → k ≡ task_at sheet v.task → r ≡ rank_at p sheet v j → (rest ≡ 0 → Updates rank_cmp queue after r None) →
    (0 < rest → after ≡ queue) → cut ≡ m.cuttable k v (v.cost - rest) → y ≡ cond cut None (Some j) → IsKeptAt p m sheet (suc t) (suc t) (suc t)
    (with_tick run (Runs j)) (set left j rest) after coming y
run_kept p m sheet t run left queue coming x kept j rest v k after r cut y b waits can released amount is_v is_k is_r done stays is_cut is_y =
    let in_left : j < length left = omega (arith, kept.lefts) in
    let rank : r ≡ rank_of p sheet run.jobs j = is_r ∙ ap (λ (u : Job). rank_at p sheet u j) is_v in
    let tested : cut ≡ m.cuttable (task_at sheet (job_at run j).task) (job_at run j) ((job_at run j).cost - rest) =
    is_cut ∙
    (ap (λ (u : Task). m.cuttable u v (v.cost - rest)) is_k ∙ ap (λ (u : Job). m.cuttable (task_at sheet u.task) u (u.cost - rest)) is_v) in
    let waiting : IsQueue p sheet run.jobs (set left j rest) (suc t) (suc t) after coming = elim (cases_lt 0 rest) [
      | inl pos ↦
          subst (λ (q : BTreeMap Rank ℕ). IsQueue p sheet run.jobs (set left j rest) (suc t) (suc t) q coming) (sym (stays pos))
          (queue_run p sheet run.jobs left (suc t) (suc t) queue coming j rest in_left waits pos kept.waiting)
      | inr pos ↦
          let z : 0 ≡ rest = omega arith in
          let up : Updates rank_cmp queue after (rank_of p sheet run.jobs j) None =
          subst (λ (q : Rank). Updates rank_cmp queue after q None) rank (done (omega arith)) in
          subst (λ (i : ℕ). IsQueue p sheet run.jobs (set left j i) (suc t) (suc t) after coming) z
          (queue_done p sheet run.jobs left (suc t) (suc t) queue after coming j in_left (omega arith) kept.waiting up)
    ] in
    subst (λ (i : Option ℕ). IsKeptAt p m sheet (suc t) (suc t) (suc t) (with_tick run (Runs j)) (set left j rest) after coming i) (sym is_y)
    (kept_run p m sheet t run left queue coming x kept j rest after cut b can (omega arith) (omega arith) waiting tested)

pub idle_kept : (p : PolicyMeaning) (m : CutMeaning) (sheet : SheetParts) (t : ℕ) (run : Run) (left : List ℕ)
    (queue : BTreeMap Rank ℕ) (coming : BTreeSet Due) (x : Option ℕ) →
    IsKeptAt p m sheet t (suc t) (suc t) run left queue coming x
    → (y : Tick) → ((k : ℕ) → y ≡ Runs k → ⊥) → IsKeptAt p m sheet (suc t) (suc t) (suc t) (with_tick run y) left queue coming x
idle_kept p m sheet t run left queue coming x kept y ne = kept_tick p m sheet t run left queue coming x kept y
    (λ k. false_from_ne_true _ (λ e. ne k (runs_tells k y e))) ne

-- the tick as a whole

pub with_tick_is : (run : Run) (jobs : List Job) (ticks : List Tick) (x : Tick) → jobs ≡ run.jobs →
    ticks ≡ run.ticks ++ x ∷ [] → (let r : Run = record { jobs = jobs; ticks = ticks } in r) ≡ with_tick run x
unfolding with_tick
with_tick_is run jobs ticks x e f = cc

pub ticked : (w : World) (t : ℕ) (m : Moment) (may off : Bool) (y : Tick) (run : Run) (state : ℕ) →
    may ≡ may_be_off w.sbf m.run t → off ≡ is_off w.mode may m.state → y ≡ cond off Off (choice w m.run t) →
    run ≡ with_tick m.run y → state ≡ after_off w.mode may m.state
    → (let r : Moment = record { run = run; state = state } in r) ≡ add_tick w t m
unfolding add_tick
ticked w t m may off y run state e f g h i =
    let is_y : y ≡ cond (is_off w.mode (may_be_off w.sbf m.run t) m.state) Off (choice w m.run t) =
    g ∙ ap (λ (b : Bool). cond b Off (choice w m.run t)) (f ∙ ap (λ (b : Bool). is_off w.mode b m.state) e) in
    let is_state : state ≡ after_off w.mode (may_be_off w.sbf m.run t) m.state = i ∙ ap (λ (b : Bool). after_off w.mode b m.state) e in
    let is_run : run ≡ with_tick m.run (cond (is_off w.mode (may_be_off w.sbf m.run t) m.state) Off (choice w m.run t)) = h ∙ ap (with_tick m.run) is_y in
    cc

-- the last releases are those of the jobs alone
releases_tick : (n : ℕ) (run : Run) (releases : List ℕ) (y : Tick) → HasReleases n run releases → HasReleases n (with_tick run y) releases
unfolding with_tick
releases_tick n run releases y has = record { tasks = has.tasks; each = has.each }

pub kept_then : (p : PolicyMeaning) (m : CutMeaning) (sheet : SheetParts) (t : ℕ) (run run' : Run) (left left' : List ℕ)
    (queue queue' : BTreeMap Rank ℕ) (coming coming' : BTreeSet Due) (x x' : Option ℕ) (total total' : ℕ) (lists lists' : List (Vec ℕ))
    (releases releases' sums sums' : List ℕ) (y : Tick) (n : ℕ) →
    IsKeptBy p m sheet t (suc t) (suc t) run left queue coming x total lists releases sums
    → IsKeptAt p m sheet (suc t) (suc t) (suc t) (with_tick run y) left' queue' coming' x' → run' ≡ with_tick run y → total' ≡ total
    → lists' ≡ lists → releases' ≡ releases → n ≡ get_or sums t 0 + cond {A = ℕ} (is_on y) 1 0 → sums' ≡ sums ++ n ∷ [] →
    IsKeptBy p m sheet (suc t) (suc t) (suc t) run' left' queue' coming' x' total' lists' releases' sums'
unfolding with_tick
kept_then p m sheet t run run' left left' queue queue' coming coming' x x' total total' lists lists' releases releases' sums sums'
    y n kept then is_run is_total is_lists is_releases is_n is_sums =
    let done : IsKeptBy p m sheet (suc t) (suc t) (suc t) (with_tick run y) left' queue' coming' x' total lists releases (sums ++ n ∷ []) = record {
      jobs = then;
      segments = kept.segments;
      arrivals = has_arrivals_tick (length sheet.tasks) run lists y kept.arrivals;
      releases = releases_tick (length sheet.tasks) run releases y kept.releases;
      counts = are_counts_more t run sums y n kept.jobs.now kept.counts is_n;
    } in
    subst (λ (v : Run). IsKeptBy p m sheet (suc t) (suc t) (suc t) v left' queue' coming' x' total' lists' releases' sums') (sym is_run)
    (subst (λ (v : ℕ). IsKeptBy p m sheet (suc t) (suc t) (suc t) (with_tick run y) left' queue' coming' x' v lists' releases' sums') (sym is_total)
    (subst (λ (v : List (Vec ℕ)). IsKeptBy p m sheet (suc t) (suc t) (suc t) (with_tick run y) left' queue' coming' x' total v releases' sums') (sym is_lists)
    (subst (λ (v : List ℕ). IsKeptBy p m sheet (suc t) (suc t) (suc t) (with_tick run y) left' queue' coming' x' total lists v sums') (sym is_releases)
    (subst (λ (v : List ℕ). IsKeptBy p m sheet (suc t) (suc t) (suc t) (with_tick run y) left' queue' coming' x' total lists releases v) (sym is_sums) done))))
