-- What windows answers, in the words of the simulated run.
use Rattle.std.proofs.Common.{◌≡◌, ℕ, ◌+◌, ◌-◌, ◌≤◌, ◌&&◌, Bool, true, false, cond, List, [], ◌∷◌, ◌++◌, length, get_or, refl, sym, ◌∙◌, ap, arith, leb, ltb}
use Rattle.std.proofs.lemmas.Bool.{le-leb, leb-true, eq-eqb, ne_eqb, both_ways, false_from_ne_true}
use Rattle.lists.proofs.FirstFacts.{all_parts, all_from, all_same}
use Rattle.lists.proofs.SearchFacts.{greatest_same}
use Rattle.curve.specs.CurveValue.{Curve}
use Rattle.curve.specs.Curves.{alpha_of}
use Rattle.task_sheet.specs.declared.tasks.Job.{Job}
use Rattle.run_model.specs.declared.run.Run.{Run}
use Rattle.run_model.specs.declared.run.Tick.{Tick}
use Rattle.run_model.specs.declared.run.Tick.TheVariants.{Off}
use Rattle.run_model.specs.Runs.{is_on, ticks_in}
use Rattle.schedule_laws.specs.Compliance.{arrives_in, arrivals_of}
use Rattle.windows.specs.Arrivals.{arrived_in, admits_in, allowance_in}
use Rattle.windows.specs.Supplied.{AreCounts, MayBeOff}
use Rattle.windows.proofs.ArrivalFacts.{arrived_push}
use Rattle.windows.proofs.TickCounts.{counts_more, supplied_more, window_now}
use Rattle.simulated_run.specs.SimulatedRun.{with_job, with_tick, admits, allowance_of, may_be_off}
use Rattle.simulated_run.proofs.RunFacts.{arrivals_more, ticks_more, tick_new, window_kept}

-- the allowance of a list that has the arrivals of task o
pub allowance_same : (c : Curve) (o : ℕ) (run : Run) (xs : List ℕ) (t : ℕ) →
    ((s : ℕ) → s ≤ t → arrived_in xs s t ≡ arrivals_of run o s t) → allowance_in c xs t ≡ allowance_of c o run t
unfolding allowance_in allowance_of
allowance_same c o run xs t same =
    greatest_same (admits_in c xs t) (admits c o run t) (alpha_of c 1)
    (λ g. all_same (λ s. leb (arrived_in xs s t + g) (alpha_of c (t + 1 - s)))
    (λ s. leb (arrivals_of run o s t + g) (alpha_of c (t + 1 - s))) (t + 1)
    (λ s b. ap (λ (n : ℕ). leb (n + g) (alpha_of c (t + 1 - s))) (same s (omega arith))))

-- the list has the arrivals of task o: as many in each window
abbrev pub ListsArrivals : Run → ℕ → List ℕ → Type 0
ListsArrivals run o xs = (s u : ℕ) → arrived_in xs s u ≡ arrivals_of run o s u

pub lists_none : (o : ℕ) (ticks : List Tick) → ListsArrivals (record { jobs = []; ticks = ticks }) o []
unfolding arrived_in arrivals_of
lists_none o ticks s u = refl

pub lists_tick : (run : Run) (o : ℕ) (xs : List ℕ) (tick : Tick) → ListsArrivals run o xs → ListsArrivals (with_tick run tick) o xs
unfolding with_tick arrivals_of
lists_tick run o xs tick same = same

-- a job of the task arrives
pub lists_own : (run : Run) (o : ℕ) (xs : List ℕ) (job : Job) → job.task ≡ o → ListsArrivals run o xs →
    ListsArrivals (with_job run job) o (xs ++ job.arrival ∷ [])
lists_own run o xs job e same s u =
    let own : arrives_in o s u job ≡ (leb s job.arrival && ltb job.arrival u) =
    ap (λ (b : Bool). b && (leb s job.arrival && ltb job.arrival u)) (eq-eqb job.task o e) in
    omega (arith, same s u, arrivals_more run job o s u, arrived_push xs job.arrival s u, ap (λ (b : Bool). cond {A = ℕ} b 1 0) own)

-- a job of another task arrives
pub lists_other : (run : Run) (o : ℕ) (xs : List ℕ) (job : Job) → (job.task ≡ o → ⊥) → ListsArrivals run o xs → ListsArrivals (with_job run job) o xs
lists_other run o xs job other same s u =
    let none : arrives_in o s u job ≡ false = ap (λ (b : Bool). b && (leb s job.arrival && ltb job.arrival u)) (ne_eqb job.task o other) in
    omega (arith, same s u, arrivals_more run job o s u, ap (λ (b : Bool). cond {A = ℕ} b 1 0) none)

-- the counts of a run with one tick more
counts_with : (run : Run) (tick : Tick) (counts : List ℕ) (t : ℕ) → length run.ticks ≡ t → AreCounts run counts t → AreCounts (with_tick run tick) counts t
counts_with run tick counts t e are = record { counted = are.counted; each = λ s h. are.each s h ∙ sym (window_kept run tick is_on 0 s (omega arith)) }

-- counts of a run are counts of the run with one tick more, and with one job more
pub counts_tick : (run : Run) (tick : Tick) (counts : List ℕ) (t x : ℕ) → length run.ticks ≡ t →
    AreCounts run counts t → x ≡ get_or counts t 0 + cond (is_on tick) 1 0 →
    AreCounts (with_tick run tick) (counts ++ x ∷ []) (t + 1)
counts_tick run tick counts t x e are is =
    let same = counts_with run tick counts t e are in
    counts_more (with_tick run tick) counts t x same
    (omega (
      arith,
      is,
      same.each t (omega arith),
      supplied_more (with_tick run tick) t (omega (arith, ticks_more run tick)),
      ap (λ (x : Tick). cond {A = ℕ} (is_on x) 1 0) (tick_new run tick t e),
    ))

pub counts_job : (run : Run) (job : Job) (counts : List ℕ) (t : ℕ) → AreCounts run counts t → AreCounts (with_job run job) counts t
unfolding with_job ticks_in
counts_job run job counts t are = record { counted = are.counted; each = are.each }

-- the ticks of a window that would end with an off tick
off_window : (run : Run) (counts : List ℕ) (t s : ℕ) → length run.ticks ≡ t → AreCounts run counts t → s ≤ t →
    get_or counts t 0 ≡ get_or counts s 0 + ticks_in is_on (with_tick run Off) s (t + 1 - s)
off_window run counts t s e are h =
    let longer = ticks_more run Off in
    let now = window_now (λ d. d) refl (λ d. (omega arith, omega arith)) (with_tick run Off) counts t (counts_with run Off counts t e are) s h (omega arith) in
    omega (arith, now, ap (λ (x : Tick). cond {A = ℕ} (is_on x) 1 0) (tick_new run Off t e))

module _ (sbf : ℕ → ℕ) (run : Run) (counts : List ℕ) (t : ℕ) (all : length run.ticks ≡ t) (are : AreCounts run counts t) where
  off_from : MayBeOff sbf counts t → may_be_off sbf run t ≡ true
  unfolding may_be_off
  off_from may =
      all_from (λ s. leb (sbf (t + 1 - s)) (ticks_in is_on (with_tick run Off) s (t + 1 - s))) (t + 1)
      (λ s b. le-leb _ _ (omega (arith, may s (omega arith), off_window run counts t s all are (omega arith))))

  off_tells : may_be_off sbf run t ≡ true → MayBeOff sbf counts t
  unfolding may_be_off
  off_tells h s l =
      let fits = leb-true _ _ (all_parts (λ w. leb (sbf (t + 1 - w)) (ticks_in is_on (with_tick run Off) w (t + 1 - w))) (t + 1) s h (omega arith)) in
      omega (arith, fits, off_window run counts t s all are l)

  -- an exact answer is the simulated run's
  pub off_same : (b : Bool) → (b ≡ true → MayBeOff sbf counts t) → (MayBeOff sbf counts t → b ≡ true) → b ≡ may_be_off sbf run t
  off_same true f g = sym (off_from (f refl))
  off_same false f g = sym (false_from_ne_true (may_be_off sbf run t) (λ h. both_ways false refl (g (off_tells h))))
