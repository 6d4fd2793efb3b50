-- What may arrive, and whether a tick may be off, from what the simulation keeps.
use Rattle.std.proofs.Common.{◌≡◌, ◌≢◌, ℕ, suc, ◌+◌, ◌-◌, ◌<◌, ◌≤◌, cond, List, [], ◌∷◌, ◌++◌, length, get_or, take, add-one, refl, sym, ◌∙◌, ap}
use Rattle.std.proofs.Common.{subst, inl, inr, arith}
use Rattle.std.specs.Global.{Vec}
use Rattle.std.proofs.Math.ListN.{set}
use Rattle.std.proofs.lemmas.Bool.{cases_eq}
use Rattle.std.proofs.lemmas.List.{length-take-le, get_or_read, get_or_default, get_or-set_same, get_or-set_other, length-set}
use Rattle.std.proofs.lemmas.List.Sums.{count_by-le-length}
use Rattle.std.proofs.lemmas.List.Sorted.{IsNonDecreasingBy-push}
use Rattle.task_sheet.specs.Sheets.{task_at}
use Rattle.task_sheet.specs.declared.tasks.Job.{Job}
use Rattle.run_model.specs.declared.run.Run.{Run}
use Rattle.run_model.specs.declared.run.Tick.{Tick}
use Rattle.run_model.specs.Runs.{job_at, is_on, ticks_in}
use Rattle.run_model.proofs.ServiceFacts.{ticks_in_split}
use Rattle.simulated_run.specs.SimulatedRun.{World, with_job, with_tick}
use Rattle.simulated_run.proofs.Soundness.{IsSound}
use Rattle.simulated_run.proofs.Stages.{IsBetween}
use Rattle.simulated_run.proofs.StageFacts.{own_past}
use Rattle.windows.specs.Arrivals.{IsPast}
use Rattle.windows.specs.Crowds.{AreArrivals}
use Rattle.windows.specs.Supplied.{AreCounts, ArePromised}
use Rattle.windows.proofs.CrowdFacts.{arrival_job}
use Rattle.simulator.proofs.SameAnswers.{lists_none, lists_tick, lists_own, lists_other, counts_tick}
use Rattle.simulator.specs.SimulationState.{HasArrivals}

-- one more job

own_more : (run : Run) (j : Job) (o : ℕ) (xs : List ℕ) → j.task ≡ o →
    ((k : ℕ) → k < length run.jobs → (job_at run k).arrival ≤ j.arrival) → AreArrivals run o xs →
    AreArrivals (with_job run j) o (xs ++ j.arrival ∷ [])
own_more run j o xs e early are = record {
  ascending = IsNonDecreasingBy-push (λ x. x) xs j.arrival are.ascending (λ d some. (
      let last = arrival_job run o xs are (length xs - 1) (omega arith) in
      omega (arith, get_or_default xs (length xs - 1) d 0 (omega arith), last.2.arrival, early last.0 last.1)
      ));
  same = lists_own run o xs j e are.same;
}

other_more : (run : Run) (j : Job) (o : ℕ) (xs : List ℕ) → j.task ≢ o → AreArrivals run o xs → AreArrivals (with_job run j) o xs
other_more run j o xs ne are = record { ascending = are.ascending; same = lists_other run o xs j ne are.same }

pub has_arrivals_more : (n : ℕ) (run : Run) (lists : List (Vec ℕ)) (j : Job) (longer : Vec ℕ) →
    HasArrivals n run lists → j.task < n → ((k : ℕ) → k < length run.jobs → (job_at run k).arrival ≤ j.arrival) →
    longer.items ≡ (get_or lists j.task longer).items ++ j.arrival ∷ [] →
    HasArrivals n (with_job run j) (set lists j.task longer)
has_arrivals_more n run lists j longer has b early e = record {
  tasks = length-set lists j.task longer ∙ has.tasks;
  each = λ o d h. elim (cases_eq o j.task) [
    | inl same ↦
        let in_lists : j.task < length lists = omega (arith, has.tasks) in
        let own : AreArrivals (with_job run j) j.task ((get_or lists j.task longer).items ++ j.arrival ∷ []) =
        own_more run j j.task (get_or lists j.task longer).items refl early (has.each j.task longer b) in
        let at : (get_or lists j.task longer).items ++ j.arrival ∷ [] ≡ (get_or (set lists j.task longer) j.task d).items =
        sym e ∙ sym (ap (λ (v : Vec ℕ). v.items) (get_or-set_same lists j.task longer d in_lists)) in
        subst (λ i. AreArrivals (with_job run j) i (get_or (set lists j.task longer) i d).items) (sym same) (subst (AreArrivals (with_job run j) j.task) at own)
    | inr ne ↦
        let at : (get_or lists o d).items ≡ (get_or (set lists j.task longer) o d).items =
        sym (ap (λ (v : Vec ℕ). v.items) (get_or-set_other lists j.task o longer d ne)) in
        subst (AreArrivals (with_job run j) o) at (other_more run j o (get_or lists o d).items (λ s. ne (sym s)) (has.each o d h))
  ];
}

pub has_arrivals_tick : (n : ℕ) (run : Run) (lists : List (Vec ℕ)) (x : Tick) → HasArrivals n run lists → HasArrivals n (with_tick run x) lists
has_arrivals_tick n run lists x has =
    record {
      tasks = has.tasks;
      each =
          λ o d h. record { ascending = (has.each o d h).ascending; same = lists_tick run o (get_or lists o d).items x (has.each o d h).same };
    }

pub has_no_arrivals : (n : ℕ) (lists : List (Vec ℕ)) → length lists ≡ n →
    ((o : ℕ) (d : Vec ℕ) → o < n → (get_or lists o d).items ≡ []) →
    HasArrivals n (record { jobs = []; ticks = [] }) lists
has_no_arrivals n lists l none =
    let empty : (o : ℕ) → AreArrivals (record { jobs = []; ticks = [] }) o [] =
    λ o. record { ascending = λ i j d h b. absurd (omega arith); same = lists_none o [] } in
    record { tasks = l; each = λ o d h. subst (AreArrivals (record { jobs = []; ticks = [] }) o) (sym (none o d h)) (empty o) }

-- before the arrivals of task o at t
pub past_is : (w : World) (o t : ℕ) (run : Run) (xs : List ℕ) → o < length w.sheet.tasks → IsBetween w o t run →
    AreArrivals run o xs → IsPast (task_at w.sheet o).curve xs t
past_is w o t run xs b between are = record {
  ascending = are.ascending;
  before = λ i h. (let k = arrival_job run o xs are i h in omega (arith, own_past w o t run between k.0 k.1 k.2.task, k.2.arrival));
  within = λ s u h. omega (arith, are.same s u, between.sound.complies.curves o s u b h);
}

-- supplied ticks

pub are_counts_more : (t : ℕ) (run : Run) (counts : List ℕ) (x : Tick) (n : ℕ) → length run.ticks ≡ t →
    AreCounts run counts t → n ≡ get_or counts t 0 + cond {A = ℕ} (is_on x) 1 0 →
    AreCounts (with_tick run x) (counts ++ n ∷ []) (suc t)
are_counts_more t run counts x n now are e = rw add-one at (counts_tick run x counts t n now are e)

-- no count is above its number
pub count_low : (t : ℕ) (run : Run) (counts : List ℕ) → length run.ticks ≡ t → AreCounts run counts t → get_or counts t 0 ≤ t
unfolding ticks_in
count_low t run counts now are =
    let all : length (take t run.ticks) ≡ t = length-take-le t run.ticks (omega arith) in
    omega (arith, are.each t (omega arith), count_by-le-length is_on (take t run.ticks))

pub last_count : (counts now : Vec ℕ) (t x : ℕ) → now ≡ counts → t < length counts.items → x ≡ get_or now.items t x → x ≡ get_or counts.items t 0
last_count counts now t x e b h = get_or_read counts.items t x b (h ∙ ap (λ (v : Vec ℕ). get_or v.items t x) e) 0

-- the run so far has the promised ticks
pub promised_is : (w : World) (t : ℕ) (run : Run) (counts : List ℕ) → IsSound w t run → AreCounts run counts t → ArePromised w.sbf counts t
promised_is w t run counts sound are = record {
  counted = are.counted;
  kept = λ s u h l. (
      let e : s + (u - s) ≡ u = omega arith in
      omega (
        arith,
        sound.complies.supplied s u h (omega (arith, sound.now)),
        ticks_in_split is_on run s (u - s) (omega (arith, sound.now)),
        ap (ticks_in is_on run 0) e,
        are.each s (omega arith),
        are.each u l,
      )
      );
}
