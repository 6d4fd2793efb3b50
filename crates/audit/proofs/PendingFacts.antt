-- Which jobs are pending, by those that have come and are not done.
use Rattle.std.proofs.Common.{◌≡◌, ◌≢◌, ℕ, zero, suc, ◌+◌, ◌<◌, ◌≤◌, ◌==◌, ◌&&◌, ◌||◌, not, Bool, true, false, cond, List, length, get_or}
use Rattle.std.proofs.Common.{Some, None, refl, sym, ◌∙◌, ap, subst, inl, inr, arith, add-one, leb, ltb}
use Rattle.std.specs.BTreeMap.{BTreeMap}
use Rattle.std.proofs.lemmas.Bool.{cases_Bool, cases_lt, both_ways, or_left, or_right, or_cases, false_from_ne_true, leb-true, leb-false, le-leb}
use Rattle.std.proofs.lemmas.Bool.{lt-ltb, eqb-true, eq-eqb}
use Rattle.std.proofs.lemmas.Bool.Decides.{nat_tests}
use Rattle.task_sheet.specs.SheetParts.{SheetParts}
use Rattle.policy.specs.PolicyMeaning.{PolicyMeaning}
use Rattle.run_model.specs.declared.run.Run.{Run}
use Rattle.run_model.specs.declared.run.Tick.TheVariants.{Runs}
use Rattle.run_model.specs.Runs.{job_at, tick_at, service_of, is_done, is_pending}
use Rattle.run_model.proofs.PendingFacts.{pending_from, pending_to}
use Rattle.run_model.proofs.ServiceFacts.{step_cases, same_job, service_le}
use Rattle.urgency.specs.declared.rank.Rank.{Rank}
use Rattle.urgency.specs.Queues.{IsQueue, with_member, without}
use Rattle.urgency.proofs.QueueFacts.{queue_same}
use Rattle.audit.specs.declared.arrivals.Arrival.{Arrival}
use Rattle.audit.specs.ArrivalOrder.{arrival_at, IsReleaseOrder}
use Rattle.audit.specs.ServiceCounts.{IsServed}
use Rattle.audit.specs.Pending.{is_among, is_waiting, HasCome, IsReady, AreDoneTo, AreWaiting, IsSomePending}

-- where a job stands before a place
record Stands (coming : List Arrival) (i k : ℕ) : Type 0 where
  place : ℕ
  before : place < i
  is : (arrival_at coming place).job ≡ k

among_from : (coming : List Arrival) (i k : ℕ) → is_among coming i k ≡ true → Stands coming i k
among_from coming zero k h = absurd (cc)
among_from coming (suc i) k h = elim (or_cases (k == (arrival_at coming i).job) (is_among coming i k) h) [
  | inl e ↦ record { place = i; before = omega arith; is = sym (eqb-true k (arrival_at coming i).job e) }
  | inr l ↦ let s = among_from coming i k l in record { place = s.place; before = omega (arith, s.before); is = s.is }
]

among_to : (coming : List Arrival) (i k p : ℕ) → p < i → (arrival_at coming p).job ≡ k → is_among coming i k ≡ true
among_to coming zero k p b is = absurd (omega arith)
among_to coming (suc i) k p b is = elim (cases_lt p i) [
  | inl c ↦ or_right (k == (arrival_at coming i).job) (is_among coming i k) (among_to coming i k p c is)
  | inr c ↦
      let e : p ≡ i = omega arith in
      or_left (k == (arrival_at coming i).job) (is_among coming i k) (eq-eqb k (arrival_at coming i).job (sym is ∙ ap (λ q. (arrival_at coming q).job) e))
]

-- a job that comes: e says that it is this one, a that it came before, d that it is done, w that it waits
enter_bool : (e a d w : Bool) → (e ≡ true → w ≡ not d) → ((e || a) && not d) ≡ cond w (e || (a && not d)) (a && not d)
enter_bool false a d true h = refl
enter_bool false a d false h = refl
enter_bool true a d true h = sym (h refl)
enter_bool true true d false h = refl
enter_bool true false d false h = sym (h refl)

-- a job that runs: e says that it is this one, d that it was done before, f that it is done now, and so w
leave_bool : (e a d f w : Bool) → (e ≡ true → w ≡ f) → (e ≡ true → f ≡ false → d ≡ false) → (e ≡ false → f ≡ d) →
    (a && not f) ≡ cond w (not e && (a && not d)) (a && not d)
leave_bool false a d f true h k l = ap (λ b. a && not b) (l refl)
leave_bool false a d f false h k l = ap (λ b. a && not b) (l refl)
leave_bool true true d f true h k l = ap not (sym (h refl))
leave_bool true false d f true h k l = refl
leave_bool true a d f false h k l = ap (λ b. a && not b) (sym (h refl) ∙ sym (k refl (sym (h refl))))

cond_at : (w : Bool) (f g : ℕ → Bool) (k : ℕ) → cond w (f k) (g k) ≡ (cond w f g) k
cond_at true f g k = refl
cond_at false f g k = refl

less_is : (a b : ℕ) → ltb a b ≡ not (leb b a)
less_is a b = grind (arith, nat_tests)

not_less : (a b : ℕ) → not (ltb a b) ≡ leb b a
not_less a b = grind (arith, nat_tests)

module _ (run : Run) (coming : List Arrival) (i t : ℕ) where
  entered : (w : Bool) (k : ℕ) → w ≡ not (is_done run (arrival_at coming i).job t) →
      is_waiting run coming (suc i) t k ≡ (cond w (with_member (is_waiting run coming i t) (arrival_at coming i).job) (is_waiting run coming i t)) k
  unfolding is_waiting
  entered w k is =
      enter_bool (k == (arrival_at coming i).job) (is_among coming i k) (is_done run k t) w
      (λ e. is ∙ ap (λ n. not (is_done run n t)) (sym (eqb-true k (arrival_at coming i).job e)))
      ∙ cond_at w (with_member (is_waiting run coming i t) (arrival_at coming i).job) (is_waiting run coming i t) k

  stays_done : (k : ℕ) → service_of run k (suc t) ≡ service_of run k t → is_done run k (suc t) ≡ is_done run k t
  stays_done k same = ap (leb (job_at run k).cost) same

  left : (w : Bool) (j k : ℕ) → t < length run.ticks → tick_at run t ≡ Runs j → w ≡ is_done run j (suc t) →
      is_waiting run coming i (suc t) k ≡ (cond w (without (is_waiting run coming i t) j) (is_waiting run coming i t)) k
  unfolding is_waiting
  left w j k b runs is =
      leave_bool (k == j) (is_among coming i k) (is_done run k t) (is_done run k (suc t)) w
      (λ e. is ∙ ap (λ n. is_done run n (suc t)) (sym (eqb-true k j e)))
      (λ e undone. false_from_ne_true (is_done run k t) (λ d.
      omega (
        arith,
        leb-true (job_at run k).cost (service_of run k t) d,
        leb-false (job_at run k).cost (service_of run k (suc t)) undone,
        service_le run k t (suc t) (omega arith) (omega arith),
      )))
      (λ other. elim (step_cases run k t b) [
        | inl stays ↦ stays_done k stays.same
        | inr gains ↦ absurd (both_ways (k == j) other (eq-eqb k j (same_job k j (tick_at run t) gains.is runs)))
      ])
      ∙ cond_at w (without (is_waiting run coming i t) j) (is_waiting run coming i t) k

  quiet : (k : ℕ) → t < length run.ticks → ((n : ℕ) → tick_at run t ≢ Runs n) →
      is_waiting run coming i (suc t) k ≡ is_waiting run coming i t k
  unfolding is_waiting
  quiet k b none = elim (step_cases run k t b) [
    | inl stays ↦ ap (λ d. is_among coming i k && not d) (stays_done k stays.same)
    | inr gains ↦ absurd (none k gains.is)
  ]

module _ (p : PolicyMeaning) (sheet : SheetParts) (run : Run) (t : ℕ) (served : List ℕ) (coming : List Arrival) where
  -- what has come by t are the jobs that are released
  come_released : (next : ℕ) (queue : BTreeMap Rank ℕ) → IsReady p sheet run t served coming next queue →
      (k : ℕ) → k < length run.jobs → leb (job_at run k).release t ≡ is_among coming next k
  come_released next queue ready k b =
      let come = ready.come in
      elim (cases_Bool (is_among coming next k)) [
        | inl h ↦
            let s = among_from coming next k h in
            let listed = come.ordered.listed s.place (omega (arith, s.before, come.within)) in
            le-leb (job_at run k).release t (omega (arith, come.past s.place s.before, listed.release, ap (λ n. (job_at run n).release) s.is)) ∙ sym h
        | inr h ↦
            false_from_ne_true (leb (job_at run k).release t) (λ r.
            let at = come.ordered.complete k b in
            let listed = come.ordered.listed at.place at.within in
            elim (cases_lt at.place next) [
              | inl c ↦ both_ways (is_among coming next k) h (among_to coming next k at.place c at.is)
              | inr c ↦ omega (
                arith,
                ready.ahead at.place c at.within,
                listed.release,
                ap (λ n. (job_at run n).release) at.is,
                leb-true (job_at run k).release t r,
              )
            ])
            ∙ sym h
      ]

  pending_waits : (next : ℕ) (queue : BTreeMap Rank ℕ) → IsReady p sheet run t served coming next queue →
      (k : ℕ) → k < length run.jobs → is_pending run k t ≡ is_waiting run coming next t k
  unfolding is_waiting
  pending_waits next queue ready k b =
      ap (λ x. x && (leb (job_at run k).release t && not (is_done run k t))) (lt-ltb k (length run.jobs) b)
      ∙ ap (λ x. x && not (is_done run k t)) (come_released next queue ready k b)

  -- once the jobs that are released by t have come, the queue has the pending ones
  pub ready_pending : (next : ℕ) (queue : BTreeMap Rank ℕ) → IsReady p sheet run t served coming next queue →
      IsQueue p sheet run.jobs (λ k. is_pending run k t) queue
  ready_pending next queue ready =
      queue_same p sheet run.jobs (is_waiting run coming next t) (λ k. is_pending run k t) queue (pending_waits next queue ready) ready.come.waiting

  -- one job more has come
  pub come_more : (i : ℕ) (w : Bool) (queue after : BTreeMap Rank ℕ) → i < length coming →
      (arrival_at coming i).release ≤ t → w ≡ ltb (get_or served (arrival_at coming i).job 0) (job_at run (arrival_at coming i).job).cost →
      HasCome p sheet run t served coming i queue →
      IsQueue p sheet run.jobs (cond w (with_member (is_waiting run coming i t) (arrival_at coming i).job) (is_waiting run coming i t)) after →
      HasCome p sheet run t served coming (i + 1) after
  come_more i w queue after b released is come q =
      let n = (arrival_at coming i).job in
      let listed = (come.ordered.listed i b).listed in
      let waits : w ≡ not (is_done run n t) =
      is ∙ (less_is (get_or served n 0) (job_at run n).cost ∙ ap (λ (s : ℕ). not (leb (job_at run n).cost s)) (come.counted.each n listed)) in
      record {
        counted = come.counted;
        ordered = come.ordered;
        within = omega arith;
        past = λ j c. elim (cases_lt j i) [
          | inl d ↦ come.past j d
          | inr d ↦ let e : i ≡ j = omega arith in subst (λ m. (arrival_at coming m).release ≤ t) e released
        ];
        waiting = rw add-one (queue_same p sheet run.jobs _ (is_waiting run coming (suc i) t) after (λ k c. entered run coming i t w k waits) q);
      }

  -- the next has not
  pub come_all : (i : ℕ) (queue : BTreeMap Rank ℕ) → HasCome p sheet run t served coming i queue →
      (i < length coming → t < (arrival_at coming i).release) → IsReady p sheet run t served coming i queue
  come_all i queue come late = record {
    come = come;
    ahead = λ j c b. omega (arith, late (omega arith), come.ordered.ascending i j c b);
  }

  -- a tick later
  pub come_after : (after : List ℕ) (next : ℕ) (queue other : BTreeMap Rank ℕ) → HasCome p sheet run t served coming next queue →
      IsServed run (t + 1) after → IsQueue p sheet run.jobs (is_waiting run coming next (suc t)) other →
      HasCome p sheet run (t + 1) after coming next other
  come_after after next queue other come counted q = record {
    counted = counted;
    ordered = come.ordered;
    within = come.within;
    past = λ i c. omega (arith, come.past i c);
    waiting = rw add-one q;
  }

  pub come_quiet : (after : List ℕ) (next : ℕ) (queue : BTreeMap Rank ℕ) → t < length run.ticks →
      ((n : ℕ) → tick_at run t ≢ Runs n) → HasCome p sheet run t served coming next queue →
      IsServed run (t + 1) after → HasCome p sheet run (t + 1) after coming next queue
  come_quiet after next queue b none come counted =
      come_after after next queue queue come counted
      (queue_same p sheet run.jobs (is_waiting run coming next t) (is_waiting run coming next (suc t)) queue
      (λ k c. quiet run coming next t k b none) come.waiting)

  pub come_ran : (after : List ℕ) (next j : ℕ) (w : Bool) (queue other : BTreeMap Rank ℕ) → t < length run.ticks →
      tick_at run t ≡ Runs j → j < length run.jobs → w ≡ not (ltb (get_or after j 0) (job_at run j).cost) →
      HasCome p sheet run t served coming next queue →
      IsServed run (t + 1) after →
      IsQueue p sheet run.jobs (cond w (without (is_waiting run coming next t) j) (is_waiting run coming next t)) other →
      HasCome p sheet run (t + 1) after coming next other
  come_ran after next j w queue other b runs listed is come counted q =
      let next_tick : t + 1 ≡ suc t = add-one t in
      let done : w ≡ is_done run j (suc t) =
      is ∙ (not_less (get_or after j 0) (job_at run j).cost ∙ ap (leb (job_at run j).cost) (counted.each j listed ∙ ap (service_of run j) next_tick)) in
      come_after after next queue other come counted
      (queue_same p sheet run.jobs _ (is_waiting run coming next (suc t)) other (λ k c. left run coming next t w j k b runs done) q)

-- before the first tick
pub come_none : (p : PolicyMeaning) (sheet : SheetParts) (run : Run) (served : List ℕ) (coming : List Arrival) (queue : BTreeMap Rank ℕ) →
    IsServed run 0 served → IsReleaseOrder run coming →
    IsQueue p sheet run.jobs (is_waiting run coming 0 0) queue → HasCome p sheet run 0 served coming 0 queue
come_none p sheet run served coming queue counted ordered q = record {
  counted = counted;
  ordered = ordered;
  within = omega arith;
  past = λ i c. absurd (omega arith);
  waiting = q;
}

pub none_waiting : (run : Run) (coming : List Arrival) (t k : ℕ) → is_waiting run coming 0 t k ≡ false
unfolding is_waiting
none_waiting run coming t k = refl

-- one place more whose job is done
pub done_more : (run : Run) (served : List ℕ) (coming : List Arrival) (i : ℕ) → i < length coming →
    (job_at run (arrival_at coming i).job).cost ≤ get_or served (arrival_at coming i).job 0 →
    AreDoneTo run served coming i → AreDoneTo run served coming (i + 1)
done_more run served coming i b here past = record {
  within = omega arith;
  done = λ n c. elim (cases_lt n i) [
    | inl d ↦ past.done n d
    | inr d ↦
        let e : i ≡ n = omega arith in
        subst (λ k. (job_at run (arrival_at coming k).job).cost ≤ get_or served (arrival_at coming k).job 0) e here
  ];
}

-- a tick later
done_later : (run : Run) (t : ℕ) (served after : List ℕ) (coming : List Arrival) (place : ℕ) → t < length run.ticks →
    IsServed run t served → IsServed run (t + 1) after → IsReleaseOrder run coming → AreDoneTo run served coming place →
    AreDoneTo run after coming place
done_later run t served after coming place b s a ordered past = record {
  within = past.within;
  done = λ i c.
      let within = past.within in
      let listed = (ordered.listed i (omega arith)).listed in
      let k = (arrival_at coming i).job in
      omega (arith, past.done i c, s.each k listed, a.each k listed, service_le run k t (t + 1) (omega arith) (omega arith));
}

pub waiting_more : (run : Run) (t : ℕ) (served after : List ℕ) (coming : List Arrival) (place : ℕ) → t < length run.ticks →
    AreWaiting run t served coming place → IsServed run (t + 1) after → AreWaiting run (t + 1) after coming place
waiting_more run t served after coming place b w a = record {
  counted = a;
  ordered = w.ordered;
  done = done_later run t served after coming place b w.counted a w.ordered w.done;
}

-- before the first tick
pub waiting_none : (run : Run) (served : List ℕ) (coming : List Arrival) → IsServed run 0 served → IsReleaseOrder run coming →
    AreWaiting run 0 served coming 0
waiting_none run served coming s ordered =
    record { counted = s; ordered = ordered; done = record { within = omega arith; done = λ i b. absurd (omega arith) } }

module _ (run : Run) (t : ℕ) (served : List ℕ) (coming : List Arrival) (place : ℕ) (s : IsServed run t served) (ordered : IsReleaseOrder run coming) where
  -- the job at a place is pending
  pub pending_here : place < length coming → (arrival_at coming place).release ≤ t →
      get_or served (arrival_at coming place).job 0 < (job_at run (arrival_at coming place).job).cost →
      IsSomePending run t (Some (arrival_at coming place).job)
  pending_here b released left =
      let at = ordered.listed place b in
      let k = (arrival_at coming place).job in (
        at.listed,
        pending_to run k t (record { listed = at.listed; released = omega (arith, at.release); not_done = omega (arith, left, s.each k at.listed) }),
      )

  -- where the jobs before it are done and it is released later, none is
  pub none_pending : AreDoneTo run served coming place → (place < length coming → t < (arrival_at coming place).release) →
      IsSomePending run t None
  none_pending past late k b = false_from_ne_true (is_pending run k t) (λ h.
      let pending = pending_from run k t h in
      let at = ordered.complete k b in
      let within = at.within in
      let release = (ordered.listed at.place within).release in
      elim (cases_lt at.place place) [
        | inl c ↦ omega (
          arith,
          past.done at.place c,
          pending.not_done,
          s.each k b,
          ap (λ n. (job_at run n).cost) at.is,
          ap (λ n. get_or served n 0) at.is,
        )
        | inr c ↦ omega (
          arith,
          late (omega arith),
          ordered.ascending place at.place c within,
          release,
          ap (λ n. (job_at run n).release) at.is,
          pending.released,
        )
      ])
