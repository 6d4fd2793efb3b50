-- The first job of a task that is not done, from its place in the order of arrivals.
use Rattle.std.proofs.Common.{◌≡◌, ℕ, ◌+◌, ◌<◌, ◌≤◌, List, length, get_or, replicate, Option, Some, None, sym, ◌∙◌, ap, subst, inl, inr, arith}
use Rattle.std.proofs.lemmas.Bool.{cases_lt, cases_eq}
use Rattle.std.proofs.lemmas.List.{get_or-set_same, get_or-set_other, length-set, length-replicate, get_or-replicate}
use Rattle.std.proofs.Math.ListN.{set}
use Rattle.run_model.specs.declared.run.Run.{Run}
use Rattle.run_model.specs.Runs.{job_at}
use Rattle.run_model.proofs.ServiceFacts.{service_le}
use Rattle.audit.specs.declared.arrivals.Arrival.{Arrival}
use Rattle.audit.specs.ServiceCounts.{IsServed}
use Rattle.audit.specs.TickRules.{IsListed}
use Rattle.audit.specs.ArrivalOrder.{arrival_at, IsOrder}
use Rattle.audit.specs.UndoneJobs.{IsLeft, IsFront, AreDoneBefore, ArePlaces, AreBelow, IsNextPlace, AreNextPlaces, IsReadyAt, AreUndoneAt}

-- a place whose job is not left
pub past_more : (run : Run) (served : List ℕ) (order : List Arrival) (o i : ℕ) → i < length order →
    (IsLeft run served o (arrival_at order i).job → ⊥) → AreDoneBefore run served order o i →
    AreDoneBefore run served order o (i + 1)
past_more run served order o i b done past = record {
  within = omega arith;
  done = λ n c. elim (cases_lt n i) [
    | inl d ↦ past.done n d
    | inr d ↦ let e : i ≡ n = omega arith in subst (λ k. IsLeft run served o (arrival_at order k).job → ⊥) e done
  ];
}

-- over the places of other tasks
pub past_jump : (run : Run) (served : List ℕ) (order : List Arrival) (o i next : ℕ) → IsNextPlace run order i next →
    (job_at run (arrival_at order i).job).task ≡ o → (IsLeft run served o (arrival_at order i).job → ⊥) →
    AreDoneBefore run served order o i → AreDoneBefore run served order o next
past_jump run served order o i next at is done past = record {
  within = at.within;
  done = λ n c left. elim (cases_lt n i) [
    | inl d ↦ past.done n d left
    | inr d ↦ elim (cases_lt i n) [
      | inl l ↦ at.between n l c (left.task ∙ sym is)
      | inr l ↦ let e : n ≡ i = omega arith in done (subst (λ k. IsLeft run served o (arrival_at order k).job) e left)
    ]
  ];
}

-- the first place that is left is the front
pub front_some : (run : Run) (served : List ℕ) (order : List Arrival) (o i : ℕ) → IsOrder run order →
    i < length order → AreDoneBefore run served order o i → IsLeft run served o (arrival_at order i).job →
    IsFront run served o (Some (arrival_at order i).job)
front_some run served order o i ordered b past left = (
  left,
  (λ n other.
      let at = ordered.complete n other.listed in
      elim (cases_lt at.place i) [
        | inl c ↦ absurd (past.done at.place c (subst (IsLeft run served o) (sym at.is) other))
        | inr c ↦
            let mine = ordered.listed i b in
            let its = ordered.listed at.place at.within in
            let arrival = ap (λ k. (job_at run k).arrival) at.is in
            let release = ap (λ k. (job_at run k).release) at.is in
            elim (ordered.ascending i at.place c at.within) [
              | inl less ↦ inl (omega (arith, mine.tick, its.tick, less, arrival))
              | inr equal ↦ inr (omega (arith, mine.tick, its.tick, equal.0, arrival), omega (arith, mine.release, its.release, equal.1, release))
            ]
      ]),
)

pub front_none : (run : Run) (served : List ℕ) (order : List Arrival) (o i : ℕ) → IsOrder run order →
    length order ≤ i → AreDoneBefore run served order o i → IsFront run served o None
front_none run served order o i ordered b past = λ n other.
    let at = ordered.complete n other.listed in
    past.done at.place (omega (arith, at.within)) (subst (IsLeft run served o) (sym at.is) other)

-- one place moved on
pub places_set : (run : Run) (served : List ℕ) (order : List Arrival) (places : List ℕ) (o i : ℕ) →
    o < length places → AreDoneBefore run served order o i → ArePlaces run served order places →
    ArePlaces run served order (set places o i)
places_set run served order places o i b past all n c = elim (cases_eq n o) [
  | inl e ↦
      let at : get_or (set places o i) o 0 ≡ i = get_or-set_same places o i 0 b in
      subst (λ w. AreDoneBefore run served order w (get_or (set places o i) w 0)) (sym e) (subst (AreDoneBefore run served order o) (sym at) past)
  | inr ne ↦
      let at : get_or (set places o i) n 0 ≡ get_or places n 0 = get_or-set_other places o n i 0 ne in
      subst (AreDoneBefore run served order n) (sym at) (all n (omega (arith, length-set places o i)))
]

-- what is left later was left before
left_before : (run : Run) (t : ℕ) (served after : List ℕ) (o k : ℕ) → t < length run.ticks → IsServed run t served →
    IsServed run (t + 1) after → IsLeft run after o k → IsLeft run served o k
left_before run t served after o k b s a left = record {
  listed = left.listed;
  task = left.task;
  not_done = omega (arith, left.not_done, s.each k left.listed, a.each k left.listed, service_le run k t (t + 1) (omega arith) (omega arith));
}

-- a tick later
pub undone_more : (run : Run) (t : ℕ) (served after : List ℕ) (order : List Arrival) (nexts places : List ℕ) →
    t < length run.ticks → AreUndoneAt run t served order nexts places → IsServed run (t + 1) after →
    AreUndoneAt run (t + 1) after order nexts places
undone_more run t served after order nexts places b p a =
    let ready = p.ready in
    record {
      counted = a;
      ready = record {
        count = a.count;
        ordered = ready.ordered;
        linked = ready.linked;
        tasks = ready.tasks;
        past = λ o c. record {
          within = (ready.past o c).within;
          done =
              λ i d left. (ready.past o c).done i d (left_before run t served after o (arrival_at order i).job b p.counted a left);
        };
      };
    }

-- before the first tick
pub undone_none : (run : Run) (tasks : ℕ) (served : List ℕ) (order : List Arrival) (nexts places : List ℕ) →
    AreBelow run tasks → IsServed run 0 served → IsOrder run order → AreNextPlaces run order nexts → places ≡ replicate tasks 0 →
    AreUndoneAt run 0 served order nexts places
undone_none run tasks served order nexts places below s ordered linked is =
    let all : length places ≡ tasks = ap length is ∙ length-replicate {A = ℕ} tasks 0 in
    record {
      counted = s;
      ready = record {
        count = s.count;
        ordered = ordered;
        linked = linked;
        tasks = subst (AreBelow run) (sym all) below;
        past = λ o b.
            let at : get_or places o 0 ≡ 0 = ap (λ (v : List ℕ). get_or v o 0) is ∙ get_or-replicate {A = ℕ} tasks o 0 0 (omega arith) in
            subst (AreDoneBefore run served order o) (sym at) (record { within = omega arith; done = λ i c left. absurd (omega arith) });
      };
    }

-- with other places
pub ready_with : (run : Run) (served : List ℕ) (order : List Arrival) (nexts places others : List ℕ) →
    length others ≡ length places → IsReadyAt run served order nexts places → ArePlaces run served order others →
    IsReadyAt run served order nexts others
ready_with run served order nexts places others same ready past =
    record { count = ready.count; ordered = ready.ordered; linked = ready.linked; tasks = subst (AreBelow run) (sym same) ready.tasks; past = past }

pub front_listed : (run : Run) (served : List ℕ) (o : ℕ) (front : Option ℕ) → IsFront run served o front →
    IsListed run front
front_listed run served o None h = tt
front_listed run served o (Some f) h = let left = h.0 in left.listed
