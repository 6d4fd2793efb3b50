-- What each test tells.
use Rattle.std.proofs.Common.{◌≡◌, ℕ, ◌+◌, ◌-◌, ◌<◌, ◌≤◌, ◌≢◌, ◌↔◌, ◌==◌, ◌&&◌, Bool, true, false, not, length, refl, sym, ◌∙◌, ap, arith, leb, ltb}
use Rattle.std.proofs.lemmas.Bool.{true≢false, and_parts, and_from, and_left, and_right, both_ways, false_from_ne_true, not-true, not-false}
use Rattle.std.proofs.lemmas.Bool.{not_from_true, not_from_false, leb-true, leb-false, lt-leb, le-leb, ltb-true, ltb-false, lt-ltb, le-ltb, eqb-true}
use Rattle.std.proofs.lemmas.Bool.{eq-eqb}
use Rattle.lists.specs.Firsts.{all_below}
use Rattle.lists.proofs.FirstFacts.{all_parts, all_from, all_broken, some_broken}
use Rattle.curve.specs.Curves.{alpha_of}
use Rattle.task_sheet.specs.SheetParts.{SheetParts}
use Rattle.task_sheet.specs.Sheets.{task_at, IsTimely}
use Rattle.task_sheet.specs.declared.tasks.Job.{Job}
use Rattle.policy.specs.Keys.{key_le}
use Rattle.policy.specs.PolicyMeaning.{PolicyMeaning}
use Rattle.preemption.specs.CutMeaning.{CutMeaning}
use Rattle.run_model.specs.declared.run.Run.{Run}
use Rattle.run_model.specs.declared.run.Tick.{Tick}
use Rattle.run_model.specs.declared.run.Tick.TheVariants.{Off, Idle, Runs}
use Rattle.run_model.specs.Runs.{job_at, tick_at, runs, is_on, service_of, ticks_in, is_done, is_pending, IsDone, IsPending}
use Rattle.run_model.proofs.PendingFacts.{pending_from, pending_to}
use Rattle.run_model.proofs.ServiceFacts.{runs_tells, runs_self}
use Rattle.schedule_laws.specs.Compliance.{arrivals_of, can_cut, JobFits, IsReleased, MayRun}
use Rattle.schedule_laws.specs.Tests.{does_fit, is_before, is_timely, is_overtaken, is_release_broken, holds_back, may_run, may_be_at, is_valid_at}
use Rattle.schedule_laws.specs.Tests.{is_within_curve, is_crowded, is_supplied, is_short, is_idle, is_idle_broken, is_segment_broken, is_more_urgent}
use Rattle.schedule_laws.specs.Tests.{is_priority_broken}

-- jobs

pub fit_from : (m : CutMeaning) (sheet : SheetParts) (run : Run) (k : ℕ) → does_fit m sheet run k ≡ true →
    JobFits m sheet run k
fit_from m sheet run k h =
    let parts = and_parts (ltb (job_at run k).task (length sheet.tasks)) (m.fits (task_at sheet (job_at run k).task) (job_at run k)) h in
    record { task = ltb-true (job_at run k).task (length sheet.tasks) parts.0; fit = parts.1 }

pub fit_to : (m : CutMeaning) (sheet : SheetParts) (run : Run) (k : ℕ) → JobFits m sheet run k →
    does_fit m sheet run k ≡ true
fit_to m sheet run k f = and_from _ _ (lt-ltb (job_at run k).task (length sheet.tasks) f.task) f.fit

before_to : (run : Run) (n k : ℕ) → (job_at run n).task ≡ (job_at run k).task →
    (job_at run n).arrival < (job_at run k).arrival → is_before run n k ≡ true
before_to run n k same earlier = and_from _ _ (eq-eqb (job_at run n).task (job_at run k).task same)
    (lt-ltb (job_at run n).arrival (job_at run k).arrival earlier)

before_from : (run : Run) (n k : ℕ) → is_before run n k ≡ true →
    ((job_at run n).task ≡ (job_at run k).task) × ((job_at run n).arrival < (job_at run k).arrival)
before_from run n k h =
    let parts = and_parts ((job_at run n).task == (job_at run k).task) (ltb (job_at run n).arrival (job_at run k).arrival) h in
    (eqb-true (job_at run n).task (job_at run k).task parts.0, ltb-true (job_at run n).arrival (job_at run k).arrival parts.1)

timely_from : (sheet : SheetParts) (j : Job) → is_timely sheet j ≡ true → IsTimely sheet j
timely_from sheet j h =
    let parts = and_parts (leb j.arrival j.release) (leb j.release (j.arrival + (task_at sheet j.task).jitter)) h in
    record { after = leb-true j.arrival j.release parts.0; soon = leb-true j.release (j.arrival + (task_at sheet j.task).jitter) parts.1 }

timely_to : (sheet : SheetParts) (j : Job) → IsTimely sheet j → is_timely sheet j ≡ true
timely_to sheet j h = and_from _ _ (le-leb j.arrival j.release h.after) (le-leb j.release (j.arrival + (task_at sheet j.task).jitter) h.soon)

-- where no job before k passes the test, what it says holds of none
none_before : (run : Run) (k n : ℕ) (late : Bool) → (is_before run n k && late) ≡ false →
    (job_at run n).task ≡ (job_at run k).task → (job_at run n).arrival < (job_at run k).arrival → late ≡ false
none_before run k n late h same earlier =
    false_from_ne_true late (λ l. both_ways (is_before run n k && late) h (and_from (is_before run n k) late (before_to run n k same earlier) l))

before_none : (run : Run) (k n : ℕ) (late : Bool) →
    ((job_at run n).task ≡ (job_at run k).task → (job_at run n).arrival < (job_at run k).arrival → late ≡ false) →
    (is_before run n k && late) ≡ false
before_none run k n late h = false_from_ne_true (is_before run n k && late) (λ both.
    let parts = and_parts (is_before run n k) late both in
    let before = before_from run n k parts.0 in
    both_ways late (h before.0 before.1) parts.1)

pub released_from : (sheet : SheetParts) (run : Run) (k : ℕ) → is_release_broken sheet run k ≡ false →
    IsReleased sheet run k
unfolding is_release_broken
released_from sheet run k h =
    let parts = and_parts (is_timely sheet (job_at run k)) (all_below (λ n. not (is_overtaken run k n)) (length run.jobs)) (not-false _ h) in
    record {
      timely = timely_from sheet (job_at run k) parts.0;
      order = λ n b same earlier. ltb-false (job_at run k).release (job_at run n).release
          (none_before run k n _ (not-true (is_overtaken run k n) (all_parts (λ i. not (is_overtaken run k i)) (length run.jobs) n parts.1 b)) same earlier);
    }

pub released_to : (sheet : SheetParts) (run : Run) (k : ℕ) → IsReleased sheet run k →
    is_release_broken sheet run k ≡ false
unfolding is_release_broken
released_to sheet run k r =
    not_from_true _ (and_from _ _ (timely_to sheet (job_at run k) r.timely)
    (all_from (λ n. not (is_overtaken run k n)) (length run.jobs)
    (λ n b. not_from_false (is_overtaken run k n)
    (before_none run k n _ (λ same earlier. le-ltb (job_at run k).release (job_at run n).release (r.order n b same earlier))))))

-- what decides whether job k is released as its task allows

pub untimely_breaks : (sheet : SheetParts) (run : Run) (k : ℕ) → is_timely sheet (job_at run k) ≡ false →
    is_release_broken sheet run k ≡ true
unfolding is_release_broken
untimely_breaks sheet run k h = not_from_false _ (and_left _ _ h)

pub overtaken_breaks : (sheet : SheetParts) (run : Run) (k n : ℕ) → n < length run.jobs →
    is_overtaken run k n ≡ true → is_release_broken sheet run k ≡ true
unfolding is_release_broken
overtaken_breaks sheet run k n b h =
    not_from_false _ (and_right _ _ (all_broken (λ i. not (is_overtaken run k i)) (length run.jobs) n b (not_from_true (is_overtaken run k n) h)))

pub never_overtaken : (sheet : SheetParts) (run : Run) (k : ℕ) → is_timely sheet (job_at run k) ≡ true →
    ((n : ℕ) → n < length run.jobs → is_overtaken run k n ≡ false) → is_release_broken sheet run k ≡ false
unfolding is_release_broken
never_overtaken sheet run k timely free =
    not_from_true _ (and_from _ _ timely
    (all_from (λ i. not (is_overtaken run k i)) (length run.jobs) (λ i b. not_from_false (is_overtaken run k i) (free i b))))

-- what runs

done_unless : (run : Run) (n t : ℕ) → not (is_done run n t) ≡ false → IsDone run n t
done_unless run n t h = leb-true (job_at run n).cost (service_of run n t) (not-false (is_done run n t) h)

pub may_run_from : (run : Run) (k t : ℕ) → may_run run k t ≡ true → MayRun run k t
unfolding may_run
may_run_from run k t h =
    let parts = and_parts (is_pending run k t) (all_below (λ n. not (holds_back run k t n)) (length run.jobs)) h in
    record {
      pending = pending_from run k t parts.0;
      in_order = λ n b same earlier. done_unless run n t
          (none_before run k n _ (not-true (holds_back run k t n) (all_parts (λ i. not (holds_back run k t i)) (length run.jobs) n parts.1 b)) same earlier);
    }

pub may_run_to : (run : Run) (k t : ℕ) → MayRun run k t → may_run run k t ≡ true
unfolding may_run
may_run_to run k t r =
    and_from _ _ (pending_to run k t r.pending)
    (all_from (λ n. not (holds_back run k t n)) (length run.jobs)
    (λ n b. not_from_false (holds_back run k t n)
    (before_none run k n _ (λ same earlier. not_from_true (is_done run n t)
    (le-leb (job_at run n).cost (service_of run n t) (r.in_order n b same earlier))))))

-- a test of what is pending is the definition's
pub pending_is : (run : Run) (k t : ℕ) (b : Bool) → ((b ≡ true) ↔ IsPending run k t) → b ≡ is_pending run k t
pending_is run k t true h = sym (pending_to run k t (h.0 refl))
pending_is run k t false h = sym (false_from_ne_true (is_pending run k t) (λ p. true≢false (sym (h.1 (pending_from run k t p)))))

-- what decides whether tick t may run job k

pub idle_job : (run : Run) (k t : ℕ) → (IsPending run k t → ⊥) → may_run run k t ≡ false
unfolding may_run
idle_job run k t none = and_left _ _ (false_from_ne_true (is_pending run k t) (λ p. none (pending_from run k t p)))

pub held_back : (run : Run) (k t n : ℕ) → n < length run.jobs → holds_back run k t n ≡ true → may_run run k t ≡ false
unfolding may_run
held_back run k t n b h = and_right _ _ (all_broken (λ i. not (holds_back run k t i)) (length run.jobs) n b (not_from_true (holds_back run k t n) h))

pub free_to_run : (run : Run) (k t : ℕ) → IsPending run k t →
    ((n : ℕ) → n < length run.jobs → holds_back run k t n ≡ false) → may_run run k t ≡ true
unfolding may_run
free_to_run run k t waits free =
    and_from _ _ (pending_to run k t waits)
    (all_from (λ i. not (holds_back run k t i)) (length run.jobs) (λ i b. not_from_false (holds_back run k t i) (free i b)))

pub valid_from : (run : Run) (t k : ℕ) → is_valid_at run t ≡ true → tick_at run t ≡ Runs k → MayRun run k t
valid_from run t k h e = may_run_from run k t (ap (may_be_at run t) (sym e) ∙ h)

may_be_to : (run : Run) (t : ℕ) (x : Tick) → ((k : ℕ) → x ≡ Runs k → MayRun run k t) → may_be_at run t x ≡ true
may_be_to run t Off h = refl
may_be_to run t Idle h = refl
may_be_to run t (Runs k) h = may_run_to run k t (h k refl)

pub valid_to : (run : Run) (t : ℕ) → ((k : ℕ) → tick_at run t ≡ Runs k → MayRun run k t) → is_valid_at run t ≡ true
valid_to run t h = may_be_to run t (tick_at run t) h

-- a test of what runs at t is the definition's
pub valid_by : (run : Run) (t k : ℕ) (b : Bool) → tick_at run t ≡ Runs k → ((b ≡ true) ↔ MayRun run k t) →
    b ≡ is_valid_at run t
valid_by run t k true e h = sym (ap (may_be_at run t) e ∙ may_run_to run k t (h.0 refl))
valid_by run t k false e h = sym (false_from_ne_true (is_valid_at run t) (λ v. true≢false (sym (h.1 (valid_from run t k v e)))))

-- what a valid tick runs is a job of the list
pub valid_named : (run : Run) (t : ℕ) → is_valid_at run t ≡ true → (k : ℕ) → tick_at run t ≡ Runs k →
    k < length run.jobs
valid_named run t valid k e = (valid_from run t k valid e).pending.listed

-- windows

-- a window that ends with the arrival of job k, and has more arrivals of its task than the curve says
pub record HasCrowd (sheet : SheetParts) (run : Run) (k : ℕ) : Type 0 where
  pub start : ℕ
  pub within : start ≤ (job_at run k).arrival
  pub many : alpha_of (task_at sheet (job_at run k).task).curve ((job_at run k).arrival + 1 - start) < arrivals_of run
      (job_at run k).task start ((job_at run k).arrival + 1)

pub crowded_from : (sheet : SheetParts) (run : Run) (k : ℕ) → is_crowded sheet run k ≡ true → HasCrowd sheet run k
unfolding is_crowded
crowded_from sheet run k h =
    let w = some_broken (is_within_curve sheet run k) ((job_at run k).arrival + 1)
    (not-true (all_below (is_within_curve sheet run k) ((job_at run k).arrival + 1)) h) in
    record { start = w.0; within = omega (arith, w.1); many = leb-false _ _ w.2 }

pub crowded_to : (sheet : SheetParts) (run : Run) (k : ℕ) → HasCrowd sheet run k → is_crowded sheet run k ≡ true
unfolding is_crowded
crowded_to sheet run k c =
    not_from_false _ (all_broken (is_within_curve sheet run k) ((job_at run k).arrival + 1) c.start (omega (arith, c.within)) (lt-leb _ _ c.many))

-- a window that ends before tick u and has fewer supplied ticks than promised
pub record HasShortage (sbf : ℕ → ℕ) (run : Run) (u : ℕ) : Type 0 where
  pub start : ℕ
  pub within : start ≤ u
  pub few : ticks_in is_on run start (u - start) < sbf (u - start)

pub short_from : (sbf : ℕ → ℕ) (run : Run) (u : ℕ) → is_short sbf run u ≡ true → HasShortage sbf run u
unfolding is_short
short_from sbf run u h =
    let w = some_broken (is_supplied sbf run u) (u + 1) (not-true (all_below (is_supplied sbf run u) (u + 1)) h) in
    record { start = w.0; within = omega (arith, w.1); few = leb-false (sbf (u - w.0)) (ticks_in is_on run w.0 (u - w.0)) w.2 }

pub short_to : (sbf : ℕ → ℕ) (run : Run) (u : ℕ) → HasShortage sbf run u → is_short sbf run u ≡ true
unfolding is_short
short_to sbf run u s =
    not_from_false _ (all_broken (is_supplied sbf run u) (u + 1) s.start (omega (arith, s.within))
    (lt-leb (sbf (u - s.start)) (ticks_in is_on run s.start (u - s.start)) s.few))

-- one job at a tick

idle_tells : (x : Tick) → is_idle x ≡ true → x ≡ Idle
idle_tells Off h = absurd (cc)
idle_tells Idle h = refl
idle_tells (Runs k) h = absurd (cc)

pub idle_from : (run : Run) (t k : ℕ) → is_idle_broken run t k ≡ true → (tick_at run t ≡ Idle) × IsPending run k t
unfolding is_idle_broken
idle_from run t k h =
    let parts = and_parts (is_idle (tick_at run t)) (is_pending run k t) h in
    (idle_tells (tick_at run t) parts.0, pending_from run k t parts.1)

pub idle_to : (run : Run) (t k : ℕ) → tick_at run t ≡ Idle → IsPending run k t → is_idle_broken run t k ≡ true
unfolding is_idle_broken
idle_to run t k idle waits = and_from _ _ (ap is_idle idle) (pending_to run k t waits)

on_to : (x : Tick) → x ≢ Off → is_on x ≡ true
on_to Off h = absurd (h refl)
on_to Idle h = refl
on_to (Runs k) h = refl

on_from : (x : Tick) → is_on x ≡ true → x ≢ Off
on_from x h e = both_ways (is_on x) (ap is_on e) h

-- job k is inside a segment at tick t, which is supplied and does not run it
pub record IsLeftInside (m : CutMeaning) (sheet : SheetParts) (run : Run) (t k : ℕ) : Type 0 where
  pub supplied : tick_at run t ≢ Off
  pub inside : can_cut m sheet run k t ≡ false
  pub other : tick_at run t ≢ Runs k

pub segment_from : (m : CutMeaning) (sheet : SheetParts) (run : Run) (t k : ℕ) →
    is_segment_broken m sheet run t k ≡ true → IsLeftInside m sheet run t k
unfolding is_segment_broken
segment_from m sheet run t k h =
    let parts = and_parts (is_on (tick_at run t)) (not (runs k (tick_at run t)) && not (can_cut m sheet run k t)) h in
    let more = and_parts (not (runs k (tick_at run t))) (not (can_cut m sheet run k t)) parts.1 in
    record {
      supplied = on_from (tick_at run t) parts.0;
      inside = not-true (can_cut m sheet run k t) more.1;
      other = λ e. both_ways (runs k (tick_at run t)) (not-true (runs k (tick_at run t)) more.0) (runs_self k (tick_at run t) e);
    }

pub segment_to : (m : CutMeaning) (sheet : SheetParts) (run : Run) (t k : ℕ) → IsLeftInside m sheet run t k →
    is_segment_broken m sheet run t k ≡ true
unfolding is_segment_broken
segment_to m sheet run t k b =
    let not_run : runs k (tick_at run t) ≡ false = false_from_ne_true (runs k (tick_at run t)) (λ r. b.other (runs_tells k (tick_at run t) r)) in
    and_from _ _ (on_to (tick_at run t) b.supplied)
    (and_from _ _ (not_from_false (runs k (tick_at run t)) not_run) (not_from_false (can_cut m sheet run k t) b.inside))

-- job n is pending at tick t and more urgent than the job that runs there, which can be cut
pub record IsMoreUrgent (p : PolicyMeaning) (m : CutMeaning) (sheet : SheetParts) (run : Run) (t n : ℕ) : Type 0 where
  pub job : ℕ
  pub runs : tick_at run t ≡ Runs job
  pub cut : can_cut m sheet run job t ≡ true
  pub waits : IsPending run n t
  pub urgent : key_le (p.key sheet (job_at run job)) (p.key sheet (job_at run n)) ≡ false

urgent_from : (p : PolicyMeaning) (m : CutMeaning) (sheet : SheetParts) (run : Run) (t n : ℕ) (x : Tick) →
    tick_at run t ≡ x → is_more_urgent p m sheet run t n x ≡ true → IsMoreUrgent p m sheet run t n
urgent_from p m sheet run t n Off e h = absurd (cc)
urgent_from p m sheet run t n Idle e h = absurd (cc)
urgent_from p m sheet run t n (Runs k) e h =
    let parts = and_parts (can_cut m sheet run k t) (is_pending run n t && not (key_le (p.key sheet (job_at run k)) (p.key sheet (job_at run n)))) h in
    let more = and_parts (is_pending run n t) (not (key_le (p.key sheet (job_at run k)) (p.key sheet (job_at run n)))) parts.1 in
    record {
      job = k;
      runs = e;
      cut = parts.0;
      waits = pending_from run n t more.0;
      urgent =
          not-true (key_le (p.key sheet (job_at run k)) (p.key sheet (job_at run n))) more.1;
    }

pub priority_from : (p : PolicyMeaning) (m : CutMeaning) (sheet : SheetParts) (run : Run) (t n : ℕ) →
    is_priority_broken p m sheet run t n ≡ true → IsMoreUrgent p m sheet run t n
unfolding is_priority_broken
priority_from p m sheet run t n h = urgent_from p m sheet run t n (tick_at run t) refl h

pub priority_to : (p : PolicyMeaning) (m : CutMeaning) (sheet : SheetParts) (run : Run) (t n : ℕ) →
    IsMoreUrgent p m sheet run t n → is_priority_broken p m sheet run t n ≡ true
unfolding is_priority_broken
priority_to p m sheet run t n b =
    ap (is_more_urgent p m sheet run t n) b.runs ∙
    and_from _ _ b.cut (and_from _ _ (pending_to run n t b.waits)
    (not_from_false (key_le (p.key sheet (job_at run b.job)) (p.key sheet (job_at run n))) b.urgent))
