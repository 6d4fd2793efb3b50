-- The tests decide compliance.
use Rattle.std.proofs.Common.{◌≡◌, ℕ, ◌-◌, ◌<◌, ◌≤◌, false, length, inl, inr, arith}
use Rattle.std.proofs.lemmas.Bool.{cases_lt, cases_Bool, both_ways, false_from_ne_true}
use Rattle.task_sheet.specs.SheetParts.{SheetParts}
use Rattle.task_sheet.specs.Sheets.{IsValidSheet}
use Rattle.policy.specs.Keys.{key_le}
use Rattle.policy.specs.PolicyMeaning.{PolicyMeaning}
use Rattle.preemption.specs.CutMeaning.{CutMeaning}
use Rattle.run_model.specs.declared.run.Run.{Run}
use Rattle.run_model.specs.Runs.{job_at, is_on, ticks_in}
use Rattle.run_model.proofs.ServiceFacts.{step_cases}
use Rattle.schedule_laws.specs.Compliance.{IsSupplied, IsWorkConserving, KeepsSegments, KeepsPolicy, IsCompliant}
use Rattle.schedule_laws.specs.Tests.{is_short, is_idle_broken, is_segment_broken, is_priority_broken, PassesTests}
use Rattle.schedule_laws.proofs.TestFacts.{fit_from, fit_to, released_from, released_to, valid_from, valid_to, short_from, short_to, idle_from}
use Rattle.schedule_laws.proofs.TestFacts.{idle_to, segment_from, segment_to, priority_from, priority_to}
use Rattle.schedule_laws.proofs.CrowdFacts.{ends_suffice, within_free}

module _ (p : PolicyMeaning) (m : CutMeaning) (sbf : ℕ → ℕ) (sheet : SheetParts) (ok : IsValidSheet sheet) (run : Run) where
  supplied_from : PassesTests p m sbf sheet run → IsSupplied sbf run
  supplied_from tests t u h l = elim (cases_lt (ticks_in is_on run t (u - t)) (sbf (u - t))) [
    | inl few ↦ absurd (both_ways (is_short sbf run u) (tests.supplied u l) (short_to sbf run u (record { start = t; within = h; few = few })))
    | inr enough ↦ enough
  ]

  conserving_from : PassesTests p m sbf sheet run → IsWorkConserving run
  conserving_from tests t k b idle waits = both_ways (is_idle_broken run t k) (tests.conserving t k b waits.listed) (idle_to run t k idle waits)

  segments_from : PassesTests p m sbf sheet run → KeepsSegments m sheet run
  segments_from tests t k b c on inside = elim (step_cases run k t b) [
    | inl other ↦ absurd (both_ways (is_segment_broken m sheet run t k) (tests.segments t k b c)
        (segment_to m sheet run t k (record { supplied = on; inside = inside; other = other.other })))
    | inr same ↦ same.is
  ]

  policy_from : PassesTests p m sbf sheet run → KeepsPolicy p m sheet run
  policy_from tests t k n b runs cut waits = elim (cases_Bool (key_le (p.key sheet (job_at run k)) (p.key sheet (job_at run n)))) [
    | inl urgent ↦ urgent
    | inr late ↦ absurd (both_ways (is_priority_broken p m sheet run t n) (tests.policy t n b waits.listed)
        (priority_to p m sheet run t n (record { job = k; runs = runs; cut = cut; waits = waits; urgent = late })))
  ]

  pub complies : PassesTests p m sbf sheet run → IsCompliant p m sbf sheet run
  complies tests = record {
    valid = record {
      jobs = λ k b. fit_from m sheet run k (tests.fit k b);
      releases = λ k b. released_from sheet run k (tests.released k b);
      ticks = λ t k b runs. valid_from run t k (tests.valid t b) runs;
    };
    curves = ends_suffice sheet ok run tests.uncrowded;
    supplied = supplied_from tests;
    conserving = conserving_from tests;
    segments = segments_from tests;
    policy = policy_from tests;
  }

  never_short : IsCompliant p m sbf sheet run → (u : ℕ) → u ≤ length run.ticks → is_short sbf run u ≡ false
  never_short c u l = false_from_ne_true (is_short sbf run u)
      (λ h. let short = short_from sbf run u h in omega (arith, short.few, c.supplied short.start u short.within l))

  keeps_segments : IsCompliant p m sbf sheet run → (t k : ℕ) → t < length run.ticks → k < length run.jobs →
      is_segment_broken m sheet run t k ≡ false
  keeps_segments c t k b listed = false_from_ne_true (is_segment_broken m sheet run t k)
      (λ h. let left = segment_from m sheet run t k h in left.other (c.segments t k b listed left.supplied left.inside))

  keeps_policy : IsCompliant p m sbf sheet run → (t n : ℕ) → t < length run.ticks →
      is_priority_broken p m sheet run t n ≡ false
  keeps_policy c t n b = false_from_ne_true (is_priority_broken p m sheet run t n) (λ h.
      let w = priority_from p m sheet run t n h in
      let kept = c.policy t w.job n b w.runs w.cut w.waits in
      let late = w.urgent in
      cc)

  pub passes : IsCompliant p m sbf sheet run → PassesTests p m sbf sheet run
  passes c = record {
    fit = λ k b. fit_to m sheet run k (c.valid.jobs k b);
    released = λ k b. released_to sheet run k (c.valid.releases k b);
    valid = λ t b. valid_to run t (λ k runs. c.valid.ticks t k b runs);
    uncrowded = within_free sheet ok run (λ k b. (c.valid.jobs k b).task) c.curves;
    supplied = never_short c;
    conserving = λ t k b listed. false_from_ne_true (is_idle_broken run t k) (λ h. let w = idle_from run t k h in c.conserving t k b w.0 w.1);
    segments = keeps_segments c;
    policy = λ t n b listed. keeps_policy c t n b;
  }
