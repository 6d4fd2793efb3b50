-- The verdict tells compliance.
use Rattle.std.proofs.Common.{◌≡◌, ◌↔◌, ◌<◌, ◌∙◌, sym, true, not, ℕ, length, Option, Some, None}
use Rattle.std.proofs.lemmas.Bool.{not-true, not_from_false}
use Rattle.lists.specs.Firsts.{first_of}
use Rattle.lists.proofs.FirstFacts.{first_parts, first_from}
use Rattle.task_sheet.specs.SheetParts.{SheetParts}
use Rattle.task_sheet.specs.declared.tasks.Task.{Task}
use Rattle.task_sheet.specs.Sheets.{task_at, IsTask, IsValidSheet}
use Rattle.policy.specs.PolicyMeaning.{PolicyMeaning}
use Rattle.preemption.specs.CutMeaning.{CutMeaning}
use Rattle.preemption.specs.CutLaws.{IsLawfulCut, Serves}
use Rattle.run_model.specs.declared.run.Run.{Run}
use Rattle.run_model.specs.Runs.{job_at}
use Rattle.schedule_laws.specs.Compliance.{IsReleased, IsCompliant}
use Rattle.schedule_laws.specs.Tests.{does_fit, is_release_broken, is_idle_broken, is_segment_broken, is_priority_broken, PassesTests}
use Rattle.schedule_laws.proofs.ComplianceFacts.{complies, passes}
use Rattle.audit.specs.declared.verdict.Fault.{Fault}
use Rattle.audit.specs.Premises.{AreFitting, AreReleased, ArePositive}
use Rattle.audit.specs.declared.verdict.Rule.TheVariants as rule
use Rattle.audit.specs.Faults.{first_broken, unfit, unfit_in, unreleased, unreleased_in, invalid_in, crowded_in, short_in, idle_in, segment_in, priority_in}
use Rattle.audit.proofs.SearchFacts.{all_hold, each_holds, found_none, none_found}
use Rattle.audit.proofs.FaultFacts.{invalid_none, none_invalid, crowded_none, none_crowded, short_never, none_short}

-- where each job is released as its task allows
pub releases_from : (sheet : SheetParts) (run : Run) → ((k : ℕ) → k < length run.jobs → IsReleased sheet run k) →
    AreReleased run
releases_from sheet run each = record {
  after = λ k b. (each k b).timely.after;
  order = λ n k b c same earlier. (each k c).order n b same earlier;
}

module _ (p : PolicyMeaning) (m : CutMeaning) (sbf : ℕ → ℕ) (sheet : SheetParts) (run : Run) where
  abbrev from_priority : Option Fault
  from_priority = priority_in p m sheet run

  abbrev from_segment : Option Fault
  from_segment = first_of (segment_in m sheet run) from_priority

  abbrev from_idle : Option Fault
  from_idle = first_of (idle_in run) from_segment

  abbrev from_short : Option Fault
  from_short = first_of (short_in sbf run) from_idle

  abbrev from_crowded : Option Fault
  from_crowded = first_of (crowded_in sheet run) from_short

  abbrev from_invalid : Option Fault
  from_invalid = first_of (invalid_in run) from_crowded

  abbrev from_unreleased : Option Fault
  from_unreleased = first_of (unreleased_in sheet run) from_invalid

  unbroken_passes : first_broken p m sbf sheet run ≡ None → PassesTests p m sbf sheet run
  unfolding unfit_in unreleased_in idle_in segment_in priority_in
  unbroken_passes none =
      let fit = first_parts (unfit_in m sheet run) from_unreleased none in
      let released = first_parts (unreleased_in sheet run) from_invalid fit.1 in
      let valid = first_parts (invalid_in run) from_crowded released.1 in
      let crowded = first_parts (crowded_in sheet run) from_short valid.1 in
      let short = first_parts (short_in sbf run) from_idle crowded.1 in
      let idle = first_parts (idle_in run) from_segment short.1 in
      let segment = first_parts (segment_in m sheet run) from_priority idle.1 in
      record {
        fit = each_holds (does_fit m sheet run) unfit (length run.jobs) fit.0;
        released = λ k b. not-true (is_release_broken sheet run k)
            (each_holds (λ i. not (is_release_broken sheet run i)) unreleased (length run.jobs) released.0 k b);
        valid = none_invalid run valid.0;
        uncrowded = none_crowded sheet run crowded.0;
        supplied = none_short sbf run short.0;
        conserving = λ t k. none_found rule.Idle (is_idle_broken run) (length run.ticks) (length run.jobs) t k idle.0;
        segments = λ t k. none_found rule.Segment (is_segment_broken m sheet run) (length run.ticks) (length run.jobs) t k segment.0;
        policy = λ t k. none_found rule.Priority (is_priority_broken p m sheet run) (length run.ticks) (length run.jobs) t k segment.1;
      }

  passes_unbroken : PassesTests p m sbf sheet run → first_broken p m sbf sheet run ≡ None
  unfolding unfit_in unreleased_in idle_in segment_in priority_in
  passes_unbroken tests =
      first_from (unfit_in m sheet run) from_unreleased (all_hold (does_fit m sheet run) unfit (length run.jobs) tests.fit)
      (first_from (unreleased_in sheet run) from_invalid
      (all_hold (λ k. not (is_release_broken sheet run k)) unreleased (length run.jobs)
      (λ k b. not_from_false (is_release_broken sheet run k) (tests.released k b)))
      (first_from (invalid_in run) from_crowded (invalid_none run tests.valid)
      (first_from (crowded_in sheet run) from_short (crowded_none sheet run tests.uncrowded)
      (first_from (short_in sbf run) from_idle (short_never sbf run tests.supplied)
      (first_from (idle_in run) from_segment (found_none rule.Idle (is_idle_broken run) (length run.ticks) (length run.jobs) tests.conserving)
      (first_from (segment_in m sheet run) from_priority
      (found_none rule.Segment (is_segment_broken m sheet run) (length run.ticks) (length run.jobs) tests.segments)
      (found_none rule.Priority (is_priority_broken p m sheet run) (length run.ticks) (length run.jobs) tests.policy)))))))

  -- a run breaks no rule exactly where it complies
  pub unbroken_complies : IsValidSheet sheet →
      (first_broken p m sbf sheet run ≡ None) ↔ IsCompliant p m sbf sheet run
  unbroken_complies ok = ((λ none. complies p m sbf sheet ok run (unbroken_passes none)), (λ c. passes_unbroken (passes p m sbf sheet ok run c)))

  -- what holds of the run where no rule is found broken
  pub complies_from : (r : Option Fault) → r ≡ first_broken p m sbf sheet run → r ≡ None → IsValidSheet sheet →
      IsCompliant p m sbf sheet run
  complies_from r is none ok = (unbroken_complies ok).0 (sym is ∙ none)

  pub not_from : (r : Option Fault) (fault : Fault) → r ≡ first_broken p m sbf sheet run → r ≡ Some fault →
      IsValidSheet sheet → IsCompliant p m sbf sheet run → ⊥
  not_from r fault is some ok c = let none = (unbroken_complies ok).1 c in cc

-- a job that fits needs some service
pub positive_from : (m : CutMeaning) (sheet : SheetParts) (run : Run) →
    ((task : Task) → IsTask task → m.serves task ≡ true → IsLawfulCut m task) → IsValidSheet sheet →
    Serves m sheet → AreFitting m sheet run → ArePositive run
positive_from m sheet run lawful ok served fitting k b =
    let job = fitting k b in
    let o = (job_at run k).task in
    (lawful (task_at sheet o) (ok.each o job.task) (served o job.task)).cost_positive (job_at run k) job.fit
