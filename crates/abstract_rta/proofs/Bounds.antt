-- Steps "Quiet ticks" to "Completion" of docs/ANALYSIS.md, put together: the law `bound`.
use Rattle.std.proofs.Common.{◌≡◌, ℕ, ◌+◌, ◌-◌, ◌<◌, ◌≤◌, true, length, ap, subst, inl, inr, arith}
use Rattle.std.proofs.lemmas.Bool.{cases_lt}
use Rattle.task_sheet.specs.SheetParts.{SheetParts}
use Rattle.policy.specs.PolicyMeaning.{PolicyMeaning}
use Rattle.preemption.specs.CutMeaning.{CutMeaning}
use Rattle.run_model.specs.Runs.{job_at, service_of, IsDone}
use Rattle.run_model.proofs.ServiceFacts.{service_le}
use Rattle.schedule_laws.specs.Bounded.{IsBounded}
use Rattle.busy_window.specs.Busy.{IsQuiet}
use Rattle.demand.specs.Meeting.{CoversJitter, IsWindow, MeetsAt}
use Rattle.abstract_rta.proofs.Setting.{BoundLaws, Setting, setting_of, of_sheet, timely, jitter_of}
use Rattle.abstract_rta.proofs.Quiet.{last_quiet}
use Rattle.abstract_rta.proofs.Classes.{of_class, class_short}
use Rattle.abstract_rta.proofs.Targets.{IsTarget, urgent, in_time}

module _ (g : Setting) (i window bound : ℕ) (in_range : i < length g.sheet.tasks)
    (covers : CoversJitter g.sheet i bound) (enough : IsWindow g.p g.m g.sbf g.sheet i window) where
  -- a tick that is quiet for the class of i is quiet for the jobs as urgent as a job of i
  class_quiet : (j t : ℕ) → j < length g.run.jobs → (job_at g.run j).task ≡ i →
      IsQuiet g.run (of_class g i) t → IsQuiet g.run (urgent g j) t
  unfolding of_class urgent
  class_quiet j t listed is_i quiet k b u =
      let class = g.laws.policy.higher_class (job_at g.run k) (job_at g.run j) (of_sheet g k b) (of_sheet g j listed) u in
      quiet k b (subst (λ w. g.p.class g.sheet w (job_at g.run k).task ≡ true) is_i class)

  done_in_time : (ends : ℕ → ℕ) → ((a : ℕ) → a < window → MeetsAt g.p g.m g.sbf g.sheet i bound a (ends a)) →
      (j : ℕ) → j < length g.run.jobs → (job_at g.run j).task ≡ i → (job_at g.run j).arrival + bound ≤ length g.run.ticks →
      IsDone g.run j ((job_at g.run j).arrival + bound)
  done_in_time ends meets j listed is_i long =
      let by = (job_at g.run j).arrival + bound in
      elim (cases_lt (service_of g.run j by) (job_at g.run j).cost) [
        | inr done ↦ done
        | inl less ↦
            let release = (job_at g.run j).release in
            let soon : release ≤ (job_at g.run j).arrival + jitter_of g i =
            omega (arith, (timely g j listed).soon, ap (jitter_of g) is_i) in
            let last = last_quiet g.run (urgent g j) release in
            let of_i = last_quiet g.run (of_class g i) release in
            let within : release ≤ length g.run.ticks = omega (arith, soon, covers, long) in
            let short : release < of_i.0 + window =
            class_short g i in_range window of_i.0 release enough of_i.1 within of_i.2 of_i.3 in
            let since : of_i.0 ≤ last.0 = elim (cases_lt last.0 of_i.0) [
              | inr after ↦ after
              | inl before ↦
                  let late = last.3 of_i.0 before of_i.1 in
                  let done = class_quiet j of_i.0 listed is_i of_i.2 late.job late.listed late.is.inside late.is.earlier in
                  absurd (omega (arith, done, late.is.not_done))
            ] in
            let a = release - last.0 in
            let meet = meets a (omega (arith, short, since, last.1, enough.positive)) in
            let u = last.0 + (a + bound - jitter_of g i) in
            let no_later : u ≤ by = omega (arith, last.1, soon, covers) in
            let target : IsTarget g i j last.0 a =
            record { in_range = in_range; listed = listed; is_i = is_i; released = omega (arith, last.1) } in
            absurd (in_time g i j last.0 a (ends a) target bound covers meet.end meet.within
            (omega (arith, no_later, long)) last.2 (λ v b c. last.3 v b (omega (arith, last.1)))
            (omega (arith, less, service_le g.run j u by no_later long)))
      ]

-- the theorem over plain meanings, with a function from offsets to ends
pub bounded : (p : PolicyMeaning) (m : CutMeaning) (sbf : ℕ → ℕ) (sheet : SheetParts) → BoundLaws p m sbf sheet →
    (i window bound : ℕ) (ends : ℕ → ℕ) → i < length sheet.tasks →
    CoversJitter sheet i bound → IsWindow p m sbf sheet i window →
    ((a : ℕ) → a < window → MeetsAt p m sbf sheet i bound a (ends a)) → IsBounded p m sbf sheet i bound
bounded p m sbf sheet laws i window bound ends in_range covers enough meets run ok j listed is_i long =
    done_in_time (setting_of p m sbf sheet laws run ok) i window bound in_range covers enough ends meets j listed is_i long
