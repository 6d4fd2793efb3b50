-- Only the job that ran last may be inside a segment.
use Rattle.std.proofs.Common.{◌≡◌, ◌≢◌, ℕ, ◌+◌, ◌<◌, Bool, true, false, length, Option, Some, None, arith, refl, sym, ◌∙◌, ap}
use Rattle.std.proofs.Common.{inl, inr, add-one}
use Rattle.std.proofs.lemmas.Bool.{cases_eq, both_ways}
use Rattle.lists.specs.Searches.{IsFirstBelow}
use Rattle.task_sheet.specs.SheetParts.{SheetParts}
use Rattle.task_sheet.specs.declared.tasks.Task.{Task}
use Rattle.task_sheet.specs.Sheets.{task_at, IsTask, IsValidSheet}
use Rattle.preemption.specs.CutMeaning.{CutMeaning}
use Rattle.preemption.specs.CutLaws.{IsLawfulCut, Serves}
use Rattle.run_model.specs.declared.run.Run.{Run}
use Rattle.run_model.specs.declared.run.Tick.{Tick}
use Rattle.run_model.specs.declared.run.Tick.TheVariants.{Off, Idle, Runs}
use Rattle.run_model.specs.Runs.{job_at, tick_at}
use Rattle.run_model.proofs.ServiceFacts.{service_none, step_cases, same_job}
use Rattle.schedule_laws.specs.Compliance.{can_cut}
use Rattle.schedule_laws.specs.Tests.{is_segment_broken}
use Rattle.schedule_laws.proofs.TestFacts.{segment_from, segment_to}
use Rattle.audit.specs.Premises.{AreFitting}
use Rattle.audit.specs.TickRules.{Leaves, OnlyMayFail, last_after}

module _ (m : CutMeaning) (sheet : SheetParts) (run : Run) (t : ℕ) (inside : t < length run.ticks) where
  abbrev cut_at : ℕ → Bool
  cut_at k = can_cut m sheet run k t

  abbrev cut_next : ℕ → Bool
  cut_next k = can_cut m sheet run k (t + 1)

  same_cut : (k : ℕ) → tick_at run t ≢ Runs k → cut_next k ≡ cut_at k
  same_cut k other = rw add-one (elim (step_cases run k t inside) [
    | inl stays ↦ ap (m.cuttable (task_at sheet (job_at run k).task) (job_at run k)) stays.same
    | inr gains ↦ absurd (other gains.is)
  ])

  -- a tick that runs no job
  quiet_next : (x : Option ℕ) → ((k : ℕ) → tick_at run t ≢ Runs k) → OnlyMayFail cut_at (length run.jobs) x →
      OnlyMayFail cut_next (length run.jobs) x
  quiet_next None quiet h = λ k b. same_cut k (quiet k) ∙ h k b
  quiet_next (Some n) quiet h = (h.0, (λ k b ne. same_cut k (quiet k) ∙ h.1 k b ne))

  -- a tick that runs job j: the others stay as they are
  others_pass : (j k : ℕ) (x : Option ℕ) → OnlyMayFail cut_at (length run.jobs) x →
      (Leaves (Runs j) x → (n : ℕ) → n < length run.jobs → cut_at n ≡ true) → k < length run.jobs → k ≢ j → cut_at k ≡ true
  others_pass j k None h cut b ne = h k b
  others_pass j k (Some i) h cut b ne = elim (cases_eq j i) [
    | inl e ↦ h.1 k b (λ f. ne (f ∙ sym e))
    | inr other ↦ cut other k b
  ]

  next_by : (x : Option ℕ) (y : Tick) → tick_at run t ≡ y → ((k : ℕ) → y ≡ Runs k → k < length run.jobs) →
      OnlyMayFail cut_at (length run.jobs) x → (Leaves y x → (k : ℕ) → k < length run.jobs → cut_at k ≡ true) →
      OnlyMayFail cut_next (length run.jobs) (last_after y x)
  next_by x Off is named h cut = quiet_next x (λ k r. (let two = sym is ∙ r in cc)) h
  next_by x Idle is named h cut = quiet_next x (λ k r. (let two = sym is ∙ r in cc)) h
  next_by x (Runs j) is named h cut = (
    named j refl,
    (λ k b ne. same_cut k (λ r. ne (same_job k j (tick_at run t) r is)) ∙ others_pass j k x h cut b ne),
  )

  -- a tick later
  pub may_next : (x : Option ℕ) → ((k : ℕ) → tick_at run t ≡ Runs k → k < length run.jobs) →
      OnlyMayFail cut_at (length run.jobs) x → (Leaves (tick_at run t) x → (k : ℕ) → k < length run.jobs → cut_at k ≡ true) →
      OnlyMayFail cut_next (length run.jobs) (last_after (tick_at run t) x)
  may_next x named h cut = next_by x (tick_at run t) refl named h cut

  none_left : (y : Tick) → Leaves y None → ⊥
  none_left Off l = l
  none_left Idle l = l
  none_left (Runs k) l = l

  pub leaves_none : Leaves (tick_at run t) None → ⊥
  leaves_none l = none_left (tick_at run t) l

  left_inside : (j : ℕ) (y : Tick) → tick_at run t ≡ y → cut_at j ≡ false → Leaves y (Some j) →
      is_segment_broken m sheet run t j ≡ true
  left_inside j Off e h l = absurd l
  left_inside j Idle e h l = segment_to m sheet run t j
      (record { supplied = λ off. (let two = sym e ∙ off in cc); inside = h; other = λ r. (let two = sym e ∙ r in cc) })
  left_inside j (Runs k) e h l =
      segment_to m sheet run t j (record { supplied = λ off. (let two = sym e ∙ off in cc); inside = h; other = λ r. l (same_job k j (tick_at run t) e r) })

  -- a tick that leaves the job inside a segment
  pub left_first : (j : ℕ) → OnlyMayFail cut_at (length run.jobs) (Some j) → Leaves (tick_at run t) (Some j) → cut_at j ≡ false →
      IsFirstBelow (λ k. is_segment_broken m sheet run t k ≡ true) (length run.jobs) (Some j)
  left_first j h l uncut = (
    h.0,
    left_inside j (tick_at run t) refl uncut l,
    (λ k c passes.
        let listed = h.0 in
        both_ways (cut_at k) (segment_from m sheet run t k passes).inside (h.1 k (omega arith) (λ e. omega arith))),
  )

  -- every job can be cut
  pub all_cut : (j : ℕ) → OnlyMayFail cut_at (length run.jobs) (Some j) → cut_at j ≡ true → (k : ℕ) → k < length run.jobs → cut_at k ≡ true
  all_cut j h cut k b = elim (cases_eq k j) [ inl e ↦ ap cut_at e ∙ cut | inr ne ↦ h.1 k b ne ]

  pub none_broken : ((k : ℕ) → k < length run.jobs → cut_at k ≡ true) → (k : ℕ) → k < length run.jobs →
      is_segment_broken m sheet run t k ≡ true → ⊥
  none_broken cut k b passes = both_ways (cut_at k) (segment_from m sheet run t k passes).inside (cut k b)

  leaves_at : (j : ℕ) (y : Tick) → y ≢ Off → y ≢ Runs j → Leaves y (Some j)
  leaves_at j Off on other = absurd (on refl)
  leaves_at j Idle on other = tt
  leaves_at j (Runs k) on other = λ e. other (ap Runs e)

  -- a tick that leaves no job
  pub kept_none : (x : Option ℕ) → OnlyMayFail cut_at (length run.jobs) x → (Leaves (tick_at run t) x → ⊥) → (k : ℕ) →
      k < length run.jobs → is_segment_broken m sheet run t k ≡ true → ⊥
  kept_none None h stays k b passes = none_broken h k b passes
  kept_none (Some j) h stays k b passes =
      let broken = segment_from m sheet run t k passes in
      elim (cases_eq k j) [
        | inl e ↦ stays (leaves_at j (tick_at run t) broken.supplied (λ r. broken.other (r ∙ ap Runs (sym e))))
        | inr ne ↦ both_ways (cut_at k) broken.inside (h.1 k b ne)
      ]

-- before the first tick every job can be cut
pub inside_none : (m : CutMeaning) (sheet : SheetParts) (run : Run) →
    ((task : Task) → IsTask task → m.serves task ≡ true → IsLawfulCut m task) → IsValidSheet sheet →
    Serves m sheet → AreFitting m sheet run →
    OnlyMayFail (λ k. can_cut m sheet run k 0) (length run.jobs) None
inside_none m sheet run lawful ok served fitting k b =
    let job = fitting k b in
    let o = (job_at run k).task in
    ap (m.cuttable (task_at sheet o) (job_at run k)) (service_none run k) ∙
    (lawful (task_at sheet o) (ok.each o job.task) (served o job.task)).cut_first (job_at run k) job.fit
