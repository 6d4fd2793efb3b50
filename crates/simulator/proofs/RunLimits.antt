-- A run that the simulation has made can be written.
use Rattle.std.proofs.Common.{◌≡◌, ℕ, zero, suc, ◌+◌, ◌<◌, ◌≤◌, ◌==◌, true, List, [], ◌∷◌, length, get_or, sum, All, refl, sym, ◌∙◌, arith}
use Rattle.std.proofs.lemmas.Bool.{and_parts, eqb-true}
use Rattle.std.proofs.lemmas.List.Elements.{All-from_get_or}
use Rattle.lists.specs.Ranges.{is_between}
use Rattle.task_sheet.specs.Limits.{jitter_high}
use Rattle.task_sheet.specs.Sheets.{task_at, IsValidSheet}
use Rattle.task_sheet.specs.SheetParts.{SheetParts}
use Rattle.task_sheet.specs.declared.tasks.Cut.{Cut}
use Rattle.task_sheet.specs.declared.tasks.Cut.TheVariants.{Full, Never, Fixed, Floating}
use Rattle.task_sheet.specs.declared.tasks.Job.{Job}
use Rattle.policy.specs.PolicyMeaning.{PolicyMeaning}
use Rattle.preemption.specs.CutMeaning.{CutMeaning}
use Rattle.preemption.specs.CutLaws.{IsTabledCut}
use Rattle.preemption.specs.Cuts.{each_within, are_lengths_within, has_none, segments_fit}
use Rattle.preemption.specs.Segments.{sum_more}
use Rattle.run_model.specs.declared.run.Run.{Run}
use Rattle.run_model.specs.declared.run.Tick.{Tick}
use Rattle.run_model.specs.declared.run.Tick.TheVariants.{Off, Idle, Runs}
use Rattle.run_model.specs.Runs.{no_job, job_at, tick_at}
use Rattle.schedule_laws.specs.Compliance.{IsReleased}
use Rattle.run_text.specs.Text.{IsSegment, IsJob, IsTickOf, IsWithinLimits}
use Rattle.std.specs.BTreeMap.{BTreeMap}
use Rattle.std.specs.BTreeSet.{BTreeSet}
use Rattle.std.proofs.Common.{Option}
use Rattle.urgency.specs.declared.rank.Rank.{Rank}
use Rattle.simulator.specs.declared.simulation.Due.{Due}
use Rattle.simulator.specs.SimulationState.{IsKeptAt, IsKnown}

-- each of some numbers is at most their sum
within_sum : (xs : List ℕ) (i : ℕ) → i < length xs → get_or xs i 0 ≤ sum xs
within_sum [] i h = absurd (omega arith)
within_sum (x ∷ xs) zero h = omega (arith, sum_more x xs)
within_sum (x ∷ xs) (suc i) h = omega (arith, within_sum xs i (omega arith), sum_more x xs)

small_segments : (xs : List ℕ) (cost : ℕ) → sum xs ≡ cost → cost ≤ 1000000000 → All IsSegment xs
small_segments xs cost e h = All-from_get_or IsSegment xs 0 (λ i b. omega (arith, within_sum xs i b))

no_segments : (xs : List ℕ) → has_none xs ≡ true → All IsSegment xs
no_segments [] h = All-from_get_or IsSegment [] 0 (λ i b. absurd (omega arith))
no_segments (x ∷ xs) h = absurd (cc)

-- a job's segments are in range, by its cut
cut_segments : (cut : Cut) (j : Job) → segments_fit cut j ≡ true → j.cost ≤ 1000000000 → All IsSegment j.segs
cut_segments Full j h l = no_segments j.segs h
cut_segments Never j h l = no_segments j.segs h
cut_segments (Fixed segments) j h l = small_segments j.segs j.cost (eqb-true _ _ (and_parts (each_within j.segs segments) (sum j.segs == j.cost) h).1) l
cut_segments (Floating bound) j h l = small_segments j.segs j.cost (eqb-true _ _ (and_parts (are_lengths_within bound j.segs) (sum j.segs == j.cost) h).1) l

tick_of : (n : ℕ) (x : Tick) → ((k : ℕ) → x ≡ Runs k → k < n) → IsTickOf n x
tick_of n Off h = tt
tick_of n Idle h = tt
tick_of n (Runs k) h = h k refl

known_job : (m : CutMeaning) (sheet : SheetParts) (t : ℕ) (j : Job) → IsValidSheet sheet →
    ((o : ℕ) → o < length sheet.tasks → IsTabledCut m (task_at sheet o)) → t ≤ 100000 → IsKnown m sheet t j →
    j.release ≤ j.arrival + (task_at sheet j.task).jitter → IsJob j
known_job m sheet t j valid tabled h known soon = record {
  task = omega (arith, known.task, valid.few);
  arrival = omega (arith, known.arrived);
  release = omega (arith, known.arrived, soon, jitter_high (task_at sheet j.task) (valid.each j.task known.task));
  cost = known.cost;
  segs =
      cut_segments (task_at sheet j.task).cut j
      (and_parts (is_between 1 (task_at sheet j.task).cost j.cost) _ (sym ((tabled j.task known.task).same_fits j) ∙ known.fits)).1
      known.cost;
}

pub kept_within : (p : PolicyMeaning) (m : CutMeaning) (sheet : SheetParts) (t u v : ℕ) (run : Run) (left : List ℕ)
    (queue : BTreeMap Rank ℕ) (coming : BTreeSet Due) (x : Option ℕ) →
    IsKeptAt p m sheet t u v run left queue coming x → IsValidSheet sheet →
    ((o : ℕ) → o < length sheet.tasks → IsTabledCut m (task_at sheet o)) → t ≤ 100000 →
    ((k : ℕ) → k < length run.jobs → IsReleased sheet run k) → IsWithinLimits run
kept_within p m sheet t u v run left queue coming x kept valid tabled h released = record {
  few_jobs = kept.within.few_jobs;
  few_ticks = omega (arith, kept.now);
  few_segments = kept.within.few_segments;
  jobs = All-from_get_or IsJob run.jobs no_job (λ k b. known_job m sheet t (job_at run k) valid tabled h (kept.known k b) (released k b).timely.soon);
  ticks = All-from_get_or (IsTickOf (length run.jobs)) run.ticks Off
      (λ u b. tick_of (length run.jobs) (tick_at run u) (λ k e. kept.listed u k (omega (arith, kept.now)) e));
}
