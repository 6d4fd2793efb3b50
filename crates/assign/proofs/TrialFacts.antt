-- One task tried at one level.
use Rattle.std.proofs.Common.{◌≡◌, ℕ, ◌<◌, ◌≤◌, true, false, Option, Some, None, IfSome, length, ap, ◌∙◌, arith}
use Rattle.task_sheet.specs.declared.tasks.Task.{Task}
use Rattle.task_sheet.specs.SheetParts.{SheetParts}
use Rattle.task_sheet.specs.Sheets.{task_at, IsTask, IsValidSheet}
use Rattle.task_sheet.specs.Priorities.{prioritized}
use Rattle.task_sheet.proofs.PriorityFacts.{task_prioritized}
use Rattle.policy.specs.Policies.{fp_meaning}
use Rattle.preemption.specs.CutMeaning.{CutMeaning}
use Rattle.preemption.specs.Cuts.{longest_of, threshold_of}
use Rattle.preemption.specs.CutLaws.{IsLawfulCut, IsTabledCut, Serves}
use Rattle.certificate.specs.declared.cert.Entry.{Entry}
use Rattle.conditions.specs.Meets.{TaskMeets}
use Rattle.solver.specs.Bounds.{ServesTask, IsBoundWithin, IsServedBy}
use Rattle.assign.specs.Sheets.{sheet_by, ServesAny, IsGood}
use Rattle.assign.specs.Trials.{IsGoodBound, IsGoodBoundOrNone}
use Rattle.assign.proofs.SheetFacts.{task_by, count_by}
use Rattle.assign.proofs.RaisedFacts.{KeepsCuts}

pub keeps_cuts : (m : CutMeaning) (sbf : ℕ → ℕ) (sheet : SheetParts) → IsValidSheet sheet → sbf 0 ≡ 0 →
    ((t : Task) → m.serves t ≡ true → IsTabledCut m t) → ((t : Task) → IsTask t → m.serves t ≡ true → IsLawfulCut m t) →
    ServesAny m sheet → KeepsCuts m sbf sheet
keeps_cuts m sbf sheet valid starts tabled lawful served =
    let cut : (o : ℕ) → o < length sheet.tasks → IsLawfulCut m (prioritized (task_at sheet o) 0) =
    λ o b. lawful _ (task_prioritized (task_at sheet o) 0 (valid.each o b) (omega arith)) (served o 0 b) in
    record {
      valid = valid;
      starts = starts;
      longest = λ o p b. (tabled _ (served o p b)).same_longest;
      threshold = λ o p b. (tabled _ (served o p b)).same_threshold;
      longest_bound = λ o b.
          let same : m.longest (prioritized (task_at sheet o) 0) ≡ longest_of (task_at sheet o) = (tabled _ (served o 0 b)).same_longest in
          let high : m.longest (prioritized (task_at sheet o) 0) ≤ (task_at sheet o).cost = (cut o b).longest_bound in
          omega (arith, same, high);
      threshold_positive = λ o b.
          let same : m.threshold (prioritized (task_at sheet o) 0) ≡ threshold_of (task_at sheet o) = (tabled _ (served o 0 b)).same_threshold in
          omega (arith, same, (cut o b).threshold_positive);
    }

pub served_by_any : (m : CutMeaning) (sheet : SheetParts) (f : ℕ → ℕ) → ServesAny m sheet → Serves m (sheet_by sheet f)
served_by_any m sheet f served o b =
    let here : o < length sheet.tasks = omega (arith, b, count_by sheet f) in
    ap (λ (t : Task). m.serves t) (task_by sheet f o here) ∙ served o (f o) here

module _ (m : CutMeaning) (sbf : ℕ → ℕ) (sheet : SheetParts) (horizon i : ℕ) where
  -- with deadlines, and without
  with_deadline : (e : Entry) → TaskMeets fp_meaning m sbf sheet false i e → e.bound ≤ (task_at sheet i).deadline → TaskMeets fp_meaning m sbf sheet true i e
  with_deadline e meets in_time = record { covers = meets.covers; window = meets.window; in_time = in_time; points = meets.points; terms = meets.terms }

  serves_of : (good : IsGood m sbf sheet horizon i) → ServesTask fp_meaning m sbf sheet horizon i good.entry
  serves_of good = record {
    some = good.some;
    up_to = good.up_to;
    meets = record {
      covers = good.meets.covers;
      window = good.meets.window;
      in_time = tt;
      points = good.meets.points;
      terms = good.meets.terms;
    };
  }

  pub none_serves : ((e : Entry) → ServesTask fp_meaning m sbf sheet horizon i e → ⊥) → IsGood m sbf sheet horizon i → ⊥
  none_serves none good = none good.entry (serves_of good)

  pub too_late : (bound deadline : ℕ) → IsServedBy fp_meaning m sbf sheet horizon i bound → deadline ≡ (task_at sheet i).deadline → deadline < bound →
      IsGood m sbf sheet horizon i → ⊥
  too_late bound deadline served e late good = omega (arith, served.least good.entry (serves_of good), good.meets.in_time, late, e)

  -- the least bound up to the deadline is a good one, and where there is none the task is not good
  pub good_or_none : (deadline : ℕ) → deadline ≡ (task_at sheet i).deadline → (found : Option ℕ) → IsBoundWithin fp_meaning m sbf sheet horizon deadline i found →
      IfSome found (IsServedBy fp_meaning m sbf sheet horizon i) → IsGoodBoundOrNone m sbf sheet horizon i found
  good_or_none deadline e None none served = λ good. none good.entry (serves_of good) (omega (arith, good.meets.in_time, e))
  good_or_none deadline e (Some bound) is served = record { least = is.0; served = served; in_time = omega (arith, is.1, e) }

  pub bound_meets : (bound : ℕ) (good : IsGoodBound m sbf sheet horizon i bound) → TaskMeets fp_meaning m sbf sheet true i good.served.entry
  bound_meets bound good = with_deadline good.served.entry good.served.serves.meets (omega (arith, good.served.bound_is, good.in_time))

  pub is_good : (bound : ℕ) → IsGoodBound m sbf sheet horizon i bound → IsGood m sbf sheet horizon i
  is_good bound good = record {
    entry = good.served.entry;
    some = good.served.serves.some;
    up_to = good.served.serves.up_to;
    meets = bound_meets bound good;
  }
