-- What is least serves: the best entry against any that meets the conditions, and against its window.
use Rattle.std.proofs.Common.{◌≡◌, ℕ, ◌+◌, ◌<◌, ◌≤◌, Bool, Option, Some, None, List, [], ◌∷◌, length, arith}
use Rattle.std.specs.List.{AllByRecursion}
use Rattle.lists.specs.Searches.{IsLeast}
use Rattle.task_sheet.specs.SheetParts.{SheetParts}
use Rattle.task_sheet.specs.Sheets.{task_at}
use Rattle.policy.specs.PolicyMeaning.{PolicyMeaning}
use Rattle.preemption.specs.CutMeaning.{CutMeaning}
use Rattle.certificate.specs.declared.cert.Entry.{Entry}
use Rattle.certificate.specs.declared.cert.Point.{Point}
use Rattle.demand.specs.Meeting.{IsWindow, MeetsEnd, MeetsBound, BoundMeets, MeetsAt, PointsMeet, EveryOffset}
use Rattle.demand.proofs.MeetingFacts.{from_reach, every_offset}
use Rattle.conditions.specs.Meets.{pairs_of, TaskMeets}
use Rattle.conditions.proofs.MeetFacts.{pairs_count}
use Rattle.solver.specs.Laws.{Laws}
use Rattle.solver.specs.Best.{IsBestEntry, MeetsEach}
use Rattle.solver.proofs.LawFacts.{grows}
use Rattle.solver.proofs.Chain.{entry_meets}

module _ (p : PolicyMeaning) (m : CutMeaning) (sbf : ℕ → ℕ) (sheet : SheetParts) (laws : Laws p m sbf sheet) (i : ℕ) (in_range : i < length sheet.tasks) where
  pub below_each : (window bound : ℕ) (before : Option ℕ) (qs : List Point) →
      PointsMeet p m sbf sheet i window bound before (pairs_of qs) → AllByRecursion (λ q. q.offset < window) qs
  below_each window bound before [] meet = tt
  below_each window bound before (q ∷ qs) meet = (meet.0.below, below_each window bound (Some q.offset) qs meet.1)

  -- a bound that serves at an offset serves with the least end
  pub with_least : (bound a x y : ℕ) → IsLeast (MeetsEnd p m sbf sheet i a) x → MeetsAt p m sbf sheet i bound a y → MeetsBound p m sbf sheet i a x bound
  with_least bound a x y least serves =
      let le : x ≤ y = least.least y serves.end in
      record { end = omega (arith, serves.within.end); enough = omega (arith, serves.within.enough, laws.need_grows i a x y in_range le) }

  each_serves : (bound window : ℕ) (qs : List Point) → EveryOffset p m sbf sheet i window bound →
      AllByRecursion (λ q. IsLeast (MeetsEnd p m sbf sheet i q.offset) q.end) qs → AllByRecursion (λ q. q.offset < window) qs →
      AllByRecursion (λ q. MeetsBound p m sbf sheet i q.offset q.end bound) qs
  each_serves bound window [] serves ends below = tt
  each_serves bound window (q ∷ qs) serves ends below =
      let here = serves q.offset below.0 in
      (with_least bound q.offset q.end here.0 ends.0 here.1, each_serves bound window qs serves ends.1 below.1)

  pub window_least : (best other : Entry) (deadlines : Bool) → IsBestEntry p m sbf sheet i best →
      TaskMeets p m sbf sheet deadlines i other → best.window ≤ other.window
  window_least best other deadlines b t = b.window.least other.window t.window

  pub bound_least : (best other : Entry) (deadlines : Bool) → IsBestEntry p m sbf sheet i best → 1 ≤ length other.points →
      TaskMeets p m sbf sheet deadlines i other → best.bound ≤ other.bound
  bound_least best other deadlines b some t =
      let le = window_least best other deadlines b t in
      let own = entry_meets p m sbf sheet i best b in
      let serves = every_offset p m sbf sheet i laws.rises
      (λ from a to x l lt same. laws.across_gap i from to a x in_range l lt same) other.window other.bound
      (pairs_of other.points) (omega (arith, some, pairs_count other.points)) t.points in
      let below = below_each best.window best.bound None best.points own.points in
      b.bound.least other.bound (record {
        covers = t.covers;
        each =
            each_serves other.bound best.window best.points (λ a lt. serves a (omega (arith, le))) b.ends below;
      })

  -- the window is an end at each offset below it, and with the jitter a bound
  pub window_ends : (window a : ℕ) → IsWindow p m sbf sheet i window → a < window → MeetsEnd p m sbf sheet i a window
  window_ends window a w lt = record { enough = omega (arith, laws.need_fits i a window in_range lt, w.enough) }

  window_reaches : (window a x : ℕ) → IsWindow p m sbf sheet i window → a < window → x ≤ window →
      MeetsBound p m sbf sheet i a x (window + (task_at sheet i).jitter)
  window_reaches window a x w lt le =
      from_reach p m sbf sheet i a x window
      (record {
        end = omega arith;
        enough =
            omega (
              arith,
              laws.need_fits i a window in_range lt,
              laws.need_grows i a x window in_range le,
              w.enough,
              grows sbf laws window (a + window) (omega arith),
            );
      })

  pub window_serves : (window : ℕ) → IsWindow p m sbf sheet i window → EveryOffset p m sbf sheet i window (window + (task_at sheet i).jitter)
  window_serves window w a lt = (window, record { end = window_ends window a w lt; within = window_reaches window a window w lt (omega arith) })

  pub window_each : (window : ℕ) (qs : List Point) → IsWindow p m sbf sheet i window →
      AllByRecursion (λ q. IsLeast (MeetsEnd p m sbf sheet i q.offset) q.end) qs → AllByRecursion (λ q. q.offset < window) qs →
      MeetsEach p m sbf sheet i qs (window + (task_at sheet i).jitter)
  window_each window qs w ends below =
      record { covers = omega arith; each = each_serves (window + (task_at sheet i).jitter) window qs (window_serves window w) ends below }

  pub end_exists : (window a : ℕ) → IsWindow p m sbf sheet i window → a < window → ((x : ℕ) → x ≤ window → MeetsEnd p m sbf sheet i a x → ⊥) → ⊥
  end_exists window a w lt none = none window (omega arith) (window_ends window a w lt)

  pub bound_exists : (window limit a x : ℕ) → limit ≡ window + (task_at sheet i).jitter → IsWindow p m sbf sheet i window → a < window → x ≤ window →
      ((bound : ℕ) → bound ≤ limit → BoundMeets p m sbf sheet i a x bound → ⊥) → ⊥
  bound_exists window limit a x e w lt le none = none (window + (task_at sheet i).jitter) (omega (arith, e))
      (record { covers = omega arith; within = window_reaches window a x w lt le })

  pub each_within : (window horizon : ℕ) (qs : List Point) → window ≤ horizon → IsWindow p m sbf sheet i window →
      AllByRecursion (λ q. IsLeast (MeetsEnd p m sbf sheet i q.offset) q.end) qs → AllByRecursion (λ q. q.offset < window) qs →
      AllByRecursion (λ q. (q.offset ≤ horizon) × (q.end ≤ horizon)) qs
  each_within window horizon [] le w ends below = tt
  each_within window horizon (q ∷ qs) le w ends below =
      ((omega (arith, below.0), omega (arith, ends.0.least window (window_ends window q.offset w below.0))), each_within window horizon qs le w ends.1 below.1)

  -- the bound of a best entry is at most its window and the jitter
  pub bound_within : (best : Entry) → IsBestEntry p m sbf sheet i best → best.bound ≤ best.window + (task_at sheet i).jitter
  bound_within best b =
      let own = entry_meets p m sbf sheet i best b in
      b.bound.least (best.window + (task_at sheet i).jitter)
      (window_each best.window best.points b.window.holds b.ends (below_each best.window best.bound None best.points own.points))
