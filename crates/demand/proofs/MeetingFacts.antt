-- What meets K6 to K8 at a listed point meets them at each offset up to the next.
use Rattle.std.proofs.Common.{◌≡◌, ℕ, zero, suc, ◌+◌, ◌-◌, ◌<◌, ◌≤◌, Some, None, List, [], ◌∷◌, cond, nat_le, length, ap, arith, inl, inr, add-one}
use Rattle.std.proofs.lemmas.Bool.{cases_lt, le-leb, lt-leb}
use Rattle.task_sheet.specs.SheetParts.{SheetParts}
use Rattle.task_sheet.specs.Sheets.{task_at}
use Rattle.policy.specs.Offsets.{IsSame}
use Rattle.policy.specs.PolicyMeaning.{PolicyMeaning}
use Rattle.preemption.specs.CutMeaning.{CutMeaning}
use Rattle.demand.specs.Demand.{need_of, rest_of}
use Rattle.demand.specs.Meeting.{CoversJitter, MeetsEnd, MeetsBound, MeetsAt, PointsMeet, EveryOffset}

-- what never falls from one number to the next does not fall at all
pub rises_to : (sbf : ℕ → ℕ) → ((d : ℕ) → sbf d ≤ sbf (d + 1)) → (d e : ℕ) → d ≤ e → sbf d ≤ sbf e
rises_to sbf rises d zero h = let e : d ≡ 0 = omega arith in omega (arith, ap sbf e)
rises_to sbf rises d (suc e) h = elim (cases_lt e d) [
  | inl here ↦ let s : d ≡ suc e = omega arith in omega (arith, ap sbf s)
  | inr before ↦ omega (arith, rises_to sbf rises d e before, rw add-one at (rises e))
]

-- K6 and K8 for a bound that ends so many ticks after the release
pub record Reaches (p : PolicyMeaning) (m : CutMeaning) (sbf : ℕ → ℕ) (sheet : SheetParts) (i a x reach : ℕ) : Type 0 where
  pub end : x ≤ a + reach
  pub enough : need_of p m sheet i a x + rest_of m sheet i ≤ sbf (a + reach)

-- the end of the last point whose offset is at most a, where offsets rise; before, where there is none
abbrev pub end_for : ℕ → List (ℕ × ℕ) → ℕ → ℕ
end_for before [] a = before
end_for before (q ∷ qs) a = cond (nat_le q.0 a) (end_for q.1 qs a) before

module _ (p : PolicyMeaning) (m : CutMeaning) (sbf : ℕ → ℕ) (sheet : SheetParts) (i : ℕ) where
  pub reaches : (a x bound : ℕ) → CoversJitter sheet i bound → MeetsBound p m sbf sheet i a x bound →
      Reaches p m sbf sheet i a x (bound - (task_at sheet i).jitter)
  reaches a x bound covers meets =
      let e : a + bound - (task_at sheet i).jitter ≡ a + (bound - (task_at sheet i).jitter) = omega arith in
      record { end = omega (arith, meets.end); enough = omega (arith, meets.enough, ap sbf e) }

  pub from_reach : (a x reach : ℕ) → Reaches p m sbf sheet i a x reach → MeetsBound p m sbf sheet i a x (reach + (task_at sheet i).jitter)
  from_reach a x reach meets =
      let e : a + (reach + (task_at sheet i).jitter) - (task_at sheet i).jitter ≡ a + reach = omega arith in
      record { end = omega (arith, meets.end); enough = omega (arith, meets.enough, ap sbf e) }

  -- with a supply that never falls, and demand that does not rise along a gap
  module _ (rises : (d : ℕ) → sbf d ≤ sbf (d + 1)) (falls : (from a to x : ℕ) → from ≤ a → a < to →
      IsSame p sheet i from (to - 1) → need_of p m sheet i a x ≤ need_of p m sheet i from x) (window bound : ℕ) where
    across : (from a to x : ℕ) → from ≤ a → a < to → IsSame p sheet i from (to - 1) → MeetsEnd p m sbf sheet i from x →
        MeetsBound p m sbf sheet i from x bound → MeetsAt p m sbf sheet i bound a x
    across from a to x h l same end within =
        let less = falls from a to x h l same in
        let jitter = (task_at sheet i).jitter in
        record {
          end = record { enough = omega (arith, less, end.enough) };
          within = record {
            end = omega (arith, within.end);
            enough =
                omega (arith, less, within.enough, rises_to sbf rises (from + bound - jitter) (a + bound - jitter) (omega arith));
          };
        }

    meets_from : (first : ℕ × ℕ) (points : List (ℕ × ℕ)) (a : ℕ) → MeetsEnd p m sbf sheet i first.0 first.1 → MeetsBound p m sbf sheet i first.0 first.1 bound →
        PointsMeet p m sbf sheet i window bound (Some first.0) points → first.0 ≤ a → a < window → MeetsAt p m sbf sheet i bound a (end_for first.1 points a)
    meets_from first [] a end within meet h l = across first.0 a window first.1 h l meet end within
    meets_from first (q ∷ qs) a end within meet h l = elim (cases_lt a q.0) [
      | inl before ↦ rw (lt-leb q.0 a before) (across first.0 a q.0 first.1 h before meet.0.gap end within)
      | inr reached ↦ rw (le-leb q.0 a reached) (meets_from q qs a meet.0.end meet.0.within meet.1 reached l)
    ]

    -- where the listed points meet the conditions, the end of the last one up to an offset serves there
    pub end_serves : (first : ℕ × ℕ) (points : List (ℕ × ℕ)) (a : ℕ) → PointsMeet p m sbf sheet i window bound None (first ∷ points) → a < window →
        MeetsAt p m sbf sheet i bound a (end_for first.1 points a)
    end_serves first points a meet l = meets_from first points a meet.0.end meet.0.within meet.1 (omega (arith, meet.0.next)) l

    pub every_offset : (points : List (ℕ × ℕ)) → 1 ≤ length points → PointsMeet p m sbf sheet i window bound None points →
        EveryOffset p m sbf sheet i window bound
    every_offset [] some meet a l = absurd (omega arith)
    every_offset (first ∷ points) some meet a l = (end_for first.1 points a, end_serves first points a meet l)
