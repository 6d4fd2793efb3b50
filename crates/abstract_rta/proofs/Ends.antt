-- Step "From listed points to every offset" of docs/ANALYSIS.md, the list:
-- the end of the greatest listed offset up to an offset serves there.
use Rattle.std.proofs.Common.{◌≡◌, ℕ, zero, suc, ◌+◌, ◌-◌, ◌<◌, ◌≤◌, Some, None, List, [], ◌∷◌}
use Rattle.std.proofs.Common.{length, get_or, refl, inl, inr, arith}
use Rattle.std.proofs.lemmas.Bool.{cases_lt, le-leb, lt-leb}
use Rattle.task_sheet.specs.SheetParts.{SheetParts}
use Rattle.task_sheet.specs.Sheets.{IsValidSheet}
use Rattle.policy.specs.PolicyMeaning.{PolicyMeaning}
use Rattle.preemption.specs.CutMeaning.{CutMeaning}
use Rattle.policy.specs.Offsets.{IsSame}
use Rattle.search_space.specs.PointLaws.{AcrossGap}
use Rattle.demand.specs.Demand.{need_of}
use Rattle.demand.specs.DemandLaws.{NeedFalls}
use Rattle.demand.specs.Meeting.{PointsMeet}
use Rattle.demand.proofs.MeetingFacts.{end_for, end_serves}
use Rattle.abstract_rta.specs.Bounds.{point_at, IsEndFor, HasEnds}

-- the list of f 0, .., f (n - 1)
abbrev listed : (ℕ → ℕ) → ℕ → List ℕ
listed f zero = []
listed f (suc n) = f 0 ∷ listed (λ k. f (suc k)) n

listed_length : (f : ℕ → ℕ) (n : ℕ) → length (listed f n) ≡ n
listed_length f zero = refl
listed_length f (suc n) = omega (arith, listed_length (λ k. f (suc k)) n)

listed_at : (f : ℕ → ℕ) (n k : ℕ) → k < n → get_or (listed f n) k 0 ≡ f k
listed_at f zero k h = absurd (omega arith)
listed_at f (suc n) zero h = refl
listed_at f (suc n) (suc k) h = listed_at (λ k. f (suc k)) n k (omega arith)

only_one : (first : ℕ × ℕ) (k : ℕ) → k < 1 → (point_at (first ∷ []) k).0 ≤ first.0
only_one first zero h = omega arith
only_one first (suc k) h = absurd (omega arith)

first_of_those : (first : ℕ × ℕ) (points : List (ℕ × ℕ)) (a k : ℕ) →
    ((n : ℕ) → n < length points → a < (point_at points n).0) →
    k < suc (length points) → (point_at (first ∷ points) k).0 ≤ a → (point_at (first ∷ points) k).0 ≤ first.0
first_of_those first points a zero later h l = omega arith
first_of_those first points a (suc k) later h l = absurd (omega (arith, later k (omega arith)))

still_greatest : (first : ℕ × ℕ) (points : List (ℕ × ℕ)) (a top k : ℕ) → first.0 ≤ top →
    ((n : ℕ) → n < length points → (point_at points n).0 ≤ a → (point_at points n).0 ≤ top) →
    k < suc (length points) → (point_at (first ∷ points) k).0 ≤ a → (point_at (first ∷ points) k).0 ≤ top
still_greatest first points a top zero h greatest b l = h
still_greatest first points a top (suc k) h greatest b l = greatest k (omega arith) l

module _ (p : PolicyMeaning) (m : CutMeaning) (sbf : ℕ → ℕ) (sheet : SheetParts) (i window bound : ℕ) where
  -- the points that follow an offset lie after it
  after : (points : List (ℕ × ℕ)) (before : ℕ) → PointsMeet p m sbf sheet i window bound (Some before) points →
      (k : ℕ) → k < length points → before < (point_at points k).0
  after [] before meet k h = absurd (omega arith)
  after (q ∷ qs) before meet zero h = meet.0.next
  after (q ∷ qs) before meet (suc k) h = omega (arith, meet.0.next, after qs q.0 meet.1 k (omega arith))

  from_first : (points : List (ℕ × ℕ)) (first : ℕ × ℕ) → PointsMeet p m sbf sheet i window bound (Some first.0) points →
      (k : ℕ) → k < suc (length points) → first.0 ≤ (point_at (first ∷ points) k).0
  from_first points first meet zero h = omega arith
  from_first points first meet (suc k) h = omega (arith, after points first.0 meet k (omega arith))

  chosen : (points : List (ℕ × ℕ)) (first : ℕ × ℕ) (a : ℕ) →
      PointsMeet p m sbf sheet i window bound (Some first.0) points → first.0 ≤ a →
      IsEndFor (first ∷ points) a (end_for first.1 points a)
  chosen [] first a meet h =
      record { point = 0; listed = omega arith; reached = h; greatest = λ k b l. only_one first k b; end = refl }
  chosen (q ∷ qs) first a meet h = elim (cases_lt a q.0) [
    | inl before ↦
        rw (lt-leb q.0 a before) (record {
          point = 0;
          listed = omega arith;
          reached = h;
          greatest = λ k b l. first_of_those first (q ∷ qs) a k (λ n c. omega (arith, before, from_first qs q meet.1 n c)) b l;
          end = refl;
        })
    | inr reached ↦
        let rest = chosen qs q a meet.1 reached in
        let later : first.0 ≤ (point_at (q ∷ qs) rest.point).0 =
        omega (arith, meet.0.next, rest.greatest 0 (omega arith) reached) in
        rw (le-leb q.0 a reached) (record {
          point = suc rest.point;
          listed = omega (arith, rest.listed);
          reached = rest.reached;
          greatest = λ k b l. still_greatest first (q ∷ qs) a (point_at (q ∷ qs) rest.point).0 k later rest.greatest b l;
          end = rest.end;
        })
  ]

  -- with the laws of gaps and of demand along them, and a supply that never falls
  module _ (ok : IsValidSheet sheet) (in_range : i < length sheet.tasks) (gap : AcrossGap p) (falls : NeedFalls p m)
      (rises : (d : ℕ) → sbf d ≤ sbf (d + 1)) where
    along : (from a to x : ℕ) → from ≤ a → a < to → IsSame p sheet i from (to - 1) →
        need_of p m sheet i a x ≤ need_of p m sheet i from x
    along from a to x h l same = falls sheet ok i from a x in_range h (gap sheet ok i from a to in_range h l same)

    pub has_ends : (points : List (ℕ × ℕ)) → 1 ≤ length points → PointsMeet p m sbf sheet i window bound None points →
        HasEnds p m sbf sheet i window bound points
    has_ends [] some meet = absurd (omega arith)
    has_ends (first ∷ points) some meet =
        let end : ℕ → ℕ = end_for first.1 points in
        let starts : first.0 ≡ 0 = meet.0.next in
        record {
          ends = listed end window;
          count = listed_length end window;
          chosen = λ a l. rw (listed_at end window a l) (chosen points first a meet.1 (omega (arith, starts)));
          meets = λ a l.
              rw (listed_at end window a l) (end_serves p m sbf sheet i rises along window bound first points a meet l);
        }
