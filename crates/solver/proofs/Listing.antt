use Rattle.std.proofs.Common.{◌≡◌, ℕ, zero, suc, ◌+◌, ◌-◌, ◌<◌, ◌≤◌, Bool, true, false, Some, None, Option, List, [], ◌∷◌, ◌++◌, length, map, refl}
use Rattle.std.proofs.Common.{ap, sym, ◌∙◌, arith, add-suc, add-zero, append_assoc, length-append, max}
use Rattle.std.specs.List.{AllByRecursion}
use Rattle.std.proofs.lemmas.Bool.{false_from_ne_true}
use Rattle.std.proofs.lemmas.List.{map-append, length-map}
use Rattle.lists.specs.Searches.{IsLeast, IsFirstBelow}
use Rattle.task_sheet.specs.SheetParts.{SheetParts}
use Rattle.task_sheet.specs.Sheets.{task_at}
use Rattle.policy.specs.PolicyMeaning.{PolicyMeaning}
use Rattle.preemption.specs.CutMeaning.{CutMeaning}
use Rattle.certificate.specs.declared.cert.Point.{Point}
use Rattle.certificate.specs.Text.{point_of}
use Rattle.demand.specs.Meeting.{IsWindow, MeetsEnd, MeetsBound, BoundMeets}
use Rattle.search_space.specs.Points.{is_point, IsPointAfter}
use Rattle.solver.specs.Laws.{Laws}
use Rattle.solver.specs.Points.{passing, points_below}
use Rattle.solver.specs.Best.{MeetsEach, IsBestEntry}
use Rattle.solver.proofs.LawFacts.{grows}

-- the least point after a and below a window
abbrev pub IsNextPoint : PolicyMeaning → SheetParts → ℕ → ℕ → ℕ → Option ℕ → Type 0
IsNextPoint p sheet i a window next = IsFirstBelow (IsPointAfter p sheet i a) window next

-- the point a and those after it
unfoldable pub points_from : PolicyMeaning → SheetParts → ℕ → ℕ → ℕ → List ℕ
points_from p sheet i window a = a ∷ passing (is_point p sheet i) (suc a) (window - suc a)

pub point_zero : (p : PolicyMeaning) (sheet : SheetParts) (i : ℕ) → is_point p sheet i 0 ≡ true
unfolding is_point
point_zero p sheet i = refl

no_point : (p : PolicyMeaning) (sheet : SheetParts) (i a k : ℕ) → a < k → (IsPointAfter p sheet i a k → ⊥) → is_point p sheet i k ≡ false
no_point p sheet i a k later none = false_from_ne_true (is_point p sheet i k) (λ t. none (record { later = later; point = t }))

passing_skip : (test : ℕ → Bool) (m from n : ℕ) → ((k : ℕ) → from ≤ k → k < from + m → test k ≡ false) → passing test from (n + m) ≡ passing test (from + m) n
passing_skip test zero from n h = rw (add-zero, add-zero) refl
passing_skip test (suc m) from n h =
    let e : suc from + m ≡ from + suc m = omega arith in
    let rest : passing test (suc from) (n + m) ≡ passing test (suc from + m) n = passing_skip test m (suc from) n (λ k a b. h k (omega arith) (omega arith)) in
    rw (add-suc n m, h from (omega arith) (omega arith), ← e) rest

passing_none : (test : ℕ → Bool) (n from : ℕ) → ((k : ℕ) → from ≤ k → k < from + n → test k ≡ false) → passing test from n ≡ []
passing_none test zero from h = refl
passing_none test (suc n) from h = rw (h from (omega arith) (omega arith)) (passing_none test n (suc from) (λ k a b. h k (omega arith) (omega arith)))

passing_next : (test : ℕ → Bool) (from next window : ℕ) → from ≤ next → next < window → test next ≡ true → ((k : ℕ) → from ≤ k → k < next → test k ≡ false) →
    passing test from (window - from) ≡ next ∷ passing test (suc next) (window - suc next)
passing_next test from next window le lt here none =
    let e : suc (window - suc next) + (next - from) ≡ window - from = omega arith in
    let f : from + (next - from) ≡ next = omega arith in
    let skip : passing test from (suc (window - suc next) + (next - from)) ≡ passing test (from + (next - from)) (suc (window - suc next)) =
    passing_skip test (next - from) from (suc (window - suc next)) (λ k a b. none k a (omega arith)) in
    let there : passing test next (suc (window - suc next)) ≡ next ∷ passing test (suc next) (window - suc next) = rw here refl in
    ap (passing test from) (sym e) ∙ skip ∙ ap (λ n. passing test n (suc (window - suc next))) f ∙ there

module _ (p : PolicyMeaning) (sheet : SheetParts) (i window : ℕ) where
  pub from_first : 1 ≤ window → points_from p sheet i window 0 ≡ points_below p sheet i window
  unfolding points_from points_below
  from_first one =
      let e : suc (window - 1) ≡ window = omega arith in
      let whole : passing (is_point p sheet i) 0 (suc (window - 1)) ≡ 0 ∷ passing (is_point p sheet i) 1 (window - 1) = rw (point_zero p sheet i) refl in
      sym (ap (passing (is_point p sheet i) 0) (sym e) ∙ whole)

  pub from_next : (a next : ℕ) → IsNextPoint p sheet i a window (Some next) → points_from p sheet i window a ≡ a ∷ points_from p sheet i window next
  unfolding points_from
  from_next a next n = ap (λ xs. a ∷ xs)
      (passing_next (is_point p sheet i) (suc a) next window (omega (arith, n.1.later)) n.0 n.1.point (λ k l b. no_point p sheet i a k (omega arith) (n.2 k b)))

  pub from_last : (a : ℕ) → IsNextPoint p sheet i a window None → points_from p sheet i window a ≡ a ∷ []
  unfolding points_from
  from_last a n = ap (λ xs. a ∷ xs)
      (passing_none (is_point p sheet i) (window - suc a) (suc a) (λ k l b. no_point p sheet i a k (omega arith) (n k (omega arith))))

  pub from_some : (a : ℕ) → 1 ≤ length (points_from p sheet i window a)
  unfolding points_from
  from_some a = omega arith

pub each_push : {X : Type 0} (P : X → Type 0) (xs : List X) (x : X) → AllByRecursion P xs → P x → AllByRecursion P (xs ++ x ∷ [])
each_push P [] x all here = (here, all)
each_push P (y ∷ xs) x all here = (all.0, each_push P xs x all.1 here)

each_split : {X : Type 0} (P : X → Type 0) (xs : List X) (x : X) → AllByRecursion P (xs ++ x ∷ []) → AllByRecursion P xs × P x
each_split P [] x all = (all.1, all.0)
each_split P (y ∷ xs) x all = let rest = each_split P xs x all.1 in ((all.0, rest.0), rest.1)

pub each_weaker : {X : Type 0} (P Q : X → Type 0) (xs : List X) → ((x : X) → P x → Q x) → AllByRecursion P xs → AllByRecursion Q xs
each_weaker P Q [] f all = all
each_weaker P Q (x ∷ xs) f all = (f x all.0, each_weaker P Q xs f all.1)

-- the points before a are listed with their least ends, and the bound is the least for them
pub record SoFar (p : PolicyMeaning) (m : CutMeaning) (sbf : ℕ → ℕ) (sheet : SheetParts) (i window a bound : ℕ) (points : List Point) : Type 0 where
  pub lies : a < window
  pub offsets : map (λ q. q.offset) points ++ points_from p sheet i window a ≡ points_below p sheet i window
  pub ends : AllByRecursion (λ q. IsLeast (MeetsEnd p m sbf sheet i q.offset) q.end) points
  pub least : IsLeast (MeetsEach p m sbf sheet i points) bound

module _ (p : PolicyMeaning) (m : CutMeaning) (sbf : ℕ → ℕ) (sheet : SheetParts) (laws : Laws p m sbf sheet) (i : ℕ) where
  bound_grow : (a x low high : ℕ) → low ≤ high → MeetsBound p m sbf sheet i a x low → MeetsBound p m sbf sheet i a x high
  bound_grow a x low high le meets =
      let jitter = (task_at sheet i).jitter in
      record { end = omega (arith, meets.end); enough = omega (arith, meets.enough, grows sbf laws (a + low - jitter) (a + high - jitter) (omega arith)) }

  -- the greatest of two least bounds is the least for both
  bound_more : (points : List Point) (a x bound least : ℕ) → IsLeast (MeetsEach p m sbf sheet i points) bound → IsLeast (BoundMeets p m sbf sheet i a x) least →
      IsLeast (MeetsEach p m sbf sheet i (points ++ point_of a x ∷ [])) (max least bound)
  bound_more points a x bound least so_far here = record {
    holds = record {
      covers = omega (arith, here.holds.covers);
      each = each_push _ points (point_of a x)
          (each_weaker _ _ points (λ q meets. bound_grow q.offset q.end bound (max least bound) (omega arith) meets)
          so_far.holds.each) (bound_grow a x least (max least bound) (omega arith) here.holds.within);
    };
    least = λ k h.
        let parts = each_split _ points (point_of a x) h.each in
        omega (arith, so_far.least k (record { covers = h.covers; each = parts.0 }), here.least k (record { covers = h.covers; within = parts.1 }));
  }

  pub so_far_first : (window bound : ℕ) → 1 ≤ window → bound ≡ (task_at sheet i).jitter → SoFar p m sbf sheet i window 0 bound []
  so_far_first window bound one e = record {
    lies = one;
    offsets = from_first p sheet i window one;
    ends = tt;
    least =
        record { holds = record { covers = omega (arith, e); each = tt }; least = λ k h. omega (arith, e, h.covers) };
  }

  module _ (window a bound : ℕ) (points : List Point) (so_far : SoFar p m sbf sheet i window a bound points) (x least : ℕ)
      (end : IsLeast (MeetsEnd p m sbf sheet i a) x) (here : IsLeast (BoundMeets p m sbf sheet i a x) least) where
    offsets_more : (next : ℕ) → IsNextPoint p sheet i a window (Some next) →
        map (λ q. q.offset) (points ++ point_of a x ∷ []) ++ points_from p sheet i window next ≡ points_below p sheet i window
    offsets_more next n =
        rw (
          map-append (λ (q : Point). q.offset) points (point_of a x ∷ []),
          append_assoc (map (λ (q : Point). q.offset) points)
              (a ∷ []) (points_from p sheet i window next),
        ) (rw (from_next p sheet i window a next n) at so_far.offsets)

    offsets_last : IsNextPoint p sheet i a window None → map (λ q. q.offset) (points ++ point_of a x ∷ []) ≡ points_below p sheet i window
    offsets_last n = rw (map-append (λ (q : Point). q.offset) points (point_of a x ∷ [])) (rw (from_last p sheet i window a n) at so_far.offsets)

    pub so_far_more : (next : ℕ) → IsNextPoint p sheet i a window (Some next) →
        SoFar p m sbf sheet i window next (max least bound) (points ++ point_of a x ∷ [])
    so_far_more next n = record {
      lies = n.0;
      offsets = offsets_more next n;
      ends =
          each_push _ points (point_of a x) so_far.ends end;
      least = bound_more points a x bound least so_far.least here;
    }

    pub so_far_last : IsLeast (IsWindow p m sbf sheet i) window → IsNextPoint p sheet i a window None →
        IsBestEntry p m sbf sheet i (record { window = window; bound = max least bound; points = points ++ point_of a x ∷ []; terms = [] })
    so_far_last w n = record {
      window = w;
      offsets = offsets_last n;
      ends =
          each_push _ points (point_of a x) so_far.ends end;
      bound = bound_more points a x bound least so_far.least here;
      plain = refl;
    }

-- while one is still to be listed, there are more points than are listed
pub so_far_many : (p : PolicyMeaning) (m : CutMeaning) (sbf : ℕ → ℕ) (sheet : SheetParts) (i window a bound : ℕ)
    (points : List Point) → SoFar p m sbf sheet i window a bound points →
    length points < length (points_below p sheet i window)
so_far_many p m sbf sheet i window a bound points so_far =
    let offsets = map (λ (q : Point). q.offset) points in
    omega (
      arith,
      ap length so_far.offsets,
      length-append offsets (points_from p sheet i window a),
      length-map points (λ (q : Point). q.offset),
      from_some p sheet i window a,
    )

pub points_some : (p : PolicyMeaning) (sheet : SheetParts) (i window : ℕ) (points : List Point) → 1 ≤ window →
    map (λ q. q.offset) points ≡ points_below p sheet i window → 1 ≤ length points
points_some p sheet i window points one e =
    omega (arith, ap length e, length-map points (λ (q : Point). q.offset), ap length (from_first p sheet i window one), from_some p sheet i window 0)
