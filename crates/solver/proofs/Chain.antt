use Rattle.std.proofs.Common.{◌≡◌, ℕ, zero, suc, ◌+◌, ◌-◌, ◌≤◌, false, Some, None, List, [], ◌∷◌, map, sym, ap, ◌∙◌, subst, arith, inl, inr}
use Rattle.std.specs.List.{AllByRecursion}
use Rattle.std.proofs.lemmas.Bool.{cases_Bool}
use Rattle.lists.specs.Searches.{IsLeast}
use Rattle.task_sheet.specs.SheetParts.{SheetParts}
use Rattle.policy.specs.PolicyMeaning.{PolicyMeaning}
use Rattle.policy.specs.Offsets.{compared_of, IsSame}
use Rattle.preemption.specs.CutMeaning.{CutMeaning}
use Rattle.demand.specs.Meeting.{MeetsEnd, MeetsBound, PointsMeet}
use Rattle.search_space.specs.Points.{is_point}
use Rattle.search_space.proofs.PointFacts.{same_before}
use Rattle.certificate.specs.declared.cert.Entry.{Entry}
use Rattle.certificate.specs.declared.cert.Point.{Point}
use Rattle.certificate.specs.declared.cert.Terms.{Terms}
use Rattle.certificate.specs.Text.{lines_of}
use Rattle.conditions.specs.Meets.{pairs_of, LinesTell, TaskMeets}
use Rattle.conditions.proofs.MeetFacts.{none_told}
use Rattle.solver.specs.Points.{passing, points_below}
use Rattle.solver.specs.Best.{IsBestEntry}
use Rattle.solver.proofs.Listing.{point_zero}

module _ (p : PolicyMeaning) (m : CutMeaning) (sbf : ℕ → ℕ) (sheet : SheetParts) (i window bound : ℕ) where
  not_point : (a : ℕ) → is_point p sheet i (suc a) ≡ false → IsSame p sheet i a (suc a)
  not_point a h =
      let d : suc a - 1 ≡ a = omega arith in
      subst (λ w. IsSame p sheet i w (suc a)) d (same_before p sheet i (suc a) h)

  abbrev pub MeetsBoth : Point → Type 0
  MeetsBoth q = MeetsEnd p m sbf sheet i q.offset q.end × MeetsBound p m sbf sheet i q.offset q.end bound

  -- the points from `from` on, where nothing has changed since the last point before
  chain : (n from last : ℕ) (qs : List Point) → suc from + n ≡ window → last ≤ from → IsSame p sheet i last from →
      map (λ q. q.offset) qs ≡ passing (is_point p sheet i) (suc from) n → AllByRecursion MeetsBoth qs →
      PointsMeet p m sbf sheet i window bound (Some last) (pairs_of qs)
  chain zero from last [] e le same offsets meet =
      let end : from ≡ window - 1 = omega arith in
      λ o l. same o l ∙ ap (λ (a : ℕ). compared_of p sheet i a o) end
  chain zero from last (q ∷ qs) e le same offsets meet = cc
  chain (suc n) from last [] e le same offsets meet = elim (cases_Bool (is_point p sheet i (suc from))) [
    | inl t ↦ let none : [] ≡ suc from ∷ passing (is_point p sheet i) (suc (suc from)) n = rw t at offsets in cc
    | inr f ↦ chain n (suc from) last [] (omega arith) (omega arith) (λ o l. same o l ∙ not_point from f o l) (rw f at offsets) meet
  ]
  chain (suc n) from last (q ∷ qs) e le same offsets meet = elim (cases_Bool (is_point p sheet i (suc from))) [
    | inl t ↦
        let listed : q.offset ∷ map (λ r. r.offset) qs ≡ suc from ∷ passing (is_point p sheet i) (suc (suc from)) n = rw t at offsets in
        let here : q.offset ≡ suc from = cc in
        let end : from ≡ q.offset - 1 = omega arith in (
          record {
            next = omega arith;
            below = omega arith;
            gap = λ o l. same o l ∙ ap (λ (a : ℕ). compared_of p sheet i a o) end;
            end = meet.0.0;
            within = meet.0.1;
          },
          chain n (suc from) q.offset qs (omega arith) (omega arith) (λ o l. ap (λ (a : ℕ). compared_of p sheet i a o) here) (cc) meet.1,
        )
    | inr f ↦ chain n (suc from) last (q ∷ qs) (omega arith) (omega arith) (λ o l. same o l ∙ not_point from f o l) (rw f at offsets) meet
  ]

chain_first : (p : PolicyMeaning) (m : CutMeaning) (sbf : ℕ → ℕ) (sheet : SheetParts) (i window bound : ℕ) (qs : List Point) →
    1 ≤ window → map (λ q. q.offset) qs ≡ points_below p sheet i window →
    AllByRecursion (MeetsBoth p m sbf sheet i window bound) qs → PointsMeet p m sbf sheet i window bound None (pairs_of qs)
unfolding points_below
chain_first p m sbf sheet i zero bound qs one offsets meet = absurd (omega arith)
chain_first p m sbf sheet i (suc n) bound [] one offsets meet =
    let none : [] ≡ 0 ∷ passing (is_point p sheet i) 1 n = rw (point_zero p sheet i) at offsets in
    cc
chain_first p m sbf sheet i (suc n) bound (q ∷ qs) one offsets meet =
    let listed : q.offset ∷ map (λ r. r.offset) qs ≡ 0 ∷ passing (is_point p sheet i) 1 n = rw (point_zero p sheet i) at offsets in
    let here : q.offset ≡ 0 = cc in (
      record { next = here; below = omega arith; gap = tt; end = meet.0.0; within = meet.0.1 },
      chain p m sbf sheet i (suc n) bound n 0 q.offset qs (omega arith) (omega arith) (λ o l. ap (λ (a : ℕ). compared_of p sheet i a o) here) (cc) meet.1,
    )

module _ (p : PolicyMeaning) (m : CutMeaning) (sbf : ℕ → ℕ) (sheet : SheetParts) (i : ℕ) where
  holds_each : (bound window : ℕ) (qs : List Point) → AllByRecursion (λ q. IsLeast (MeetsEnd p m sbf sheet i q.offset) q.end) qs →
      AllByRecursion (λ q. MeetsBound p m sbf sheet i q.offset q.end bound) qs → AllByRecursion (MeetsBoth p m sbf sheet i window bound) qs
  holds_each bound window [] ends meet = ends
  holds_each bound window (q ∷ qs) ends meet = ((ends.0.holds, meet.0), holds_each bound window qs ends.1 meet.1)

  -- a best entry meets its conditions
  pub entry_meets : (e : Entry) → IsBestEntry p m sbf sheet i e → TaskMeets p m sbf sheet false i e
  entry_meets e best = record {
    covers = best.bound.holds.covers;
    window = best.window.holds;
    in_time = tt;
    points = chain_first p m sbf sheet i e.window e.bound e.points best.window.holds.positive best.offsets
        (holds_each e.bound e.window e.points best.ends best.bound.holds.each);
    terms = subst (λ (ts : List Terms). LinesTell p m sheet i (lines_of e.points ts)) (sym best.plain) (none_told p m sbf sheet i e.points);
  }
