-- What follows once every level is filled, and where one cannot be.
use Rattle.std.proofs.Common.{◌≡◌, ◌≢◌, ℕ, ◌+◌, ◌<◌, true, false, List, [], ◌∷◌, length, get_or, map, sym, ap, ◌∙◌, subst, inl, inr, arith}
use Rattle.std.proofs.lemmas.Bool.{cases_eq}
use Rattle.std.proofs.lemmas.List.{get_or-map}
use Rattle.task_sheet.specs.declared.tasks.Task.{Task}
use Rattle.task_sheet.specs.SheetParts.{SheetParts}
use Rattle.task_sheet.specs.Sheets.{task_at, IsValidSheet}
use Rattle.policy.specs.Policies.{fp_meaning}
use Rattle.preemption.specs.CutMeaning.{CutMeaning}
use Rattle.schedule_laws.specs.Bounded.{IsBounded, AreBounded}
use Rattle.abstract_rta.specs.Bounds.{PointsBound}
use Rattle.conditions.specs.Meets.{pairs_of}
use Rattle.conditions.proofs.MeetFacts.{pairs_count}
use Rattle.assign.specs.declared.assignment.Placed.{Placed}
use Rattle.assign.specs.Sheets.{level_in, sheet_by, sheet_in, ServesAny, IsGood, AreGood}
use Rattle.assign.specs.Assignment.{is_placed, no_place, place_at, priority_in, IsAssignment, IsOrder, AreInTime, IsStuck, NoneGood}
use Rattle.assign.specs.Trials.{IsHeld, IsSoFar}
use Rattle.assign.proofs.SheetFacts.{task_by, count_by, sheet_same, valid_in, placed_below, level_low, level_last}
use Rattle.assign.proofs.RaisedFacts.{KeepsCuts}
use Rattle.assign.proofs.OrderFacts.{AreApart, apart, all_placed, placed_other, level_other, none_good}
use Rattle.assign.proofs.TrialFacts.{served_by_any}

-- two tasks with levels have different ones
levels_differ : (above n : ℕ) (order : List ℕ) → AreApart n order → (i k : ℕ) → i ≢ k → is_placed order i ≡ true → is_placed order k ≡ true →
    level_in above order i ≢ level_in above order k
levels_differ above n [] h i k ne a b e = absurd (let clash : false ≡ true = a in cc)
levels_differ above n (j ∷ before) h i k ne a b e = elim (cases_eq i j) [
  | inl s ↦
      let other : k ≢ j = λ t. ne (s ∙ sym t) in
      let low = placed_below above before k (sym (placed_other j before k other) ∙ b) in
      omega (arith, e, low, level_other above j before k other, level_last above j before, ap (level_in above (j ∷ before)) s)
  | inr apart_i ↦ elim (cases_eq k j) [
    | inl t ↦
        let low = placed_below above before i (sym (placed_other j before i apart_i) ∙ a) in
        omega (arith, e, low, level_other above j before i apart_i, level_last above j before, ap (level_in above (j ∷ before)) t)
    | inr apart_k ↦
        levels_differ above n before h.2 i k ne (sym (placed_other j before i apart_i) ∙ a) (sym (placed_other j before k apart_k) ∙ b)
        (sym (level_other above j before i apart_i) ∙ e ∙ level_other above j before k apart_k)
  ]
]

module _ (m : CutMeaning) (sbf : ℕ → ℕ) (sheet : SheetParts) (horizon : ℕ) where
  module _ (level : ℕ) (trial : SheetParts) (places : List Placed) (order : List ℕ) (all : level ≡ length sheet.tasks + 1)
      (so_far : IsSoFar m sbf sheet horizon level trial places order) where
    whole : length order ≡ length sheet.tasks
    whole = omega (arith, so_far.below, all)

    pub assigned : IsAssignment m sbf sheet horizon places
    assigned = record { order = order; filled = so_far.filled; whole = whole; count = so_far.count; placed = so_far.placed }

    placed : (i : ℕ) → i < length sheet.tasks → is_placed order i ≡ true
    placed i b = all_placed (length sheet.tasks) order (apart m sbf sheet horizon order so_far.filled) whole i b

    held : (i : ℕ) → i < length sheet.tasks → IsHeld m sbf sheet horizon order i (place_at places i)
    held i b = so_far.held i b (placed i b)

    pub ordered : IsOrder (length sheet.tasks) places
    ordered = record {
      count = so_far.count;
      low = λ i b. omega (arith, (held i b).level, level_low (length sheet.tasks + 1) order i (omega arith));
      high = λ i b. omega (arith, (held i b).level, placed_below (length sheet.tasks + 1) order i (placed i b), whole);
      distinct = λ i k lt b e.
          let first : i < length sheet.tasks = omega arith in
          levels_differ (length sheet.tasks + 1) (length sheet.tasks) order (apart m sbf sheet horizon order so_far.filled) i k
          (λ s. absurd (omega (arith, s, lt))) (placed i first) (placed k b) (sym (held i first).level ∙ e ∙ (held k b).level);
    }

    same_sheet : sheet_in sheet order ≡ sheet_by sheet (priority_in places)
    same_sheet = sheet_same sheet (level_in (length sheet.tasks + 1) order) (priority_in places) (λ o b. sym (held o b).level)

    pub good : AreGood m sbf sheet horizon (priority_in places)
    good i b =
        let own = held i b in
        subst (λ (s : SheetParts). IsGood m sbf s horizon i) same_sheet (record { entry = own.entry; some = own.some; up_to = own.up_to; meets = own.meets })

    pub in_time : AreInTime sheet places
    in_time i b =
        let own = held i b in
        let deadline : (task_at (sheet_in sheet order) i).deadline ≡ (task_at sheet i).deadline =
        ap (λ (t : Task). t.deadline) (task_by sheet (level_in (length sheet.tasks + 1) order) i b) in
        omega (arith, own.meets.in_time, own.bound_is, deadline)

    bound_there : PointsBound fp_meaning m sbf → IsValidSheet sheet → ServesAny m sheet → (i : ℕ) → i < length sheet.tasks →
        IsBounded fp_meaning m sbf (sheet_in sheet order) i (place_at places i).bound
    bound_there law valid served i b =
        let own = held i b in
        let e = own.entry in
        subst (IsBounded fp_meaning m sbf (sheet_in sheet order) i) own.bound_is
        (law (sheet_in sheet order) (valid_in sheet valid order (omega (arith, whole))) (served_by_any m sheet (level_in (length sheet.tasks + 1) order) served)
        i e.window e.bound (pairs_of e.points) (omega (arith, b, count_by sheet (level_in (length sheet.tasks + 1) order))) own.meets.covers
        own.meets.window (omega (arith, own.some, pairs_count e.points)) own.meets.points)

    pub bounded : PointsBound fp_meaning m sbf → IsValidSheet sheet → ServesAny m sheet →
        AreBounded fp_meaning m sbf (sheet_by sheet (priority_in places)) (map (λ (p : Placed). p.bound) places)
    bounded law valid served i b =
        let here : i < length sheet.tasks = omega (arith, b, count_by sheet (priority_in places)) in
        let is : get_or (map (λ (p : Placed). p.bound) places) i 0 ≡ (place_at places i).bound =
        get_or-map (λ (p : Placed). p.bound) places i no_place 0 (omega (arith, here, so_far.count)) in
        subst (λ (s : SheetParts). IsBounded fp_meaning m sbf s i (get_or (map (λ (p : Placed). p.bound) places) i 0)) same_sheet
        (subst (IsBounded fp_meaning m sbf (sheet_in sheet order) i) (sym is) (bound_there law valid served i here))

  pub no_order : KeepsCuts m sbf sheet → (level : ℕ) → IsStuck m sbf sheet horizon level → IsStuck m sbf sheet horizon level × NoneGood m sbf sheet horizon
  no_order kept level stuck =
      (stuck, none_good m sbf sheet kept horizon stuck.placed stuck.filled (omega (arith, stuck.below, stuck.within)) stuck.none)
