-- What is assigned is what the function gives.
use Rattle.std.proofs.Common.{◌≡◌, ℕ, zero, suc, ◌+◌, ◌-◌, ◌<◌, ◌≤◌, ◌==◌, nat_le, Bool, true, false, cond, Option, Some, None, List, [], ◌∷◌, length, get_or, Ok, Err}
use Rattle.std.proofs.Common.{refl, sym, ap, ◌∙◌, inl, inr, arith, eq-eqb}
use Rattle.std.proofs.lemmas.Bool.{cases_eq, cases_lt, cases_Bool, ne_eqb, le-leb, leb-true}
use Rattle.std.proofs.lemmas.List.{ext_get_or}
use Rattle.lists.proofs.FirstFacts.{first_stays, none_from}
use Rattle.task_sheet.specs.declared.tasks.Task.{Task}
use Rattle.task_sheet.specs.SheetParts.{SheetParts}
use Rattle.task_sheet.specs.Sheets.{task_at, IsValidSheet}
use Rattle.policy.specs.Policies.{fp_meaning}
use Rattle.preemption.specs.CutMeaning.{CutMeaning}
use Rattle.solver.specs.Bounds.{IsLeastBound, bound_of, HasOneBound, TasksHaveOneBound}
use Rattle.assign.specs.declared.assignment.Placed.{Placed}
use Rattle.assign.specs.declared.assignment.AssignRefusal.{AssignRefusal}
use Rattle.assign.specs.declared.assignment.AssignRefusal.TheVariants.{NoOrder}
use Rattle.assign.specs.Sheets.{level_in, sheet_in, ServesAny, IsGood}
use Rattle.assign.specs.Assignment.{is_placed, MayFollow, Follows, AreFilled, no_place, place_at, HavePlaces, IsStuck}
use Rattle.assign.specs.Outcome.{in_time, bound_after, with_bound, next_of, numbers, with_next, fill_next, levels_of, place_of, places_from, as_places, assignment_of}
use Rattle.assign.proofs.SheetFacts.{task_by, count_by, valid_in}
use Rattle.assign.proofs.OrderFacts.{apart, all_placed, placed_other}
use Rattle.assign.proofs.TrialFacts.{none_serves, is_good, served_by_any, too_late}

if_true : {A : Type 0} (b : Bool) (x y : A) → b ≡ true → cond b x y ≡ x
if_true true x y h = refl
if_true false x y h = absurd (cc)

if_false : {A : Type 0} (b : Bool) (x y : A) → b ≡ false → cond b x y ≡ y
if_false true x y h = absurd (cc)
if_false false x y h = refl

same_place : (p : Placed) (level bound : ℕ) → p.priority ≡ level → p.bound ≡ bound → record { priority = level; bound = bound } ≡ p
same_place p level bound e f = rw (← e, ← f) refl

-- each task of the list with its bound
abbrev pairs : List Placed → List ℕ → List (ℕ × ℕ)
pairs places [] = []
pairs places (i ∷ before) = (i, (place_at places i).bound) ∷ pairs places before

numbers_of : (places : List Placed) (order : List ℕ) → numbers (pairs places order) ≡ order
numbers_of places [] = refl
numbers_of places (i ∷ before) = ap (λ (rest : List ℕ). i ∷ rest) (numbers_of places before)

pairs_count : (places : List Placed) (order : List ℕ) → length (pairs places order) ≡ length order
pairs_count places [] = refl
pairs_count places (i ∷ before) = omega (arith, pairs_count places before)

places_count : (levels : List (ℕ × ℕ)) (from n : ℕ) → length (places_from levels from n) ≡ n
places_count levels from zero = refl
places_count levels from (suc n) = omega (arith, places_count levels (suc from) n)

nth_place : (levels : List (ℕ × ℕ)) (from n o : ℕ) → o < n → get_or (places_from levels from n) o no_place ≡ place_of levels (from + o)
nth_place levels from zero o l = absurd (omega arith)
nth_place levels from (suc n) zero l = let e : from ≡ from + 0 = omega arith in ap (place_of levels) e
nth_place levels from (suc n) (suc o) l =
    let e : suc from + o ≡ from + suc o = omega arith in
    nth_place levels (suc from) n o (omega arith) ∙ ap (place_of levels) e

module _ (m : CutMeaning) (sbf : ℕ → ℕ) (sheet : SheetParts) (horizon : ℕ) where
  place_is : (places : List Placed) (order : List ℕ) → HavePlaces m sbf sheet horizon places order → (i : ℕ) → is_placed order i ≡ true →
      place_of (pairs places order) i ≡ place_at places i
  place_is places [] have i t = absurd (let clash : false ≡ true = t in cc)
  place_is places (k ∷ before) have i t =
      let level = length (pairs places before) + 1 in
      let bound = (place_at places k).bound in
      let own : record { priority = level; bound = bound } ≡ place_at places k =
      same_place (place_at places k) level bound (omega (arith, have.0.level, pairs_count places before)) refl in
      elim (cases_eq i k) [
        | inl e ↦
            if_true (i == k) (record { priority = level; bound = bound }) (place_of (pairs places before) i) (eq-eqb i k e) ∙ own ∙
            ap (place_at places) (sym e)
        | inr other ↦
            let rest : is_placed before i ≡ true = sym (placed_other k before i other) ∙ t in
            if_false (i == k) (record { priority = level; bound = bound }) (place_of (pairs places before) i) (ne_eqb i k other) ∙
            place_is places before have.1 i rest
      ]

  -- once a level cannot be filled nothing follows
  after_stuck : (k d : ℕ) (e : AssignRefusal) → levels_of m sbf sheet horizon k ≡ Err e → levels_of m sbf sheet horizon (k + d) ≡ Err e
  unfolding levels_of
  after_stuck k zero e h = let s : k + 0 ≡ k = omega arith in ap (levels_of m sbf sheet horizon) s ∙ h
  after_stuck k (suc d) e h =
      let s : k + suc d ≡ suc (k + d) = omega arith in
      ap (levels_of m sbf sheet horizon) s ∙ ap (fill_next m sbf sheet horizon (suc (k + d))) (after_stuck k d e h)

  module _ (valid : IsValidSheet sheet) (served : ServesAny m sheet) (one : TasksHaveOneBound fp_meaning m sbf) where
    bounds : (order : List ℕ) → length order ≤ length sheet.tasks → (i : ℕ) → i < length sheet.tasks →
        HasOneBound fp_meaning m sbf (sheet_in sheet order) horizon i
    bounds order few i b =
        let levels = level_in (length sheet.tasks + 1) order in
        one (sheet_in sheet order) (valid_in sheet valid order few)
        (served_by_any m sheet levels served) horizon i (omega (arith, b, count_by sheet levels))

    deadline_is : (order : List ℕ) (i : ℕ) → i < length sheet.tasks → (task_at (sheet_in sheet order) i).deadline ≡ (task_at sheet i).deadline
    deadline_is order i b = ap (λ (t : Task). t.deadline) (task_by sheet (level_in (length sheet.tasks + 1) order) i b)

    module _ (before : List ℕ) (short : length before < length sheet.tasks) (i : ℕ) (in_range : i < length sheet.tasks) where
      its_bound : HasOneBound fp_meaning m sbf (sheet_in sheet (i ∷ before)) horizon i
      its_bound = bounds (i ∷ before) (omega (arith, short)) i in_range

      none_in_time : (found : Option ℕ) → IsLeastBound fp_meaning m sbf (sheet_in sheet (i ∷ before)) horizon i found →
          (IsGood m sbf (sheet_in sheet (i ∷ before)) horizon i → ⊥) → in_time (task_at sheet i).deadline found ≡ None
      none_in_time None is bad = refl
      none_in_time (Some bound) is bad = elim (cases_Bool (nat_le bound (task_at sheet i).deadline)) [
        | inl t ↦ absurd (bad (is_good m sbf (sheet_in sheet (i ∷ before)) horizon i bound (record {
          least = is;
          served = its_bound.serves bound is;
          in_time = omega (arith, leb-true _ _ t, deadline_is (i ∷ before) i in_range);
        })))
        | inr f ↦ if_false (nat_le bound (task_at sheet i).deadline) (Some bound) None f
      ]

      tried_bound : Option ℕ
      tried_bound = bound_of fp_meaning m sbf (sheet_in sheet (i ∷ before)) horizon i

      none_there : (MayFollow m sbf sheet horizon before i → ⊥) → bound_after m sbf sheet horizon before i ≡ None
      unfolding tried_bound
      none_there bad = elim (cases_Bool (is_placed before i)) [
        | inl t ↦ if_true (is_placed before i) None (in_time (task_at sheet i).deadline tried_bound) t
        | inr f ↦
            if_false (is_placed before i) None (in_time (task_at sheet i).deadline tried_bound) f ∙
            none_in_time tried_bound its_bound.exists (λ good. bad (record { task = in_range; left = f; good = good }))
      ]

      some_found : (found : Option ℕ) → IsLeastBound fp_meaning m sbf (sheet_in sheet (i ∷ before)) horizon i found →
          IsGood m sbf (sheet_in sheet (i ∷ before)) horizon i →
          (bound : ℕ) × IsLeastBound fp_meaning m sbf (sheet_in sheet (i ∷ before)) horizon i (Some bound)
      some_found None is good = absurd (none_serves m sbf (sheet_in sheet (i ∷ before)) horizon i is good)
      some_found (Some bound) is good = (bound, is)

      some_there : (bound : ℕ) → MayFollow m sbf sheet horizon before i →
          IsLeastBound fp_meaning m sbf (sheet_in sheet (i ∷ before)) horizon i (Some bound) → bound_after m sbf sheet horizon before i ≡ Some bound
      unfolding tried_bound
      some_there bound may is =
          let s = sheet_in sheet (i ∷ before) in
          let found : bound_of fp_meaning m sbf s horizon i ≡ Some bound = its_bound.single _ (Some bound) its_bound.exists is in
          let early : bound ≤ (task_at sheet i).deadline = elim (cases_lt (task_at sheet i).deadline bound) [
            | inl late ↦ absurd (too_late m sbf s horizon i bound (task_at sheet i).deadline (its_bound.serves bound is)
                (sym (deadline_is (i ∷ before) i in_range)) late may.good)
            | inr le ↦ le
          ] in
          if_false (is_placed before i) None (in_time (task_at sheet i).deadline tried_bound) may.left ∙
          ap (in_time (task_at sheet i).deadline) found ∙
          if_true (nat_le bound (task_at sheet i).deadline) (Some bound) None (le-leb bound (task_at sheet i).deadline early)

    -- the first that may follow, with its bound
    next_is : (before : List ℕ) → length before < length sheet.tasks → (i bound : ℕ) → Follows m sbf sheet horizon before i →
        IsLeastBound fp_meaning m sbf (sheet_in sheet (i ∷ before)) horizon i (Some bound) →
        next_of m sbf sheet horizon before (length sheet.tasks) ≡ Some (i, bound)
    next_is before short i bound follows is =
        let tried = λ (k : ℕ). with_bound k (bound_after m sbf sheet horizon before k) in
        let found : ℕ × ℕ = (i, bound) in
        first_stays tried found (length sheet.tasks) i follows.may.task
        (none_from tried i (λ k l. ap (with_bound k) (none_there before short k (omega (arith, l, follows.may.task)) (follows.first k l))))
        (ap (with_bound i) (some_there before short i follows.may.task bound follows.may is))

    levels_are : (places : List Placed) (order : List ℕ) → AreFilled m sbf sheet horizon order → HavePlaces m sbf sheet horizon places order →
        length order ≤ length sheet.tasks → levels_of m sbf sheet horizon (length order) ≡ Ok (pairs places order)
    unfolding levels_of
    levels_are places [] filled have few = refl
    levels_are places (i ∷ before) filled have few =
        let level = suc (length before) in
        let rest = pairs places before in
        let n = length sheet.tasks in
        ap (fill_next m sbf sheet horizon level) (levels_are places before filled.1 have.1 (omega (arith, few))) ∙
        ap (λ (ks : List ℕ). with_next level rest (next_of m sbf sheet horizon ks n)) (numbers_of places before) ∙
        ap (with_next level rest) (next_is before (omega (arith, few)) i (place_at places i).bound filled.0 have.0.bound)

    -- what is assigned is what the function gives
    pub assignment_is : (places : List Placed) (order : List ℕ) → AreFilled m sbf sheet horizon order → HavePlaces m sbf sheet horizon places order →
        length order ≡ length sheet.tasks → length places ≡ length sheet.tasks → assignment_of m sbf sheet horizon ≡ Ok places
    unfolding assignment_of
    assignment_is places order filled have whole count =
        let n = length sheet.tasks in
        let levels : levels_of m sbf sheet horizon n ≡ Ok (pairs places order) =
        ap (levels_of m sbf sheet horizon) (sym whole) ∙ levels_are places order filled have (omega (arith, whole)) in
        let listed = places_from (pairs places order) 0 n in
        let placed : (o : ℕ) → o < n → is_placed order o ≡ true = all_placed n order (apart m sbf sheet horizon order filled) whole in
        let same : listed ≡ places =
        ext_get_or no_place listed places (omega (arith, places_count (pairs places order) 0 n, count))
        (λ o l. let b : o < n = omega (arith, l, places_count (pairs places order) 0 n) in
        let from : 0 + o ≡ o = omega arith in
        nth_place (pairs places order) 0 n o b ∙ ap (place_of (pairs places order)) from ∙ place_is places order have o (placed o b)) in
        ap (as_places n) levels ∙ ap (λ (ps : List Placed). Ok ps) same

    -- the levels of a list that is filled
    record HasLevels (order : List ℕ) : Type 0 where
      pub levels : List (ℕ × ℕ)
      pub are : levels_of m sbf sheet horizon (length order) ≡ Ok levels
      pub numbers_are : numbers levels ≡ order

    levels_exist : (order : List ℕ) → AreFilled m sbf sheet horizon order → length order ≤ length sheet.tasks → HasLevels order
    unfolding levels_of
    levels_exist [] filled few = record { levels = []; are = refl; numbers_are = refl }
    levels_exist (i ∷ before) filled few =
        let short : length before < length sheet.tasks = omega (arith, few) in
        let rest = levels_exist before filled.1 (omega (arith, few)) in
        let its = its_bound before short i filled.0.may.task in
        let found = some_found before short i filled.0.may.task _ its.exists filled.0.may.good in
        record {
          levels = (i, found.0) ∷ rest.levels;
          are =
              ap (fill_next m sbf sheet horizon (suc (length before))) rest.are ∙
              ap (λ (ks : List ℕ). with_next (suc (length before)) rest.levels (next_of m sbf sheet horizon ks (length sheet.tasks))) rest.numbers_are ∙
              ap (with_next (suc (length before)) rest.levels) (next_is before short i found.0 filled.0 found.1);
          numbers_are = ap (λ (w : List ℕ). i ∷ w) rest.numbers_are;
        }

    stuck_level : (order : List ℕ) → AreFilled m sbf sheet horizon order → length order < length sheet.tasks →
        ((i : ℕ) → MayFollow m sbf sheet horizon order i → ⊥) → levels_of m sbf sheet horizon (suc (length order)) ≡ Err (NoOrder (suc (length order)))
    unfolding levels_of
    stuck_level order filled short none =
        let rest = levels_exist order filled (omega (arith, short)) in
        let tried = λ (k : ℕ). with_bound k (bound_after m sbf sheet horizon order k) in
        let no_next : next_of m sbf sheet horizon order (length sheet.tasks) ≡ None =
        none_from tried (length sheet.tasks) (λ k l. ap (with_bound k) (none_there order short k l (none k))) in
        ap (fill_next m sbf sheet horizon (suc (length order))) rest.are ∙
        ap (λ (ks : List ℕ). with_next (suc (length order)) rest.levels (next_of m sbf sheet horizon ks (length sheet.tasks))) rest.numbers_are ∙
        ap (with_next (suc (length order)) rest.levels) no_next

    -- where a level cannot be filled the function says so
    pub refusal_is : (level : ℕ) → IsStuck m sbf sheet horizon level → assignment_of m sbf sheet horizon ≡ Err (NoOrder level)
    unfolding assignment_of
    refusal_is level stuck =
        let n = length sheet.tasks in
        let k = suc (length stuck.placed) in
        let e : k ≡ level = omega (arith, stuck.below) in
        let here : levels_of m sbf sheet horizon k ≡ Err (NoOrder k) =
        stuck_level stuck.placed stuck.filled (omega (arith, stuck.below, stuck.within)) stuck.none in
        let sum : k + (n - k) ≡ n = omega (arith, stuck.below, stuck.within) in
        let all : levels_of m sbf sheet horizon n ≡ Err (NoOrder k) =
        ap (levels_of m sbf sheet horizon) (sym sum) ∙ after_stuck k (n - k) (NoOrder k) here in
        ap (as_places n) all ∙ ap (λ (w : ℕ). Err (NoOrder w)) e
