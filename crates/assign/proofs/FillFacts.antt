-- One level filled, or found to have no task.
use Rattle.std.proofs.Common.{◌≡◌, ◌≢◌, ℕ, ◌+◌, ◌<◌, ◌≤◌, Bool, true, false, Some, None, List, [], ◌∷◌, length, refl, sym, ap, ◌∙◌, subst, inl, inr, arith}
use Rattle.std.proofs.Math.ListN.{set}
use Rattle.std.proofs.lemmas.Bool.{cases_eq, cases_lt, cases_Bool}
use Rattle.std.proofs.lemmas.List.{get_or-set_same, get_or-set_other, length-set}
use Rattle.task_sheet.specs.declared.tasks.Task.{Task}
use Rattle.task_sheet.specs.SheetParts.{SheetParts}
use Rattle.task_sheet.specs.Sheets.{task_at}
use Rattle.task_sheet.specs.Priorities.{with_priority}
use Rattle.preemption.specs.CutMeaning.{CutMeaning}
use Rattle.preemption.specs.CutLaws.{Serves}
use Rattle.assign.specs.declared.assignment.Placed.{Placed}
use Rattle.assign.specs.Sheets.{level_in, sheet_in, ServesAny, IsGood}
use Rattle.assign.specs.Assignment.{is_placed, MayFollow, no_place, place_at, HasPlace, HavePlaces, IsStuck}
use Rattle.assign.specs.Trials.{IsGoodBound, IsTried, IsHeld, IsSoFar, IsFilledTo}
use Rattle.assign.proofs.SheetFacts.{task_by, count_by, taken_is, given_back, left_above, placed_below, level_last}
use Rattle.assign.proofs.RaisedFacts.{KeepsCuts, plain, plain_up_to, entry_raised}
use Rattle.assign.proofs.OrderFacts.{placed_last, placed_other, level_other, held_raised}
use Rattle.assign.proofs.TrialFacts.{served_by_any, bound_meets, is_good}

-- the levels below this one are filled, and no task before i may take it
pub record Searching (m : CutMeaning) (sbf : ℕ → ℕ) (sheet : SheetParts) (horizon level i : ℕ) (trial : SheetParts) (places : List Placed) : Type 0 where
  pub order : List ℕ
  pub so_far : IsSoFar m sbf sheet horizon level trial places order
  pub none : (k : ℕ) → k < i → MayFollow m sbf sheet horizon order k → ⊥

-- the places of the list are not that of another task
keep_places : (m : CutMeaning) (sbf : ℕ → ℕ) (sheet : SheetParts) (horizon : ℕ) (places : List Placed) (i : ℕ) (p : Placed) (order : List ℕ) →
    is_placed order i ≡ false → HavePlaces m sbf sheet horizon places order → HavePlaces m sbf sheet horizon (set places i p) order
keep_places m sbf sheet horizon places i p [] left have = tt
keep_places m sbf sheet horizon places i p (k ∷ before) left have = elim (cases_eq k i) [
  | inl e ↦
      let here : is_placed (k ∷ before) i ≡ true = ap (is_placed (k ∷ before)) (sym e) ∙ placed_last k before in
      absurd (let clash : true ≡ false = sym here ∙ left in cc)
  | inr other ↦
      let ne : i ≢ k = λ e. other (sym e) in
      let same : place_at places k ≡ place_at (set places i p) k = sym (get_or-set_other places i k p no_place other) in (
        subst (HasPlace m sbf sheet horizon before k) same have.0,
        keep_places m sbf sheet horizon places i p before (sym (placed_other k before i ne) ∙ left) have.1,
      )
]

module _ (m : CutMeaning) (sbf : ℕ → ℕ) (sheet : SheetParts) (horizon : ℕ) where
  pub begun : (trial : SheetParts) (places : List Placed) → trial ≡ sheet_in sheet [] → length places ≡ length sheet.tasks →
      IsSoFar m sbf sheet horizon 1 trial places []
  begun trial places e count = record { filled = tt; below = refl; trial_is = e; count = count; placed = tt; held = λ i b t. absurd (cc) }

  pub trial_count : (level i : ℕ) (trial : SheetParts) (places : List Placed) → Searching m sbf sheet horizon level i trial places →
      length trial.tasks ≡ length sheet.tasks
  trial_count level i trial places at =
      ap (λ (s : SheetParts). length s.tasks) at.so_far.trial_is ∙ count_by sheet (level_in (length sheet.tasks + 1) at.order)

  module _ (kept : KeepsCuts m sbf sheet) (served : ServesAny m sheet) (level i : ℕ) (within : level ≤ length sheet.tasks) (trial : SheetParts)
      (places : List Placed) (at : Searching m sbf sheet horizon level i trial places) where
    module _ (in_range : i < length sheet.tasks) where
      its_level : (task_at trial i).priority ≡ level_in (length sheet.tasks + 1) at.order i
      its_level = ap (λ (s : SheetParts). (task_at s i).priority) at.so_far.trial_is ∙
          ap (λ (t : Task). t.priority) (task_by sheet (level_in (length sheet.tasks + 1) at.order) i in_range)

      -- a task below this level has its own
      pub passed : (task_at trial i).priority < level → Searching m sbf sheet horizon level (i + 1) trial places
      passed low = record {
        order = at.order;
        so_far = at.so_far;
        none = λ k b may. elim (cases_lt k i) [
          | inl lt ↦ at.none k lt may
          | inr ge ↦
              let e : k ≡ i = omega arith in
              let left : is_placed at.order i ≡ false = ap (is_placed at.order) (sym e) ∙ may.left in
              absurd (omega (arith, its_level, low, within, left_above (length sheet.tasks + 1) at.order i left))
        ];
      }

      module _ (open_yet : level ≤ (task_at trial i).priority) where
        still_left : is_placed at.order i ≡ false
        still_left = elim (cases_Bool (is_placed at.order i)) [
          | inl t ↦ absurd (omega (arith, its_level, open_yet, at.so_far.below, placed_below (length sheet.tasks + 1) at.order i t))
          | inr f ↦ f
        ]

        pub tried_is : with_priority trial i level ≡ sheet_in sheet (i ∷ at.order)
        tried_is =
            ap (λ (s : SheetParts). with_priority s i level) at.so_far.trial_is ∙
            ap (with_priority (sheet_in sheet at.order) i) (sym at.so_far.below) ∙ taken_is sheet at.order i in_range

        pub trial_served : Serves m (with_priority trial i level)
        trial_served = subst (Serves m) (sym tried_is) (served_by_any m sheet (level_in (length sheet.tasks + 1) (i ∷ at.order)) served)

        restored : with_priority (with_priority trial i level) i (task_at trial i).priority ≡ sheet_in sheet at.order
        restored =
            ap (λ (s : SheetParts). with_priority s i (task_at trial i).priority) tried_is ∙
            ap (with_priority (sheet_in sheet (i ∷ at.order)) i) (its_level ∙ left_above (length sheet.tasks + 1) at.order i still_left) ∙
            given_back sheet at.order i in_range still_left

        pub failed : (new : SheetParts) → IsTried m sbf trial new i level horizon None → Searching m sbf sheet horizon level (i + 1) new places
        failed new tried =
            let so_far = at.so_far in
            record {
              order = at.order;
              so_far = record {
                filled = so_far.filled;
                below = so_far.below;
                trial_is = tried.0 ∙ restored;
                count = so_far.count;
                placed = so_far.placed;
                held = so_far.held;
              };
              none = λ k b may. elim (cases_lt k i) [
                | inl lt ↦ at.none k lt may
                | inr ge ↦
                    let e : k ≡ i = omega arith in
                    let good : IsGood m sbf (sheet_in sheet (i ∷ at.order)) horizon i =
                    subst (λ (w : ℕ). IsGood m sbf (sheet_in sheet (w ∷ at.order)) horizon w) e may.good in
                    tried.1 (subst (λ (s : SheetParts). IsGood m sbf s horizon i) (sym tried_is) good)
              ];
            }

        module _ (bound : ℕ) (good : IsGoodBound m sbf (sheet_in sheet (i ∷ at.order)) horizon i bound) where
          abbrev place : Placed
          place = record { priority = level; bound = bound }

          own_place : place_at (set places i place) i ≡ place
          own_place = get_or-set_same places i place no_place (omega (arith, at.so_far.count))

          hold_own : IsHeld m sbf sheet horizon (i ∷ at.order) i place
          hold_own = record {
            level = sym at.so_far.below ∙ sym (level_last (length sheet.tasks + 1) i at.order);
            entry = good.served.entry;
            some = good.served.serves.some;
            up_to = good.served.serves.up_to;
            meets = bound_meets m sbf (sheet_in sheet (i ∷ at.order)) horizon i bound good;
            bound_is = good.served.bound_is;
          }

          hold_other : (k : ℕ) → k < length sheet.tasks → is_placed (i ∷ at.order) k ≡ true → k ≢ i →
              IsHeld m sbf sheet horizon (i ∷ at.order) k (place_at (set places i place) k)
          hold_other k b t other =
              let above = length sheet.tasks + 1 in
              let before : is_placed at.order k ≡ true = sym (placed_other i at.order k other) ∙ t in
              let held = at.so_far.held k b before in
              let same : place_at places k ≡ place_at (set places i place) k = sym (get_or-set_other places i k place no_place other) in
              subst (IsHeld m sbf sheet horizon (i ∷ at.order) k) same (record {
                level = held.level ∙ sym (level_other above i at.order k other);
                entry = plain held.entry;
                some = held.some;
                up_to = plain_up_to horizon held.entry held.up_to;
                meets = entry_raised m sbf sheet kept (level_in above at.order) (level_in above (i ∷ at.order)) k b
                    (held_raised m sbf sheet kept horizon at.order i k (omega (arith, at.so_far.below, within)) still_left before) held.entry held.meets;
                bound_is = held.bound_is;
              })

          filled_on : (new : SheetParts) → new ≡ sheet_in sheet (i ∷ at.order) →
              IsSoFar m sbf sheet horizon (level + 1) new (set places i place) (i ∷ at.order)
          filled_on new e = record {
            filled = (
              record {
                may = record {
                  task = in_range;
                  left = still_left;
                  good = is_good m sbf (sheet_in sheet (i ∷ at.order)) horizon i bound good;
                };
                first = at.none;
              },
              at.so_far.filled,
            );
            below = omega (arith, at.so_far.below);
            trial_is = e;
            count = length-set places i place ∙ at.so_far.count;
            placed = (
              subst (HasPlace m sbf sheet horizon at.order i) (sym own_place) (record { level = sym at.so_far.below; bound = good.least }),
              keep_places m sbf sheet horizon places i place at.order still_left at.so_far.placed,
            );
            held = λ k b t. elim (cases_eq k i) [
              | inl s ↦
                  subst (λ (w : ℕ). IsHeld m sbf sheet horizon (i ∷ at.order) w (place_at (set places i place) w)) (sym s)
                  (subst (IsHeld m sbf sheet horizon (i ∷ at.order) i) (sym own_place) hold_own)
              | inr other ↦ hold_other k b t other
            ];
          }

        pub found : (new : SheetParts) (bound : ℕ) → IsTried m sbf trial new i level horizon (Some bound) →
            IsFilledTo m sbf sheet horizon level new (set places i (record { priority = level; bound = bound })) true
        found new bound tried =
            let e : new ≡ sheet_in sheet (i ∷ at.order) = tried.0 ∙ tried_is in
            (i ∷ at.order, filled_on bound (subst (λ (s : SheetParts). IsGoodBound m sbf s horizon i bound) e tried.1) new e)

    pub stuck : length sheet.tasks ≤ i → IsFilledTo m sbf sheet horizon level trial places false
    stuck over = record {
      placed = at.order;
      filled = at.so_far.filled;
      below = at.so_far.below;
      within = within;
      none = λ k may. at.none k (omega (arith, may.task, over)) may;
    }

-- by what is answered
pub filled_when : (m : CutMeaning) (sbf : ℕ → ℕ) (sheet : SheetParts) (horizon level : ℕ) (trial : SheetParts) (places : List Placed) (b : Bool) →
    b ≡ true → IsFilledTo m sbf sheet horizon level trial places b → (order : List ℕ) × IsSoFar m sbf sheet horizon (level + 1) trial places order
filled_when m sbf sheet horizon level trial places true e filled = filled
filled_when m sbf sheet horizon level trial places false e filled = absurd (cc)

pub stuck_when : (m : CutMeaning) (sbf : ℕ → ℕ) (sheet : SheetParts) (horizon level : ℕ) (trial : SheetParts) (places : List Placed) (b : Bool) →
    b ≡ false → IsFilledTo m sbf sheet horizon level trial places b → IsStuck m sbf sheet horizon level
stuck_when m sbf sheet horizon level trial places true e filled = absurd (cc)
stuck_when m sbf sheet horizon level trial places false e filled = filled
