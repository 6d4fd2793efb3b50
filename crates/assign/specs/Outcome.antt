-- The assignment as a function.
use Rattle.std.specs.Prelude.{◌≡◌, ℕ, zero, suc, ◌+◌, ◌==◌, nat_le, cond, Option, Some, None, List, [], ◌∷◌, map, length, Result, Ok, Err}
use Rattle.lists.specs.Firsts.{first_below}
use Rattle.task_sheet.specs.SheetParts.{SheetParts}
use Rattle.task_sheet.specs.Sheets.{task_at}
use Rattle.policy.specs.Policies.{fp_meaning}
use Rattle.preemption.specs.CutMeaning.{CutMeaning}
use Rattle.solver.specs.Bounds.{bound_of}
use Rattle.assign.specs.declared.assignment.Placed.{Placed}
use Rattle.assign.specs.declared.assignment.AssignRefusal.{AssignRefusal}
use Rattle.assign.specs.declared.assignment.AssignRefusal.TheVariants.{NoOrder, Memory}
use Rattle.assign.specs.Sheets.{sheet_in}
use Rattle.assign.specs.Assignment.{is_placed, no_place}

-- a bound, where it is at most the deadline
abbrev pub in_time : ℕ → Option ℕ → Option ℕ
in_time deadline None = None
in_time deadline (Some bound) = cond (nat_le bound deadline) (Some bound) None

-- the bound of task i at the next level, where it may take that
abbrev pub bound_after : CutMeaning → (ℕ → ℕ) → SheetParts → ℕ → List ℕ → ℕ → Option ℕ
bound_after m sbf sheet horizon before i =
    cond (is_placed before i) None (in_time (task_at sheet i).deadline (bound_of fp_meaning m sbf (sheet_in sheet (i ∷ before)) horizon i))

-- a task with its bound, where there is one
abbrev pub with_bound : ℕ → Option ℕ → Option (ℕ × ℕ)
with_bound i None = None
with_bound i (Some bound) = Some (i, bound)

-- the first of n tasks that may take the next level
abbrev pub next_of : CutMeaning → (ℕ → ℕ) → SheetParts → ℕ → List ℕ → ℕ → Option (ℕ × ℕ)
next_of m sbf sheet horizon before n = first_below (λ i. with_bound i (bound_after m sbf sheet horizon before i)) n

abbrev pub numbers : List (ℕ × ℕ) → List ℕ
numbers levels = map (λ q. q.0) levels

abbrev pub with_next : ℕ → List (ℕ × ℕ) → Option (ℕ × ℕ) → Result (List (ℕ × ℕ)) AssignRefusal
with_next level before None = Err (NoOrder level)
with_next level before (Some next) = Ok (next ∷ before)

abbrev pub fill_next : CutMeaning → (ℕ → ℕ) → SheetParts → ℕ → ℕ → Result (List (ℕ × ℕ)) AssignRefusal → Result (List (ℕ × ℕ)) AssignRefusal
fill_next m sbf sheet horizon level (Err e) = Err e
fill_next m sbf sheet horizon level (Ok before) = with_next level before (next_of m sbf sheet horizon (numbers before) (length sheet.tasks))

-- the first n levels filled, the last of them first: each task with its bound; or the level that has no task
unfoldable pub levels_of : CutMeaning → (ℕ → ℕ) → SheetParts → ℕ → ℕ → Result (List (ℕ × ℕ)) AssignRefusal
levels_of m sbf sheet horizon zero = Ok []
levels_of m sbf sheet horizon (suc n) = fill_next m sbf sheet horizon (suc n) (levels_of m sbf sheet horizon n)

-- the level and the bound of task i
abbrev pub place_of : List (ℕ × ℕ) → ℕ → Placed
place_of [] i = no_place
place_of (next ∷ before) i = cond (i == next.0) (record { priority = length before + 1; bound = next.1 }) (place_of before i)

-- those of n tasks from number i on
abbrev pub places_from : List (ℕ × ℕ) → ℕ → ℕ → List Placed
places_from levels i zero = []
places_from levels i (suc n) = place_of levels i ∷ places_from levels (suc i) n

abbrev pub as_places : ℕ → Result (List (ℕ × ℕ)) AssignRefusal → Result (List Placed) AssignRefusal
as_places n (Ok levels) = Ok (places_from levels 0 n)
as_places n (Err e) = Err e

-- the place of each task, or the level that has none
unfoldable pub assignment_of : CutMeaning → (ℕ → ℕ) → SheetParts → ℕ → Result (List Placed) AssignRefusal
assignment_of m sbf sheet horizon = as_places (length sheet.tasks) (levels_of m sbf sheet horizon (length sheet.tasks))

-- the refusal is that of the function, unless memory ran out
abbrev pub IsRefusal : CutMeaning → (ℕ → ℕ) → SheetParts → ℕ → AssignRefusal → Type 0
IsRefusal m sbf sheet horizon (NoOrder level) = assignment_of m sbf sheet horizon ≡ Err (NoOrder level)
IsRefusal m sbf sheet horizon Memory = Unit {0}
