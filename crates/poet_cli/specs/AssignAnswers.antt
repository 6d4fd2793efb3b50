-- The answer of `assign`, and what its text says.
use Rattle.std.specs.Prelude.{◌≡◌, ℕ, List, [], ◌∷◌, ◌++◌, map, length, codes, Result, Ok, Err}
use Rattle.task_sheet.specs.declared.tasks.Task.{Task}
use Rattle.task_sheet.specs.SheetParts.{SheetParts}
use Rattle.policy.specs.Policies.{fp_meaning}
use Rattle.preemption.specs.Kinds.{per_task_meaning}
use Rattle.supply.specs.Promises.{sbf_of}
use Rattle.schedule_laws.specs.Bounded.{AreBounded}
use Rattle.assign.specs.declared.assignment.Placed.{Placed}
use Rattle.assign.specs.declared.assignment.AssignRefusal.{AssignRefusal}
use Rattle.assign.specs.declared.assignment.AssignRefusal.TheVariants as assign
use Rattle.assign.specs.Sheets.{sheet_by, AreGood}
use Rattle.assign.specs.Assignment.{priority_in, IsAssignment, IsOrder, AreInTime, IsStuck, NoneGood}
use Rattle.assign.specs.Outcome.{assignment_of}
use Rattle.poet_text.specs.declared.refusal.Refusal.TheVariants.{Memory}
use Rattle.poet_text.specs.declared.printed.Printed.TheVariants as printed
use Rattle.poet_text.specs.Endings.{Ending}
use Rattle.poet_text.specs.Printing.{counted, no_order_text}

-- task NAME priority P bound R
unfoldable pub place_line : Task → Placed → List ℕ
place_line task place =
    codes "task " ++ (task.name ++ (counted (codes " priority ") place.priority ++ (counted (codes " bound ") place.bound ++ codes "\n")))

-- a line for each task and its place
abbrev pub places_text : List Task → List Placed → List ℕ
places_text [] places = []
places_text (task ∷ tasks) [] = []
places_text (task ∷ tasks) (place ∷ places) = place_line task place ++ places_text tasks places

unfoldable pub assigned_text : SheetParts → List Placed → List ℕ
assigned_text sheet places = codes "assigned\n" ++ places_text sheet.tasks places

-- the assignment up to the horizon, by the sheet's own preemption and supply
abbrev pub assignment_for : SheetParts → ℕ → Result (List Placed) AssignRefusal
assignment_for sheet horizon = assignment_of per_task_meaning (sbf_of sheet.supply) sheet horizon

-- what is printed of it: the places, or the level that no task may take
abbrev pub assigned_by : SheetParts → Result (List Placed) AssignRefusal → Ending
assigned_by sheet (Ok places) = Ok (printed.Done (assigned_text sheet places))
assigned_by sheet (Err (assign.NoOrder level)) = Ok (printed.JudgedNo (no_order_text level))
assigned_by sheet (Err assign.Memory) = Err Memory

-- the answer of `assign` over a sheet
abbrev pub assign_by : ℕ → SheetParts → Ending
assign_by horizon sheet = assigned_by sheet (assignment_for sheet horizon)

-- the tasks have the priorities 1 to n, level by level each that of the first task that is good there; with them every
-- task is good, and in every run that complies with the sheet of these priorities every job whose arrival plus its
-- task's bound, which is at most the deadline, lies within the run is done by then; and the text tells the places
pub record OrderHolds (sheet : SheetParts) (horizon : ℕ) (text : List ℕ) : Type 0 where
  pub places : List Placed
  pub assigned : IsAssignment per_task_meaning (sbf_of sheet.supply) sheet horizon places
  pub order : IsOrder (length sheet.tasks) places
  pub good : AreGood per_task_meaning (sbf_of sheet.supply) sheet horizon (priority_in places)
  pub in_time : AreInTime sheet places
  pub bounded : AreBounded fp_meaning per_task_meaning (sbf_of sheet.supply)
      (sheet_by sheet (priority_in places)) (map (λ p. p.bound) places)
  pub printed : text ≡ assigned_text sheet places

-- the levels below one are filled, and no task may take it; no priorities at all make every task good; and the text
-- tells this level
pub record NoOrderHolds (sheet : SheetParts) (horizon : ℕ) (text : List ℕ) : Type 0 where
  pub level : ℕ
  pub stuck : IsStuck per_task_meaning (sbf_of sheet.supply) sheet horizon level
  pub none : NoneGood per_task_meaning (sbf_of sheet.supply) sheet horizon
  pub printed : text ≡ no_order_text level
