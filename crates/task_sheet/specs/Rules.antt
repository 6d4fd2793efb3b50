use Rattle.std.specs.Prelude.{ℕ, ℤ, pos, neg_ℤ, ◌+◌, ◌==◌, ◌&&◌, Bool, true, not, List, [], ◌∷◌, ◌++◌, length, nat_le, nat_lt, int_le, sum, Result}
use Rattle.std.specs.Prelude.{Ok, bytes_eq}
use Rattle.std.specs.List.{list_all, list_any}
use Rattle.lists.specs.Limits.{greatest_number, most_parts, most_tasks}
use Rattle.lists.specs.Ranges.{is_between}
use Rattle.task_sheet.specs.declared.tasks.PolicyKind.{PolicyKind}
use Rattle.task_sheet.specs.declared.tasks.SupplySpec.{SupplySpec}
use Rattle.task_sheet.specs.declared.tasks.SupplySpec.TheVariants.{Unit as Whole, Promised}
use Rattle.task_sheet.specs.declared.tasks.Cut.{Cut}
use Rattle.task_sheet.specs.declared.tasks.Cut.TheVariants.{Full, Never, Fixed, Floating}
use Rattle.task_sheet.specs.declared.tasks.Task.{Task}
use Rattle.task_sheet.specs.declared.refusal.Place.TheVariants as places
use Rattle.task_sheet.specs.declared.refusal.Field.TheVariants as fields
use Rattle.task_sheet.specs.declared.refusal.SheetRefusal.{SheetRefusal}
use Rattle.task_sheet.specs.declared.refusal.SheetRefusal.TheVariants.{Range, Order, Twice, Sum}
use Rattle.task_sheet.specs.SheetParts.{SheetParts}
use Rattle.task_sheet.specs.Refusing.{◌>>=◌, holds}

-- the greatest jitter of a task
unfoldable pub most_jitter : ℕ
most_jitter = greatest_number

-- how far from 0 a priority point lies at most
unfoldable pub most_point : ℕ
most_point = greatest_number

abbrev pub is_priority_point : ℤ → Bool
is_priority_point q = int_le (neg_ℤ (pos most_point)) q && int_le q (pos most_point)

-- a number of a sheet that may not be 0
abbrev pub is_in_range : ℕ → Bool
is_in_range n = is_between 1 greatest_number n

-- 1 to 32 bytes, each printable and no space
abbrev pub is_name : List ℕ → Bool
is_name bytes = is_between 1 32 (length bytes) && list_all (is_between 33 126) bytes

-- from one count to another, each in range
abbrev pub are_in_range : ℕ → List ℕ → Bool
are_in_range most numbers = is_between 1 most (length numbers) && list_all is_in_range numbers

-- each number is greater than the one before
abbrev pub rise_above : ℕ → List ℕ → Bool
rise_above low [] = true
rise_above low (n ∷ numbers) = nat_lt low n && rise_above n numbers

abbrev pub last_number : ℕ → List ℕ → ℕ
last_number before [] = before
last_number before (n ∷ numbers) = last_number n numbers

-- the times rise, up to the horizon at most
abbrev pub are_times : ℕ → List ℕ → Bool
are_times horizon times = rise_above 0 times && nat_le (last_number 0 times) horizon

abbrev pub promise_rule : ℕ → List ℕ → Result (Unit {0}) SheetRefusal
promise_rule horizon times =
    holds (is_in_range horizon) (Range places.Supply fields.Horizon)
    >>= (λ _. holds (are_in_range most_parts times) (Range places.Supply fields.Times))
    >>= (λ _. holds (are_times horizon times) (Order places.Supply fields.Times))

abbrev pub supply_rule : SupplySpec → Result (Unit {0}) SheetRefusal
supply_rule Whole = Ok tt
supply_rule (Promised horizon times) = promise_rule horizon times

abbrev pub segments_rule : ℕ → ℕ → List ℕ → Result (Unit {0}) SheetRefusal
segments_rule n cost segments =
    holds (are_in_range most_parts segments) (Range (places.Task n) fields.Preemption)
    >>= (λ _. holds (sum segments == cost) (Sum n))

-- how the preemption of task n fits its cost
abbrev pub cut_rule : ℕ → ℕ → Cut → Result (Unit {0}) SheetRefusal
cut_rule n cost Full = Ok tt
cut_rule n cost Never = Ok tt
cut_rule n cost (Fixed segments) = segments_rule n cost segments
cut_rule n cost (Floating longest) =
    holds (is_in_range longest) (Range (places.Task n) fields.Preemption)
    >>= (λ _. holds (nat_le longest cost) (Sum n))

-- task n, after tasks of these names
unfoldable pub task_rule : ℕ → List (List ℕ) → Task → Result (Unit {0}) SheetRefusal
task_rule n names task =
    holds (is_name task.name) (Range (places.Task n) fields.Name)
    >>= (λ _. holds (not (list_any (bytes_eq task.name) names)) (Twice n))
    >>= (λ _. holds (is_in_range task.cost) (Range (places.Task n) fields.Cost))
    >>= (λ _. holds (is_in_range task.deadline) (Range (places.Task n) fields.Deadline))
    >>= (λ _. holds (nat_le task.priority greatest_number) (Range (places.Task n) fields.Priority))
    >>= (λ _. holds (nat_le task.jitter most_jitter) (Range (places.Task n) fields.Jitter))
    >>= (λ _. holds (is_priority_point task.point) (Range (places.Task n) fields.Point))
    >>= (λ _. cut_rule n task.cost task.cut)

-- the tasks from number n on, after tasks of these names
abbrev pub tasks_rule : ℕ → List (List ℕ) → List Task → Result (Unit {0}) SheetRefusal
tasks_rule n names [] = Ok tt
tasks_rule n names (task ∷ tasks) = task_rule n names task >>= (λ _. tasks_rule (n + 1) (names ++ task.name ∷ []) tasks)

-- the sheet of these parts, or the refusal of the first rule that they break
unfoldable pub sheet_check_of : PolicyKind → SupplySpec → List Task → Result SheetParts SheetRefusal
sheet_check_of policy supply tasks =
    supply_rule supply
    >>= (λ _. holds (is_between 1 most_tasks (length tasks)) (Range places.Top fields.Task))
    >>= (λ _. tasks_rule 0 [] tasks)
    >>= (λ _. Ok (record { policy = policy; supply = supply; tasks = tasks }))
