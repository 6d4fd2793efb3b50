use Rattle.std.specs.Prelude.{◌≡◌, ◌≢◌, ℕ, pos, ◌+◌, ◌≤◌, ◌<◌, true, List, [], length, sum, slice_index_or}
use Rattle.lists.specs.Limits.{greatest_number, most_parts, most_tasks}
use Rattle.curve.specs.Validity.{IsCurve}
use Rattle.task_sheet.specs.declared.tasks.PolicyKind.{PolicyKind}
use Rattle.task_sheet.specs.declared.tasks.SupplySpec.{SupplySpec}
use Rattle.task_sheet.specs.declared.tasks.SupplySpec.TheVariants.{Unit as Whole, Promised}
use Rattle.task_sheet.specs.declared.tasks.Cut.{Cut}
use Rattle.task_sheet.specs.declared.tasks.Cut.TheVariants.{Full, Never, Fixed, Floating}
use Rattle.task_sheet.specs.declared.tasks.Task.{Task}
use Rattle.task_sheet.specs.declared.tasks.Job.{Job}
use Rattle.task_sheet.specs.SheetParts.{SheetParts}
use Rattle.task_sheet.specs.Rules.{is_name, is_priority_point, most_jitter, are_in_range, are_times}

abbrev pub parts_of : PolicyKind → SupplySpec → List Task → SheetParts
parts_of p s ts = record { policy = p; supply = s; tasks = ts }

-- what stands past the last task
unfoldable pub no_task : Task
no_task = record { name = []; cost = 0; deadline = 0; priority = 0; jitter = 0; point = pos 0; curve = record { horizon = 1; steps = [] }; cut = Full }

abbrev pub task_at : SheetParts → ℕ → Task
task_at sheet i = slice_index_or sheet.tasks i no_task

-- the preemption fits the cost
abbrev pub CutFits : ℕ → Cut → Type 0
CutFits cost Full = Unit {0}
CutFits cost Never = Unit {0}
CutFits cost (Fixed segments) = (are_in_range most_parts segments ≡ true) × (sum segments ≡ cost)
CutFits cost (Floating longest) = (1 ≤ longest) × (longest ≤ cost)

-- a promise of supply
abbrev pub IsPromise : SupplySpec → Type 0
IsPromise Whole = Unit {0}
IsPromise (Promised horizon times) = (1 ≤ horizon) × (horizon ≤ greatest_number) × (are_in_range most_parts times ≡ true) × (are_times horizon times ≡ true)

-- a valid task
pub record IsTask (t : Task) : Type 0 where
  pub name : is_name t.name ≡ true
  pub cost_low : 1 ≤ t.cost
  pub cost_high : t.cost ≤ greatest_number
  pub deadline_low : 1 ≤ t.deadline
  pub deadline_high : t.deadline ≤ greatest_number
  pub priority_high : t.priority ≤ greatest_number
  pub jitter_high : t.jitter ≤ most_jitter
  pub point : is_priority_point t.point ≡ true
  pub curve : IsCurve t.curve
  pub cut : CutFits t.cost t.cut

-- a valid sheet
pub record IsValidSheet (s : SheetParts) : Type 0 where
  pub supply : IsPromise s.supply
  pub some : 1 ≤ length s.tasks
  pub few : length s.tasks ≤ most_tasks
  pub each : (i : ℕ) → i < length s.tasks → IsTask (task_at s i)
  pub distinct : (i k : ℕ) → i < k → k < length s.tasks → (task_at s i).name ≢ (task_at s k).name

-- a job of a task of the sheet
abbrev pub IsOf : SheetParts → Job → Type 0
IsOf sheet j = j.task < length sheet.tasks

-- the job is released at its arrival or later, by its task's jitter at most
pub record IsTimely (sheet : SheetParts) (j : Job) : Type 0 where
  pub after : j.arrival ≤ j.release
  pub soon : j.release ≤ j.arrival + (task_at sheet j.task).jitter
