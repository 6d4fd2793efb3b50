-- Texts whose sheet, or whose first broken rule, is known.
use Rattle.std.proofs.Common.{◌≡◌, ℕ, pos, negsuc, List, [], ◌∷◌, ◌++◌, codes, Ok, Err, refl}
use lib.Utf8.{encode}
use Rattle.std.specs.Str.{is_utf8, chars}
use Rattle.toml.proofs.OnLiterals.{toml_on_literals}
use Rattle.task_sheet.specs.declared.tasks.PolicyKind.TheVariants.{Fp, Edf, Gel}
use Rattle.task_sheet.specs.declared.tasks.SupplySpec.TheVariants.{Unit as Whole, Promised}
use Rattle.task_sheet.specs.declared.tasks.Cut.TheVariants.{Full, Floating}
use Rattle.task_sheet.specs.declared.refusal.Place.TheVariants as places
use Rattle.task_sheet.specs.declared.refusal.Field.TheVariants as fields
use Rattle.task_sheet.specs.declared.refusal.SheetRefusal.TheVariants.{Text, Missing, Kind, Range, Order, Mixed, Both, Twice, Sum}
use Rattle.task_sheet.specs.Rules.{most_jitter, most_point}
use Rattle.supply_table.specs.Floors.{is_supplied, count_in, floor_of}
use Rattle.sheet_text.specs.TableRows.{cyclic_rule}
use Rattle.sheet_text.specs.SupplyRows.{promised_rule, given_rule}
use Rattle.curve.specs.Curves.{periodic}
use Rattle.sheet_text.specs.CurveRows.{curve_rule}
use Rattle.sheet_text.specs.CutRows.{segmented_rule}
use Rattle.sheet_text.specs.TaskRows.{name_rule, numbers_rule, task_of, tasks_after}
use Rattle.sheet_text.specs.SheetRows.{sheet_of, sheet_of_text}

-- a task, with these lines after its name
abbrev task_text : List ℕ → List ℕ
task_text lines = codes "[[task]]\nname = \"a\"\n" ++ lines

pub no_document : sheet_of_text (35 ∷ 255 ∷ []) ≡ Err Text
unfolding sheet_of_text is_utf8 chars encode
no_document = refl

pub empty_file : sheet_of_text [] ≡ Err (Missing places.Top fields.Policy)
unfolding sheet_of_text is_utf8 chars sheet_of toml_on_literals
empty_file = refl

pub supply_first : sheet_of_text (codes "policy = \"fp\"\nsupply = { horizon = 4, times = [3, 5] }\ntask = 1\n") ≡ Err (Order places.Supply fields.Times)
unfolding sheet_of_text is_utf8 chars sheet_of given_rule promised_rule toml_on_literals
supply_first = refl

-- a sheet with these lines in its supply, and with no task
abbrev supply_text : List ℕ → List ℕ
supply_text lines = codes "policy = \"edf\"\n[supply]\n" ++ lines

pub slots_fall : sheet_of_text (supply_text (codes "cycle = 6\nslots = [[3, 2], [0, 1]]\n")) ≡ Err (Order places.Supply fields.Slots)
unfolding sheet_of_text is_utf8 chars sheet_of given_rule cyclic_rule toml_on_literals
slots_fall = refl

pub table_and_horizon : sheet_of_text (supply_text (codes "cycle = 6\nslots = [[0, 1], [3, 2]]\nhorizon = 6\n")) ≡ Err Mixed
unfolding sheet_of_text is_utf8 chars sheet_of given_rule cyclic_rule toml_on_literals
table_and_horizon = refl

pub slots_and_times : sheet_of_text (supply_text (codes "slots = 1\ntimes = 1\n")) ≡ Err Mixed
unfolding sheet_of_text is_utf8 chars sheet_of given_rule cyclic_rule toml_on_literals
slots_and_times = refl

pub slots_alone : sheet_of_text (supply_text (codes "slots = 1\n")) ≡ Err (Missing places.Supply fields.Cycle)
unfolding sheet_of_text is_utf8 chars sheet_of given_rule cyclic_rule toml_on_literals
slots_alone = refl

pub start_below_zero : sheet_of_text (supply_text (codes "cycle = 6\nslots = [[-1, 2]]\n")) ≡ Err (Range places.Supply fields.Slots)
unfolding sheet_of_text is_utf8 chars sheet_of given_rule cyclic_rule toml_on_literals
start_below_zero = refl

pub slot_of_three : sheet_of_text (supply_text (codes "cycle = 6\nslots = [[0, 1, 2]]\n")) ≡ Err (Kind places.Supply fields.Slots)
unfolding sheet_of_text is_utf8 chars sheet_of given_rule cyclic_rule toml_on_literals
slot_of_three = refl

pub table_of_two_slots : sheet_of_text
    (supply_text (codes "cycle = 6\nslots = [[0, 1], [3, 2]]\n") ++ task_text (codes "cost = 1\ndeadline = 9\nperiod = 8\n"))
    ≡ Ok (record {
      policy = Edf;
      supply = Promised 6 (3 ∷ 5 ∷ 6 ∷ []);
      tasks =
          record { name = codes "a"; cost = 1; deadline = 9; priority = 0; jitter = 0; point = pos 0; curve = periodic 8; cut = Full } ∷ [];
    })
unfolding sheet_of_text is_utf8 chars sheet_of given_rule cyclic_rule floor_of is_supplied count_in tasks_after task_of name_rule numbers_rule toml_on_literals
table_of_two_slots = refl

pub no_task_listed : sheet_of_text (codes "policy = \"fp\"\ntask = []") ≡ Err (Range places.Top fields.Task)
unfolding sheet_of_text is_utf8 chars sheet_of toml_on_literals
no_task_listed = refl

pub cost_first : sheet_of_text (codes "policy = \"fp\"\n" ++ task_text (codes "deadline = 0\ncost = 2.0\n")) ≡ Err (Kind (places.Task 0) fields.Cost)
unfolding sheet_of_text is_utf8 chars sheet_of tasks_after task_of name_rule numbers_rule toml_on_literals
cost_first = refl

pub negative_priority : sheet_of_text (codes "policy = \"edf\"\n" ++ task_text (codes "cost = 4\ndeadline = 9\npriority = -1\n"))
    ≡ Err (Range (places.Task 0) fields.Priority)
unfolding sheet_of_text is_utf8 chars sheet_of tasks_after task_of name_rule numbers_rule toml_on_literals
negative_priority = refl

pub period_and_curve : sheet_of_text (codes "policy = \"edf\"\n" ++ task_text (codes "cost = 4\ndeadline = 9\nperiod = 0\ncurve = 1\n")) ≡ Err (Both 0)
unfolding sheet_of_text is_utf8 chars sheet_of tasks_after task_of name_rule numbers_rule toml_on_literals
period_and_curve = refl

pub step_at_zero : sheet_of_text
    (codes "policy = \"edf\"\n" ++ task_text (codes "cost = 4\ndeadline = 9\ncurve = { horizon = 5, steps = [[0, 1]] }\n")) ≡ Err
    (Range (places.Task 0) fields.CurveSteps)
unfolding sheet_of_text is_utf8 chars sheet_of tasks_after task_of name_rule numbers_rule curve_rule toml_on_literals
step_at_zero = refl

pub segments_of_less : sheet_of_text
    (codes "policy = \"edf\"\n" ++ task_text (codes "cost = 4\ndeadline = 9\nperiod = 9\npreemption = { fixed = [1, 2] }\n")) ≡ Err (Sum 0)
unfolding sheet_of_text is_utf8 chars sheet_of tasks_after task_of name_rule numbers_rule segmented_rule toml_on_literals
segments_of_less = refl

pub second_of_a_name : sheet_of_text (codes "policy = \"edf\"\n" ++ task_text (codes "cost = 4\ndeadline = 9\nperiod = 9\n") ++ task_text []) ≡ Err (Twice 1)
unfolding sheet_of_text is_utf8 chars sheet_of tasks_after task_of name_rule numbers_rule toml_on_literals
second_of_a_name = refl

pub jitter_too_great : sheet_of_text
    (codes "policy = \"edf\"\n" ++ task_text (codes "cost = 4\ndeadline = 9\njitter = 1000000001\n")) ≡ Err (Range (places.Task 0) fields.Jitter)
unfolding sheet_of_text is_utf8 chars sheet_of tasks_after task_of name_rule numbers_rule most_jitter toml_on_literals
jitter_too_great = refl

pub one_late_task : sheet_of_text (codes "policy = \"edf\"\n" ++ task_text (codes "cost = 4\ndeadline = 9\njitter = 3\nperiod = 8\n"))
    ≡ Ok (record {
      policy = Edf;
      supply = Whole;
      tasks =
          record { name = codes "a"; cost = 4; deadline = 9; priority = 0; jitter = 3; point = pos 0; curve = periodic 8; cut = Full } ∷ [];
    })
unfolding sheet_of_text is_utf8 chars sheet_of tasks_after task_of name_rule numbers_rule most_jitter toml_on_literals
one_late_task = refl

pub point_too_great : sheet_of_text
    (codes "policy = \"gel\"\n" ++ task_text (codes "cost = 4\ndeadline = 9\npoint = 1000000001\n")) ≡ Err (Range (places.Task 0) fields.Point)
unfolding sheet_of_text is_utf8 chars sheet_of tasks_after task_of name_rule numbers_rule most_point toml_on_literals
point_too_great = refl

pub no_priority : sheet_of_text (codes "policy = \"elf\"\n" ++ task_text (codes "cost = 4\ndeadline = 9\npoint = 1.0\n")) ≡ Err
    (Missing (places.Task 0) fields.Priority)
unfolding sheet_of_text is_utf8 chars sheet_of tasks_after task_of name_rule numbers_rule toml_on_literals
no_priority = refl

pub one_early_point : sheet_of_text (codes "policy = \"gel\"\n" ++ task_text (codes "cost = 4\ndeadline = 9\npoint = -3\nperiod = 8\n"))
    ≡ Ok (record {
      policy = Gel;
      supply = Whole;
      tasks =
          record { name = codes "a"; cost = 4; deadline = 9; priority = 0; jitter = 0; point = negsuc 2; curve = periodic 8; cut = Full } ∷ [];
    })
unfolding sheet_of_text is_utf8 chars sheet_of tasks_after task_of name_rule numbers_rule most_point toml_on_literals
one_early_point = refl

pub one_task : sheet_of_text (codes "policy = \"fp\"\n" ++ task_text
    (codes "cost = 4\ndeadline = 9\npriority = 2\nperiod = 8\npreemption = { floating = 4 }\n"))
    ≡ Ok (record {
      policy = Fp;
      supply = Whole;
      tasks =
          record { name = codes "a"; cost = 4; deadline = 9; priority = 2; jitter = 0; point = pos 0; curve = periodic 8; cut = Floating 4 } ∷ [];
    })
unfolding sheet_of_text is_utf8 chars sheet_of tasks_after task_of name_rule numbers_rule segmented_rule toml_on_literals
one_task = refl
