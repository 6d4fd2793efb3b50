-- proofs about the limits of tasks; nothing here is to be believed
use Rattle.std.proofs.Common.{◌≡◌, ◌≤◌, true, arith, pos, neg_ℤ, ◌≤ℤ◌, int_le}
use Rattle.std.proofs.lemmas.Bool.{and_parts}
use Rattle.std.proofs.lemmas.Int.{ints}
use Rattle.lists.specs.Limits.{greatest_number}
use Rattle.task_sheet.specs.declared.tasks.Task.{Task}
use Rattle.task_sheet.specs.Rules.{is_priority_point, most_jitter, most_point}
use Rattle.task_sheet.specs.Sheets.{IsTask}

pub jitter_high : (t : Task) → IsTask t → t.jitter ≤ greatest_number
unfolding most_jitter
jitter_high t is = omega (arith, is.jitter_high)

pub point_low : (t : Task) → IsTask t → neg_ℤ (pos greatest_number) ≤ℤ t.point
unfolding most_point
point_low t is =
    let low : int_le (neg_ℤ (pos most_point)) t.point ≡ true =
    (and_parts (int_le (neg_ℤ (pos most_point)) t.point) (int_le t.point (pos most_point)) is.point).0 in
    grind (arith, ints)

pub point_high : (t : Task) → IsTask t → t.point ≤ℤ pos greatest_number
unfolding most_point
point_high t is =
    let high : int_le t.point (pos most_point) ≡ true = (and_parts (int_le (neg_ℤ (pos most_point)) t.point) (int_le t.point (pos most_point)) is.point).1 in
    grind (arith, ints)

-- a task may have the point 0
pub no_point : is_priority_point (pos 0) ≡ true
unfolding most_point
no_point = grind (arith, ints)
