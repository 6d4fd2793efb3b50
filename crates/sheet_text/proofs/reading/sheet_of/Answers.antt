use Rattle.std.proofs.Common.{◌≤◌, length, arith}
use Rattle.task_sheet.proofs.RuleFacts.{valid_from_rules}
use Rattle.sheet_text.proofs.reading.sheet_of.Goals as goal

pub new-requires : goal.new-requires
new-requires c =
    let many = c.in_ok-tasks.ensures.many in
    let listed = c.in_ok-items.ensures in
    let some : 1 ≤ length c.in_ok-tasks.tasks.items = omega (arith, many, listed.some) in
    let few : length c.in_ok-tasks.tasks.items ≤ 256 = omega (arith, many, listed.few) in
    valid_from_rules _ _ _ c.in_ok-tasks.ensures.curves c.in_ok-supply.ensures.valid some few c.in_ok-tasks.ensures.rules
