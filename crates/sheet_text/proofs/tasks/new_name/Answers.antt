use Rattle.std.proofs.Common.{arith}
use Rattle.std.proofs.lemmas.Grind.{common_steps}
use Rattle.sheet_text.specs.TaskRows.{name_rule}
use Rattle.sheet_text.proofs.Counts.{name_among}
use Rattle.sheet_text.proofs.tasks.new_name.Goals as goal

pub returns-then-branch-clause-gives : goal.returns-then-branch-clause-gives
unfolding name_rule
returns-then-branch-clause-gives c =
    grind (arith, common_steps, name_among c.args.name.now c.in_ok-from_str.field-0 c.args.names.now.keys c.in_ok-from_str.ensures.ok)

pub returns-else-branch-clause-gives : goal.returns-else-branch-clause-gives
unfolding name_rule
returns-else-branch-clause-gives c other =
    grind (arith, common_steps, name_among c.args.name.now c.in_ok-from_str.field-0 c.args.names.now.keys c.in_ok-from_str.ensures.ok)

pub returns-then-branch-clause-fresh : goal.returns-then-branch-clause-fresh
returns-then-branch-clause-fresh c =
    grind (arith, common_steps, name_among c.args.name.now c.in_ok-from_str.field-0 c.args.names.now.keys c.in_ok-from_str.ensures.ok)
