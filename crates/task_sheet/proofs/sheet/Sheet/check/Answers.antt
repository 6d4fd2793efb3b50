use Rattle.std.proofs.Common.{rules, Result, ◌≡◌, ◌≤◌, [], length, arith, Ok, Err, sym, ap, ◌∙◌}
use Rattle.lists.specs.Limits.{most_tasks}
use Rattle.task_sheet.specs.Rules.{supply_rule, tasks_rule}
use Rattle.task_sheet.proofs.RuleFacts.{valid_from_rules, tasks_from_valid}
use Rattle.task_sheet.proofs.sheet.Sheet.check.Goals as goal

apart : {A E P : Type 0} (r : Result A E) (e : E) (a : A) → r ≡ Err e → r ≡ Ok a → P
apart r e a h k = absurd (cc)

pub returns-in_err-check_tasks-clause-valid : goal.returns-in_err-check_tasks-clause-valid
returns-in_err-check_tasks-clause-valid c =
    let refused : tasks_rule 0 [] c.args.tasks.items ≡ Err c.in_err-check_tasks.field-0.0 =
    ap (tasks_rule 0 []) (sym c.deref.ensures.value) ∙ sym c.check_tasks.ensures.rule ∙ c.in_err-check_tasks.was in
    ((λ ok. absurd (search rules)), (λ valid. apart _ _ _ refused (tasks_from_valid _ valid)))

pub new-requires : goal.new-requires
new-requires c =
    let supply : supply_rule c.args.supply ≡ Ok tt = sym c.check_supply.ensures ∙ c.in_ok-check_supply.was in
    let tasks : tasks_rule 0 [] c.args.tasks.items ≡ Ok tt = ap (tasks_rule 0 []) (sym c.deref.ensures.value) ∙
    sym c.check_tasks.ensures.rule ∙ c.in_ok-check_tasks.was in
    let curves = rw c.deref.ensures.value at c.in_ok-check_tasks.ensures.curves in
    let some : 1 ≤ length c.args.tasks.items = omega (arith, ap length c.as_slice-count.ensures.value) in
    let few : length c.args.tasks.items ≤ most_tasks = omega (arith, ap length c.as_slice-count.ensures.value) in
    valid_from_rules c.args.policy c.args.supply c.args.tasks.items curves supply some few tasks
