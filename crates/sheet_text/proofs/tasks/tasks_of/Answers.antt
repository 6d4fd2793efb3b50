use Rattle.std.proofs.Common.{◌≡◌, ◌∷◌, [], length, length-append, rules, arith}
use Rattle.std.proofs.lemmas.Grind.{common_steps}
use Rattle.sheet_text.proofs.Loop.{next_goes_on, next_rules, next_curves}
use Rattle.sheet_text.proofs.tasks.tasks_of.Goals as goal

pub items-preserved : goal.items-preserved
items-preserved c =
    let before = c.items.tasks.items in
    let names = c.items.names.keys in
    let task = c.in_ok-task.task in
    let told = c.in_ok-task.ensures in
    let pushed = c.in_ok-push.ensures.items in
    let count : c.len-n.result ≡ length before = search rules in
    record {
      within = omega arith;
      counted = rw pushed (omega (arith, length-append before (task ∷ []), c.items.invariant.counted));
      named = grind (arith, common_steps);
      rules = rw pushed (next_rules before names c.len-n.result task c.items.invariant.named c.items.invariant.rules count told.rule);
      curves = rw pushed (next_curves before task c.items.invariant.curves told.curve);
      goes_on = rw pushed (next_goes_on c.args.policy before names c.len-n.result c.items.item-index c.args.items.now task
          c.item-item.result c.items.invariant c.items-test.true c.item-item.is count told.gives);
    }
