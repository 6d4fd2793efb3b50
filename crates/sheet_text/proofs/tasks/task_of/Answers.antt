use Rattle.std.proofs.Common.{◌≡◌, true, false, map, ◌∙◌, string_bytes, SFits, to_z, of_z, w64, rules, arith}
use Rattle.std.proofs.lemmas.Int.{ints}
use Rattle.std.specs.Prelude.{bytes_eq}
use Rattle.std.specs.List.{list_any}
use Rattle.task_sheet.specs.declared.tasks.Task.{Task}
use Rattle.task_sheet.specs.Rules.{is_name, is_priority_point}
use Rattle.sheet_text.proofs.Loop.{task_rule_from}
use Rattle.sheet_text.proofs.tasks.task_of.Goals as goal

pub returns-clause-rule : goal.returns-clause-rule
returns-clause-rule c =
    let same : c.new.result ≡ c.in_ok-name.name.now = c.new.ensures ∙ c.in_ok-from_str.ensures.ok in
    let plain : is_name c.new.result ≡ true = rw same c.in_ok-name.ensures.plain in
    let fresh : list_any (bytes_eq c.new.result) (map string_bytes c.args.names.now.keys) ≡ false = rw same c.in_ok-name.ensures.fresh in
    let numbers = c.in_ok-numbers.numbers in
    let told = c.in_ok-numbers.ensures in
    let fits : SFits w64 numbers.point = search rules in
    let same_point : to_z w64 (of_z w64 numbers.point) ≡ numbers.point = omega (arith, ints) in
    let near : is_priority_point (to_z w64 (of_z w64 numbers.point)) ≡ true = rw same_point told.point in
    let task : Task = record {
      name = c.new.result;
      cost = numbers.cost;
      deadline = numbers.deadline;
      priority =
          numbers.priority;
      jitter = numbers.jitter;
      point = to_z w64 (of_z w64 numbers.point);
      curve = c.in_ok-curve.curve;
      cut = c.in_ok-cut.cut;
    } in
    task_rule_from c.args.n (map string_bytes c.args.names.now.keys) task plain fresh told.cost told.deadline told.priority
    told.jitter near c.in_ok-cut.ensures.valid
