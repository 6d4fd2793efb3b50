use Rattle.std.proofs.Common.{◌≡◌, true, length, arith}
use Rattle.std.proofs.lemmas.Bool.{and_parts, leb-true}
use Rattle.lists.specs.Limits.{most_parts}
use Rattle.task_sheet.specs.Rules.{are_in_range}
use Rattle.task_sheet.proofs.RuleFacts.{sum_positive}
use Rattle.task_sheet.proofs.checking.check_segments.Goals as goal

pub sum_of-requires : goal.sum_of-requires
sum_of-requires c =
    let ranged : are_in_range most_parts c.args.segments.now ≡ true = cc in
    let parts = and_parts _ _ ranged in
    let few = leb-true (length c.args.segments.now) most_parts (and_parts _ _ parts.0).1 in
    omega (arith, sum_positive c.args.segments.now parts.1, few)
