use Rattle.std.proofs.Common.{◌≤◌, arith}
use Rattle.task_sheet.specs.Limits.{jitter_high}
use Rattle.sheet_print.proofs.printing.task_value.Goals as goal

pub put_jitter-requires : goal.put_jitter-requires
put_jitter-requires c =
    let high : c.args.task.now.jitter ≤ 1000000000 = jitter_high c.args.task.now c.requires in
    omega (arith, high)
