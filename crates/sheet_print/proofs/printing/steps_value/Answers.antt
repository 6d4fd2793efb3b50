use Rattle.sheet_print.proofs.PrintedFacts.{step_at}
use Rattle.sheet_print.proofs.printing.steps_value.Goals as goal

pub step_value-requires : goal.step_value-requires
step_value-requires c = step_at c.args.steps.now c.steps.step-index (record { time = 0; value = 0 }) c.requires c.steps-test.true
