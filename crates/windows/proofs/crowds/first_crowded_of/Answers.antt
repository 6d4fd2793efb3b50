use Rattle.std.proofs.Common.{Some, None, refl}
use Rattle.task_sheet.specs.Sheets.{task_at}
use Rattle.windows.proofs.CrowdFacts.{arrivals_early, same_first_tick, first_of_task, none_of_task}
use Rattle.windows.proofs.crowds.first_crowded_of.Goals as goal

pub first_crowded_tick-requires-clause-early : goal.first_crowded_tick-requires-clause-early
first_crowded_tick-requires-clause-early c =
    arrivals_early c.args.run.now c.args.o c.args.arrivals.now c.requires.arrivals c.requires.early

pub returns-in-Some : goal.returns-in-Some
returns-in-Some c =
    let first = same_first_tick c.task.result.now (task_at c.args.sheet.now c.args.o) c.args.arrivals.now c.args.arrivals.now
    c.in_ok-tick.field-0 (Some c.in-Some.tick) c.task.ensures.task refl c.in-Some.is c.in_ok-tick.ensures in
    first_of_task c.args.run.now c.args.o c.args.arrivals.now c.requires.arrivals c.args.sheet.now c.in-Some.tick
    c.first_at.result first c.first_at.ensures

pub returns-in-None : goal.returns-in-None
returns-in-None c =
    let first = same_first_tick c.task.result.now (task_at c.args.sheet.now c.args.o) c.args.arrivals.now c.args.arrivals.now
    c.in_ok-tick.field-0 None c.task.ensures.task refl c.in-None.is c.in_ok-tick.ensures in
    none_of_task c.args.run.now c.args.o c.args.arrivals.now c.requires.arrivals c.args.sheet.now first
