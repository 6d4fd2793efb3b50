use Rattle.std.proofs.Common.{◌≡◌, ◌+◌, None, ap, sym, subst, arith, rules}
use Rattle.task_sheet.specs.declared.tasks.Task.{Task}
use Rattle.task_sheet.specs.SheetParts.{SheetParts}
use Rattle.task_sheet.specs.Sheets.{task_at}
use Rattle.assign.specs.Trials.{IsTried}
use Rattle.assign.proofs.TrialFacts.{keeps_cuts}
use Rattle.assign.proofs.FillFacts.{Searching, trial_count, trial_served, passed, failed, found}
use Rattle.assign.proofs.filling.fill_level.Goals as goal
use Rattle.assign.proofs.filling.fill_level.Goals.{else-task-level-via-else-task-level, else-task-level-via-then-task-level+in-None-1}

pub task-requires : goal.task-requires
task-requires g c =
    let same = trial_count g.M.Preemption.cuts (g.S.Supply.sbf c.args.supply.now) c.args.sheet.now c.args.horizon c.args.level c.loop-i.i
    c.loop-i.trial c.loop-i.places c.loop-i.invariant in
    omega (arith, same, c.len-i-end.ensures.len)

pub try_priority-requires-clause-task : goal.try_priority-requires-clause-task
try_priority-requires-clause-task g c =
    let same = trial_count g.M.Preemption.cuts (g.S.Supply.sbf c.args.supply.now) c.args.sheet.now c.args.horizon c.args.level c.loop-i.i
    c.loop-i.trial c.loop-i.places c.loop-i.invariant in
    omega (arith, same, c.len-i-end.ensures.len)

pub try_priority-requires-clause-served : goal.try_priority-requires-clause-served
try_priority-requires-clause-served g c =
    let m = g.M.Preemption.cuts in
    let sbf = g.S.Supply.sbf c.args.supply.now in
    let sheet = c.args.sheet.now in
    let kept = keeps_cuts m sbf sheet c.len-i-end.ensures.valid (g.met.S.Supply.starts c.args.supply.now c.known.ensures) g.met.M.Tabled.tabled
    g.met.M.Preemption.lawful c.requires.served in
    let priority_is : c.task.result.now.priority ≡ (task_at c.loop-i.trial c.loop-i.i).priority =
    ap (λ (t : Task). t.priority) c.task.ensures.task in
    trial_served m sbf sheet c.args.horizon kept c.requires.served c.args.level c.loop-i.i c.requires.level c.loop-i.trial c.loop-i.places
    c.loop-i.invariant (omega (arith, c.len-i-end.ensures.len))
    (omega (arith, c.if-task-level.true, priority_is))

pub returns-in-loop-i : goal.returns-in-loop-i
returns-in-loop-i g c =
    let m = g.M.Preemption.cuts in
    let sbf = g.S.Supply.sbf c.args.supply.now in
    let sheet = c.args.sheet.now in
    let kept = keeps_cuts m sbf sheet c.len-i-end.ensures.valid (g.met.S.Supply.starts c.args.supply.now c.known.ensures) g.met.M.Tabled.tabled
    g.met.M.Preemption.lawful c.requires.served in
    let priority_is : c.task.result.now.priority ≡ (task_at c.loop-i.trial c.loop-i.i).priority =
    ap (λ (t : Task). t.priority) c.task.ensures.task in
    found m sbf sheet c.args.horizon kept c.requires.served c.args.level c.loop-i.i c.requires.level c.loop-i.trial c.loop-i.places
    c.loop-i.invariant (omega (arith, c.len-i-end.ensures.len))
    (omega (arith, c.if-task-level.true, priority_is)) _ c.in-Some.bound c.in-Some.ensures

pub loop-i-preserved : goal.loop-i-preserved
loop-i-preserved g c =
    let m = g.M.Preemption.cuts in
    let sbf = g.S.Supply.sbf c.args.supply.now in
    let sheet = c.args.sheet.now in
    let i = c.loop-i.i in
    let kept = keeps_cuts m sbf sheet c.len-i-end.ensures.valid (g.met.S.Supply.starts c.args.supply.now c.known.ensures) g.met.M.Tabled.tabled
    g.met.M.Preemption.lawful c.requires.served in
    let priority_is : c.task.result.now.priority ≡ (task_at c.loop-i.trial i).priority =
    ap (λ (t : Task). t.priority) c.task.ensures.task in
    elim c.else-task-level.branch [
      | else-task-level-via-else-task-level w ↦
          subst (λ (s : SheetParts). Searching m sbf sheet c.args.horizon c.args.level (i + 1) s c.loop-i.places) (sym w.trial-is)
          (passed m sbf sheet c.args.horizon kept c.requires.served c.args.level i c.requires.level c.loop-i.trial c.loop-i.places
          c.loop-i.invariant (omega (arith, c.len-i-end.ensures.len)) (omega (arith, w.if-task-level.false, priority_is)))
      | else-task-level-via-then-task-level+in-None-1 w ↦
          let none : w.try_priority.result ≡ None = search rules in
          subst (λ (s : SheetParts). Searching m sbf sheet c.args.horizon c.args.level (i + 1) s c.loop-i.places) (sym w.trial-is)
          (failed m sbf sheet c.args.horizon kept c.requires.served c.args.level i c.requires.level c.loop-i.trial c.loop-i.places
          c.loop-i.invariant (omega (arith, c.len-i-end.ensures.len)) (omega (arith, w.if-task-level.true, priority_is)) w.try_priority.new.trial
          (subst (IsTried m sbf c.loop-i.trial w.try_priority.new.trial i c.args.level c.args.horizon) none w.try_priority.ensures))
    ]
