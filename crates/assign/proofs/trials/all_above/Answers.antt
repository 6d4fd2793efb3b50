use Rattle.std.proofs.Common.{◌≡◌, ℕ, ◌+◌, length, ap, ◌∙◌, arith}
use Rattle.task_sheet.specs.SheetParts.{SheetParts}
use Rattle.task_sheet.specs.Priorities.{with_fp, with_priority}
use Rattle.assign.specs.Sheets.{sheet_by}
use Rattle.assign.proofs.SheetFacts.{count_by, lifted, lifted_none, lifted_more, lifted_all}
use Rattle.assign.proofs.trials.all_above.Goals as goal

pub loop-i-init : goal.loop-i-init
loop-i-init c =
    let sheet = c.args.sheet.now in
    c.set_fp.ensures ∙ ap with_fp c.in_ok-trial.ensures ∙ lifted_none sheet (length sheet.tasks + 1)

pub set_priority-requires-clause-task : goal.set_priority-requires-clause-task
set_priority-requires-clause-task c =
    let sheet = c.args.sheet.now in
    let same = ap (λ (s : SheetParts). length s.tasks) c.loop-i.invariant in
    omega (arith, same, count_by sheet (lifted sheet (length sheet.tasks + 1) c.loop-i.i), c.len-count.ensures.len)

pub loop-i-preserved : goal.loop-i-preserved
loop-i-preserved c =
    let sheet = c.args.sheet.now in
    let above = length sheet.tasks + 1 in
    let i = c.loop-i.i in
    c.set_priority.ensures ∙ ap (λ (n : ℕ). with_priority c.loop-i.trial i (n + 1)) c.len-count.ensures.len ∙
    ap (λ (s : SheetParts). with_priority s i above) c.loop-i.invariant ∙ lifted_more sheet above i (omega (arith, c.len-count.ensures.len))

pub returns : goal.returns
returns c =
    let sheet = c.args.sheet.now in
    let above = length sheet.tasks + 1 in
    let all : c.loop-i.i ≡ length sheet.tasks = omega (arith, c.len-count.ensures.len) in
    c.loop-i.invariant ∙ ap (λ (n : ℕ). sheet_by sheet (lifted sheet above n)) all ∙ lifted_all sheet above
