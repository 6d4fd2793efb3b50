use Rattle.std.proofs.Common.{◌<◌, ◌≡◌, length, subst, sym, arith, ap}
use Rattle.task_sheet.specs.SheetParts.{SheetParts}
use Rattle.task_sheet.proofs.PriorityFacts.{given_back_valid}
use Rattle.task_sheet.proofs.sheet.Sheet.set_priority.Goals as goal

pub invariant_of-self : goal.invariant_of-self
invariant_of-self c =
    let sheet : SheetParts = record { policy = c.self.inside.policy; supply = c.self.inside.supply; tasks = c.self.inside.tasks } in
    given_back_valid sheet c.as_mut_slice.result.now c.args.i c.args.p _ c.self.invariant c.as_mut_slice.ensures.value
    (omega (arith, c.requires.task, ap (λ (s : SheetParts). length s.tasks) c.self.view_is)) c.requires.priority
