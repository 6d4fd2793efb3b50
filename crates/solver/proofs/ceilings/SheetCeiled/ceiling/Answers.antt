use Rattle.std.proofs.Common.{◌≡◌, subst}
use Rattle.task_sheet.specs.declared.tasks.SupplySpec.{SupplySpec}
use Rattle.task_sheet.specs.declared.tasks.SupplySpec.TheVariants.{Promised}
use Rattle.supply.specs.Promises.{sbf_of}
use Rattle.solver.specs.Ceilings.{IsOver}
use Rattle.solver.proofs.ceilings.SheetCeiled.ceiling.Goals as goal

pub returns-in-Promised-clause-over : goal.returns-in-Promised-clause-over
returns-in-Promised-clause-over c =
    let e : Promised c.in-Promised.horizon c.as_slice.result.now ≡ c.args.self.now.supply = cc in
    subst (λ (s : SupplySpec). IsOver (sbf_of s) c.promise_ceiling.result) e c.promise_ceiling.ensures.over
