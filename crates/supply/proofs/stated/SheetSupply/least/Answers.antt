use Rattle.std.proofs.Common.{◌≡◌, ◌≤◌, subst}
use Rattle.lists.specs.Searches.{IsLeastTo}
use Rattle.task_sheet.specs.declared.tasks.SupplySpec.{SupplySpec}
use Rattle.task_sheet.specs.declared.tasks.SupplySpec.TheVariants.{Promised}
use Rattle.supply.specs.Promises.{sbf_of}
use Rattle.supply.proofs.stated.SheetSupply.least.Goals as goal

pub returns-in-Promised : goal.returns-in-Promised
returns-in-Promised c =
    let e : Promised c.in-Promised.horizon c.as_slice.result.now ≡ c.args.self.now.supply = cc in
    subst (λ (s : SupplySpec). IsLeastTo (λ d. c.args.v ≤ sbf_of s d) c.args.limit c.least_promised.result) e c.least_promised.ensures
