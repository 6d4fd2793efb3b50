use Rattle.supply_table.proofs.LawFacts.{supplies}
use Rattle.supply_table.proofs.laws.table_supplies.Goals as goal

pub returns : goal.returns
returns c = supplies
