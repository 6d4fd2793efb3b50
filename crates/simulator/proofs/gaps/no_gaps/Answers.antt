use Rattle.simulator.proofs.GapFacts.{gaps_first}
use Rattle.simulator.proofs.gaps.no_gaps.Goals as goal

pub returns : goal.returns
returns c = λ curve ok. gaps_first curve ok c.new.result.items c.in_ok-densest.densest.items c.new.ensures.items c.in_ok-densest.ensures.items
