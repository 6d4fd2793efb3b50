use Rattle.windows.proofs.DistanceFacts.{needed_decide_law}
use Rattle.windows.proofs.distances.needed_decide.Goals as goal

pub returns : goal.returns
returns c = needed_decide_law
