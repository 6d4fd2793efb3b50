use Rattle.std.proofs.Common.{arith}
use Rattle.std.proofs.lemmas.Bool.{OnTrue_at}
use Rattle.windows.proofs.keeping.keep_block.Goals as goal

pub returns-then-keep_together : goal.returns-then-keep_together
returns-then-keep_together c = λ j from below. OnTrue_at c.if-keep_together.true c.keep_together.ensures j from (omega arith)
