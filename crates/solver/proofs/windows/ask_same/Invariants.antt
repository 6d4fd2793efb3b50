use Rattle.std.proofs.Common.{◌≡◌, ℕ, ◌<◌}
use Rattle.solver.proofs.windows.ask_same.Given as goal

abbrev pub invariant-loop-o : goal.invariant-loop-o
invariant-loop-o g l = (k : ℕ) → k < l.o → g.P.Policy.meaning.class l.sheet l.i k ≡ g.P.Policy.meaning.class l.sheet l.j k
