use Rattle.windows.specs.Crowds.{IsFirstJob}
use Rattle.windows.proofs.CrowdFacts.{IsCrowdedBelow}
use Rattle.windows.proofs.crowds.first_crowded.Given as goal

abbrev pub invariant-loop-o : goal.invariant-loop-o
invariant-loop-o l = IsFirstJob (IsCrowdedBelow l.sheet l.run l.o) l.run l.first
