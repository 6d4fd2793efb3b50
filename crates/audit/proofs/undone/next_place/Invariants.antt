use Rattle.std.proofs.Common.{◌-◌, length}
use Rattle.audit.specs.UndoneJobs.{AreDoneBefore}
use Rattle.audit.proofs.undone.next_place.Given as goal

abbrev pub invariant-loop-place : goal.invariant-loop-place
invariant-loop-place l = AreDoneBefore l.run l.served l.order l.o l.place

abbrev pub decreases-loop-place : goal.decreases-loop-place
decreases-loop-place l = length l.order - l.place
