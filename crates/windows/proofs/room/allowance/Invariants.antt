use Rattle.windows.proofs.RoomFacts.{IsScanned}
use Rattle.windows.proofs.room.allowance.Given as goal

abbrev pub invariant-loop-i : goal.invariant-loop-i
invariant-loop-i l = IsScanned l.curve l.arrivals l.t l.i l.step l.room
