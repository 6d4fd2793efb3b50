use Rattle.std.proofs.Common.{◌≡◌, length}
use Rattle.audit.specs.NotedResponses.{AreSeen}
use Rattle.audit.proofs.responses.seen_tasks.Given as goal

abbrev pub invariant-loop-k : goal.invariant-loop-k
invariant-loop-k l = record { count : length l.seen.items ≡ l.count; seen : AreSeen l.run l.k l.seen.items }
