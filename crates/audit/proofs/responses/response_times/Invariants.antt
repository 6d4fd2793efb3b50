use Rattle.audit.specs.ServiceCounts.{IsServed}
use Rattle.audit.specs.NotedResponses.{AreResponses}
use Rattle.audit.proofs.responses.response_times.Given as goal

abbrev pub invariant-loop-t : goal.invariant-loop-t
invariant-loop-t l = record {
  served : IsServed l.run l.t l.served.items;
  responses : AreResponses l.run l.t l.responses.items;
}
