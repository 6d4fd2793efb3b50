use Rattle.std.proofs.Common.{◌≡◌, ℕ, ◌+◌, ◌<◌, false}
use Rattle.schedule_laws.specs.Tests.{is_short}
use Rattle.supply.specs.Promises.{sbf_of}
use Rattle.windows.proofs.TickCounts.{KeepsCount}
use Rattle.windows.proofs.supplied.first_short.Given as goal

abbrev pub invariant-loop-t : goal.invariant-loop-t
invariant-loop-t l = record {
  kept : KeepsCount l.run l.counts.items l.t l.supplied;
  free : (s : ℕ) → s < l.t →
      is_short (sbf_of l.sheet.supply) l.run (s + 1) ≡ false;
}
