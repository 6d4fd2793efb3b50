use Rattle.std.proofs.Common.{◌≡◌, ◌++◌, drop}
use Rattle.poet_text.specs.PromisePrinting.{times_text}
use Rattle.poet_text.proofs.promise_printing.push_times.Given as goal

abbrev pub invariant-loop-time : goal.invariant-loop-time
invariant-loop-time l = record { rest : l.out.items ++ times_text (drop l.time-index l.times) ≡ l.fn.out.items ++ times_text l.times }
