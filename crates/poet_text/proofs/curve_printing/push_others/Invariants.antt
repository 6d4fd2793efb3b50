use Rattle.std.proofs.Common.{◌≡◌, ◌++◌, take}
use Rattle.std.specs.List.{flat_map}
use Rattle.poet_text.specs.CurvePrinting.{next_text}
use Rattle.poet_text.proofs.curve_printing.push_others.Given as goal

abbrev pub invariant-loop-step : goal.invariant-loop-step
invariant-loop-step l = l.out.items ≡ l.fn.out.items ++ flat_map next_text (take l.step-index l.steps)
