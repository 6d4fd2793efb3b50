use Rattle.std.proofs.Common.{◌≡◌, take}
use Rattle.poet_io.specs.Texts.{newlines}
use Rattle.certificate.specs.FirstLines.{said_at, said_after}
use Rattle.certificate.specs.Machine.{after_bytes}
use Rattle.certificate.proofs.lines.Lines.advance_line.Given as goal

abbrev pub invariant-loop-at : goal.invariant-loop-at
invariant-loop-at l = record {
  progress : l.self ≡ after_bytes l.fn.self (take l.at l.bytes);
  step : l.step ≡ said_after (said_at l.fn.self.place.expected) l.fn.self (take l.at l.bytes);
  none : newlines (take l.at l.bytes) ≡ 0;
}
