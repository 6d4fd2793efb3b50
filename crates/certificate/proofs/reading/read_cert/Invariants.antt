use Rattle.std.proofs.Common.{◌≡◌, ◌≤◌, ◌-◌, ◌++◌, ℕ, List, length, take}
use Rattle.poet_io.specs.Texts.{Parses, newlines}
use Rattle.certificate.specs.Text.{cert_format}
use Rattle.certificate.specs.Steps.{steps_of}
use Rattle.certificate.specs.Parsing.{entries_of}
use Rattle.certificate.specs.Machine.{StandsFor}
use Rattle.certificate.specs.declared.cert.Cert.{Cert}
use Rattle.certificate.proofs.reading.read_cert.Given as goal

abbrev pub invariant-loop-at : goal.invariant-loop-at
invariant-loop-at l = record {
  within : l.at ≤ length l.bytes;
  stands : StandsFor l.lines (take l.at l.bytes);
  so_far : (more : List ℕ) (c : Cert) → Parses cert_format (take l.at l.bytes ++ more) c →
      l.entries.items ≡ entries_of (take (newlines (take l.at l.bytes)) (steps_of c));
}

abbrev pub decreases-loop-at : goal.decreases-loop-at
decreases-loop-at l = length l.bytes - l.at
