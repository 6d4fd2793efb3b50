use Rattle.std.proofs.Common.{◌≡◌, ◌≤◌, ◌+◌, ◌*◌, length, drop}
use Rattle.certificate.specs.Text.{entries_text, text_of}
use Rattle.certificate.proofs.measuring.text_len.Given as goal

abbrev pub invariant-loop-task : goal.invariant-loop-task
invariant-loop-task l = record {
  exact : l.len + length (entries_text l.task (drop l.task l.cert.entries)) ≡ length (text_of l.cert);
  short : l.len ≤ 62 + 250000170 * l.task;
}
