use Rattle.std.proofs.Common.{◌≡◌, ◌++◌, drop, length, codes, decimal}
use Rattle.certificate.specs.Text.{head_of, entries_text}
use Rattle.certificate.proofs.writing.write_cert.Given as goal

abbrev pub invariant-loop-task : goal.invariant-loop-task
invariant-loop-task l =
    l.out.items ++ entries_text l.task (drop l.task l.cert.entries) ≡ head_of l.cert.version ++
    (codes "tasks " ++ (decimal (length l.cert.entries) ++ (codes "\n" ++ entries_text 0 l.cert.entries)))
