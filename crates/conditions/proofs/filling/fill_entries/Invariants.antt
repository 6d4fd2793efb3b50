use Rattle.std.proofs.Common.{◌≡◌, length, take, drop, All}
use Rattle.certificate.specs.declared.cert.Version.TheVariants.{Two}
use Rattle.certificate.specs.Text.{IsEntry, HasTermsOf}
use Rattle.conditions.specs.Filled.{entries_with_terms}
use Rattle.conditions.proofs.filling.fill_entries.Given as goal

abbrev pub invariant-loop-i : goal.invariant-loop-i
invariant-loop-i g l = record {
  count : length l.entries ≡ length l.sheet.tasks;
  done : take l.i l.entries ≡ entries_with_terms g.P.Policy.meaning g.M.Preemption.cuts l.sheet 0 (take l.i l.fn.entries);
  left : drop l.i l.entries ≡ drop l.i l.fn.entries;
  fits : All IsEntry l.entries;
  room : All (HasTermsOf Two) l.entries;
}
