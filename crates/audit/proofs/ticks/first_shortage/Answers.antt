use Rattle.std.proofs.Common.{sym}
use Rattle.supply.specs.Lawful.{stated_starts}
use Rattle.audit.proofs.FaultFacts.{short_some, short_none}
use Rattle.audit.proofs.ticks.first_shortage.Goals as goal

pub returns-in_default : goal.returns-in_default
returns-in_default c = sym (short_none _ c.args.run.now (stated_starts c.args.sheet.now c.len-valid.ensures.valid) (rw c.in_default.is at c.in_ok-t.ensures))

pub returns : goal.returns
returns c = sym (short_some _ c.args.run.now c.in-Some.t (stated_starts c.args.sheet.now c.len-valid.ensures.valid) (rw c.in-Some.is at c.in_ok-t.ensures))
