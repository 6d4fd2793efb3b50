use Rattle.std.proofs.Common.{rules, sym, ◌∙◌}
use Rattle.schedule_laws.proofs.TestFacts.{valid_named}
use Rattle.compliance_tests.proofs.compliance.found_at.Goals as goal

pub priority_broken-requires-clause-named : goal.priority_broken-requires-clause-named
priority_broken-requires-clause-named c = valid_named c.args.run.now c.args.t (sym c.valid_at.ensures ∙ (search rules))
