use Rattle.std.proofs.Common.{◌≡◌, [], replicate, length, refl, sym, subst, rules}
use Rattle.cert_check.specs.JudgedLines.{unjudged}
use Rattle.cert_check.specs.Standing.{IsReady}
use Rattle.cert_check.proofs.CheckerFacts.{first_ready}
use Rattle.cert_check.proofs.StandingFacts.{fresh}
use Rattle.cert_check.proofs.checker.Checker.new.Goals as goal

pub invariant_of-result : goal.invariant_of-result
invariant_of-result g c =
    let zeros : c.in_ok-bounds.bounds.items ≡ replicate (length c.args.sheet.now.tasks) 0 = search rules in
    record {
      bytes = [];
      fed = fresh _ _ _ _ _ _ _ c.new-2.ensures zeros;
      served = c.requires;
      ready = subst (λ v. IsReady c.args.sheet.now v unjudged) (sym c.in_ok-meter.ensures)
          (first_ready c.args.sheet.now c.len.ensures.valid);
    }

pub returns : goal.returns
returns g c = record {
  sheet_is = refl;
  supply_is = refl;
  deadlines_are = refl;
  fed = fresh _ _ _ _ _ _ _ c.new-2.ensures (search rules);
}
