use Rattle.std.proofs.Common.{◌≡◌, ℕ, ◌*◌, ◌+◌, ◌<◌, List, length, set, ap, arith, sym, subst}
use Rattle.std.specs.Vec.{with_items}
use Rattle.std.proofs.lemmas.List.{with_items_is}
use Rattle.meter.specs.Soonests.{IsSoonest, IsRenewed}
use Rattle.meter.proofs.SoonestFacts.{soonest_set}
use Rattle.meter.proofs.soonest.Soonest.set.Goals as goal

pub invariant_of-self : goal.invariant_of-self
invariant_of-self c =
    let numbers = c.self.inside.numbers.items in
    let tree = c.self.inside.tree in
    let k = c.args.k in
    let number = c.args.number in
    let after = c.renew.new.tree in
    let within : k < length numbers = omega (arith, c.requires.place, ap length c.self.view_is) in
    let count : c.len.result ≡ length numbers = omega (arith, c.len.ensures) in
    let items : (with_items tree after).items ≡ after = with_items_is tree after (omega (arith, c.renew.ensures.count, c.deref_mut.ensures.len)) in
    subst (IsSoonest (set numbers k number)) (sym items)
    (soonest_set numbers tree.items c.self.invariant k number within after
    (subst (λ (xs : List ℕ). IsRenewed xs (length numbers + k) (number * 1024 + k) after) c.deref_mut.ensures.value
    (subst (λ (n : ℕ). IsRenewed c.deref_mut.result.now (n + k) (number * 1024 + k) after) count c.renew.ensures)))
