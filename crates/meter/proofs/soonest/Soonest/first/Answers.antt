use Rattle.std.proofs.Common.{◌≡◌, ℕ, ◌%◌, ap, arith, sym, subst}
use Rattle.std.proofs.lemmas.List.{get_or_read}
use Rattle.meter.specs.Soonests.{number_of, IsFirst}
use Rattle.meter.proofs.SoonestFacts.{first_there}
use Rattle.meter.proofs.soonest.Soonest.first.Goals as goal

pub returns : goal.returns
returns c =
    let numbers = c.self.inside.numbers.items in
    let tree = c.self.inside.tree.items in
    let root : c.index.result.now ≡ number_of tree 1 =
    get_or_read tree 1 c.index.result.now (omega (arith, c.self.invariant.count, c.self.invariant.some)) c.index.ensures 0 in
    rw (← c.self.view_is) (subst (IsFirst numbers) (ap (λ (w : ℕ). w % 1024) (sym root)) (first_there numbers tree c.self.invariant))
