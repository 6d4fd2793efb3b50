use Rattle.std.proofs.lemmas.Bool.{both_ways}
use Rattle.audit.proofs.undone.next_place.Goals as goal

pub place_after-place-requires-clause-done : goal.place_after-place-requires-clause-done
place_after-place-requires-clause-done c = λ left. both_ways c.is_left.result c.if-is_left.false (c.is_left.ensures.1 left)
