-- What an eater stands for, one piece after the other.
use Rattle.std.proofs.Common.{ℕ, List, [], ◌++◌, append_assoc, append-nil}
use Rattle.poet_io.specs.Eaters.{Ate}

pub ate_none : {Eater Made : Type 0} (Stands : Eater → Made → List ℕ → Type 0) (eater : Eater) → Ate Stands eater eater []
ate_none Stands eater = record { stands = λ made eaten here. rw (append-nil eaten) here }

pub ate_more : {Eater Made : Type 0} (Stands : Eater → Made → List ℕ → Type 0) (before middle now : Eater) (bytes more : List ℕ) →
    Ate Stands before middle bytes → Ate Stands middle now more → Ate Stands before now (bytes ++ more)
ate_more Stands before middle now bytes more first next =
    record { stands = λ made eaten here. rw (← append_assoc eaten bytes more) (next.stands made (eaten ++ bytes) (first.stands made eaten here)) }
