-- One text, said in two ways.
use Rattle.std.proofs.Common.{◌≡◌, ◌++◌, ◌∙◌, ℕ, List, Result, ap, subst, append_assoc}
use Rattle.poet_io.specs.Sinks.{Wrote}

pub wrote_as : {T E : Type 0} (before after : List ℕ) (f g : ℕ) (text other : List ℕ) (result : Result T E) → text ≡ other →
    Wrote {T = T} {E = E} before after f g text result → Wrote {T = T} {E = E} before after f g other result
wrote_as {T = T} {E = E} before after f g text other result same wrote = subst (λ xs. Wrote {T = T} {E = E} before after f g xs result) same wrote

-- a text that was written in four pieces
pub four_parts : (t u v w a b c d : List ℕ) → t ≡ a → u ≡ t ++ b → v ≡ u ++ c → w ≡ v ++ d → w ≡ a ++ (b ++ (c ++ d))
four_parts t u v w a b c d first second third fourth =
    fourth ∙ ap (λ (x : List ℕ). x ++ d) (third ∙ ap (λ (x : List ℕ). x ++ c) (second ∙ ap (λ (x : List ℕ). x ++ b) first))
    ∙ append_assoc (a ++ b) c d ∙ append_assoc a b (c ++ d)
