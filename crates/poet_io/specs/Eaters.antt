use Rattle.std.specs.Prelude.{ℕ, List, ◌++◌}

-- whatever bytes a value stood for before, it stands for them and these behind them, and for what it was made with
pub record Ate {Eater Made : Type 0} (Stands : Eater → Made → List ℕ → Type 0) (before now : Eater) (bytes : List ℕ) : Type 0 where
  pub stands : (made : Made) (eaten : List ℕ) → Stands before made eaten → Stands now made (eaten ++ bytes)
