use Rattle.std.specs.Prelude.{ℕ, List}

-- what a promise says
pub record PromiseParts : Type 0 where
  pub horizon : ℕ
  pub times : List ℕ
