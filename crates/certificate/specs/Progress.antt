use Rattle.std.specs.Prelude.{ℕ}
use Rattle.certificate.specs.declared.place.Place.{Place}

-- how far a text was read: the place, and the line that a refusal names
pub record Progress : Type 0 where
  pub place : Place
  pub line : ℕ
