-- The first line of some bytes, and what its last byte says.
use Rattle.std.specs.Prelude.{◌≡◌, ℕ, ◌-◌, ◌<◌, ◌≤◌, List, [], ◌∷◌, Option, Some, None, length, take}
use Rattle.poet_io.specs.Texts.{newlines}
use Rattle.certificate.specs.Text.{PointLine, IsPoint, IsTerms}
use Rattle.certificate.specs.Progress.{Progress}
use Rattle.certificate.specs.Machine.{after_byte, next_place}
use Rattle.certificate.specs.declared.cert.Version.{Version}
use Rattle.certificate.specs.declared.cert.Version.TheVariants.{One, Two}
use Rattle.certificate.specs.declared.cert.Terms.{Terms}
use Rattle.certificate.specs.declared.place.Expected.{Expected}
use Rattle.certificate.specs.declared.place.Expected.TheVariants.{Nothing}
use Rattle.certificate.specs.declared.step.LineStep.{LineStep}
use Rattle.certificate.specs.declared.step.LineStep.TheVariants as says

-- n bytes are the first line with its newline, or all of the bytes where none is a newline
pub record IsFirstLine (bytes : List ℕ) (n : ℕ) : Type 0 where
  pub within : n ≤ length bytes
  pub inside : newlines (take (n - 1) bytes) ≡ 0
  pub whole : n < length bytes → newlines (take n bytes) ≡ 1

-- what is said where no byte comes
abbrev pub said_at : Expected → LineStep
said_at Nothing = says.Bad
said_at _ = says.More

-- what the last of these bytes says, and where there is none what was said before
abbrev pub said_after : LineStep → Progress → List ℕ → LineStep
said_after s l [] = s
said_after s l (x ∷ xs) = said_after (next_place l.place x).1 (after_byte l x) xs

-- a point has terms in the second version alone
abbrev pub HasTerms : Version → Option Terms → Type 0
HasTerms One None = Unit {0}
HasTerms One (Some t) = ⊥
HasTerms Two None = ⊥
HasTerms Two (Some t) = IsTerms t

-- what the line of a point says in the version
pub record IsLineOf (version : Version) (l : PointLine) : Type 0 where
  pub point : IsPoint l.point
  pub terms : HasTerms version l.terms
