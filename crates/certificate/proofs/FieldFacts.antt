-- Tests of bytes and numbers, and the ranges of the fields.
use Rattle.std.proofs.Common.{◌≡◌, ℕ, ◌<◌, ◌≤◌, ◌==◌, Bool, true, false, not, ◌&&◌, nat_le, refl, arith}
use Rattle.std.specs.Char.{is_ascii_digit}
use Rattle.std.proofs.lemmas.Bool.Decides.{nat_tests}
use Rattle.std.proofs.lemmas.Bool.{and_parts}
use Rattle.poet_io.proofs.DecimalFacts.{digit_from_test}
use Rattle.certificate.specs.Text.{greatest_term}
use Rattle.certificate.specs.Machine.{least, greatest, ender}
use Rattle.certificate.specs.declared.cert.Version.{Version}
use Rattle.certificate.specs.declared.cert.Version.TheVariants.{One, Two}
use Rattle.certificate.specs.declared.place.Field.{Field}
use Rattle.certificate.specs.declared.place.Field.TheVariants as field

-- what a test says, for a goal that mentions the test
pub cases : {A : Type 0} (b : Bool) → (b ≡ true → A) → (b ≡ false → A) → A
cases true f g = f refl
cases false f g = g refl

pub eq_from_test : (a b : ℕ) → (a == b) ≡ true → a ≡ b
eq_from_test a b h = grind (arith, nat_tests)

pub ne_from_test : (a b : ℕ) → (a == b) ≡ false → a ≡ b → ⊥
ne_from_test a b h e = grind (arith, nat_tests)

pub le_from_test : (a b : ℕ) → nat_le a b ≡ true → a ≤ b
le_from_test a b h = grind (arith, nat_tests)

pub positive_from_test : (v : ℕ) → not (v == 0) ≡ true → 0 < v
positive_from_test v h = grind (arith, nat_tests)

pub digit_and : (x : ℕ) (b : Bool) → is_ascii_digit x && b ≡ true → (48 ≤ x) × (x ≤ 57) × (b ≡ true)
digit_and x b h =
    let p = and_parts (is_ascii_digit x) b h in
    let d = digit_from_test x p.0 in
    (d.0, d.1, p.1)

pub digit_is_inside : (x : ℕ) → is_ascii_digit x ≡ true → (x == 10) ≡ false
digit_is_inside x h = grind (arith, nat_tests)

pub least_one : (f : Field) → least f ≤ 1
least_one field.Tasks = omega arith
least_one (field.Count w r) = omega arith
least_one field.Window = omega arith
least_one (field.Bound w) = omega arith
least_one field.Offset = omega arith
least_one (field.Finish a) = omega arith
least_one (field.Blocking p) = omega arith
least_one (field.Own p b) = omega arith
least_one (field.Others p b o) = omega arith
least_one (field.Need p b o h) = omega arith

pub nine_fits : (f : Field) → 9 ≤ greatest f
nine_fits field.Tasks = omega arith
nine_fits (field.Count w r) = omega arith
nine_fits field.Window = omega arith
nine_fits (field.Bound w) = omega arith
nine_fits field.Offset = omega arith
nine_fits (field.Finish a) = omega arith
nine_fits (field.Blocking p) = omega arith
nine_fits (field.Own p b) = omega arith
nine_fits (field.Others p b o) = omega arith
nine_fits (field.Need p b o h) = omega arith

pub greatest_small : (f : Field) → greatest f ≤ greatest_term
greatest_small field.Tasks = omega arith
greatest_small (field.Count w r) = omega arith
greatest_small field.Window = omega arith
greatest_small (field.Bound w) = omega arith
greatest_small field.Offset = omega arith
greatest_small (field.Finish a) = omega arith
greatest_small (field.Blocking p) = omega arith
greatest_small (field.Own p b) = omega arith
greatest_small (field.Others p b o) = omega arith
greatest_small (field.Need p b o h) = omega arith

pub ender_small : (v : Version) (f : Field) → ender v f ≤ 32
ender_small v field.Tasks = omega arith
ender_small v (field.Count w r) = omega arith
ender_small v field.Window = omega arith
ender_small v (field.Bound w) = omega arith
ender_small v field.Offset = omega arith
ender_small One (field.Finish a) = omega arith
ender_small Two (field.Finish a) = omega arith
ender_small v (field.Blocking p) = omega arith
ender_small v (field.Own p b) = omega arith
ender_small v (field.Others p b o) = omega arith
ender_small v (field.Need p b o h) = omega arith
