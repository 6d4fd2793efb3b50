use Rattle.std.proofs.Common.{◌≡◌, ℕ, ◌||◌, Bool, List, [], ◌∷◌, length, map, refl, ap, arith, String, Global, string_bytes}
use Rattle.std.specs.Prelude.{bytes_eq}
use Rattle.std.specs.List.{list_any}
use Rattle.std.specs.String.{string_eq}
use Rattle.toml.specs.declared.value.Value.{Value}
use Rattle.toml.specs.View.{items_view}
use Rattle.sheet_text.specs.Documents.{items_count}

pub items_count-view : (vs : List Value) → items_count (items_view vs) ≡ length vs
items_count-view [] = refl
items_count-view (v ∷ vs) = omega (arith, items_count-view vs)

pub ruleset counts = (items_count-view)

pub list_any-map : {X Y : Type 0} (p : Y → Bool) (h : X → Y) (xs : List X) → list_any p (map h xs) ≡ list_any (λ x. p (h x)) xs
list_any-map p h [] = refl
list_any-map p h (x ∷ xs) = ap (λ b. p (h x) || b) (list_any-map p h xs)

-- a name among the keys of a set
pub name_among : (q : List ℕ) (k : String Global) (ks : List (String Global)) → string_bytes k ≡ q →
    list_any (bytes_eq q) (map string_bytes ks) ≡ list_any (string_eq k) ks
name_among q k ks same = rw (← same) (list_any-map (bytes_eq (string_bytes k)) string_bytes ks)
