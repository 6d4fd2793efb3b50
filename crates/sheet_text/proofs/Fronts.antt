use Rattle.std.proofs.Common.{◌≡◌, List, ◌++◌, Option, Some, None, is_some, option_map, refl}

-- what was read before, and what is still to be read
abbrev pub with_front : {X : Type 0} → List X → Option (List X) → Option (List X)
with_front front None = None
with_front front (Some xs) = Some (front ++ xs)

-- something is there where something is seen
pub is_some_seen : {X Y : Type 0} (f : X → Y) (o : Option X) → is_some (option_map f o) ≡ is_some o
is_some_seen f None = refl
is_some_seen f (Some x) = refl
