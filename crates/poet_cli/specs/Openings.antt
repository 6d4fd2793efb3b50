-- The names that a command opened.
use Rattle.std.specs.Prelude.{◌≡◌, ℕ, List, [], ◌∷◌, ◌++◌}
use Rattle.poet_io.specs.declared.log.Event.{Event}
use Rattle.poet_io.specs.declared.log.Event.TheVariants.{Opened, OpenFailed, Read, ReadFailed}

-- the names of the openings among some calls, in their order
abbrev pub opened_in : List Event → List (List ℕ)
opened_in [] = []
opened_in (Opened name found ∷ events) = name ∷ opened_in events
opened_in (OpenFailed name ∷ events) = name ∷ opened_in events
opened_in (Read room bytes ∷ events) = opened_in events
opened_in (ReadFailed ∷ events) = opened_in events

-- the calls since opened these names, in this order, and no other
pub record Opens (before now : List Event) (names : List (List ℕ)) : Type 0 where
  pub calls : List Event
  pub since : now ≡ before ++ calls
  pub names_are : opened_in calls ≡ names

-- they opened a front of these names, in their order
pub record OpensFront (names : List (List ℕ)) (before now : List Event) : Type 0 where
  pub front : List (List ℕ)
  pub rest : List (List ℕ)
  pub whole : names ≡ front ++ rest
  pub opens : Opens before now front
