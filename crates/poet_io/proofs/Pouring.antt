-- How a pouring ends.
use Rattle.std.proofs.Common.{◌≡◌, ◌⊎◌, ℕ, ◌≤◌, Bool, List, [], ◌∷◌, ◌++◌, Option, Some, None, Result, Err, length, arith, refl, inl, inr}
use Rattle.poet_io.specs.declared.log.Event.{Event}
use Rattle.poet_io.specs.declared.log.Event.TheVariants as event
use Rattle.poet_io.specs.declared.eater.PourRefusal.{PourRefusal}
use Rattle.poet_io.specs.declared.eater.PourRefusal.TheVariants.{Fault}
use Rattle.poet_io.specs.Eaters.{Ate}
use Rattle.poet_io.specs.Events.{ReadSoFar, ReadToFault}
use Rattle.poet_io.specs.Pours.{IsFrontOf, Poured}
use Rattle.poet_io.specs.Reads.{HasFailed}
use Rattle.poet_io.specs.Shelves.{Files, IfTold}
use Rattle.poet_io.proofs.Eating.{ate_none}
use Rattle.poet_io.proofs.Reading.{SoFar}

nothing_is_front : (file : Option (List ℕ)) → IsFrontOf [] file
nothing_is_front None = refl
nothing_is_front (Some all) = (all, refl)

front_none : (told : Option Files) (name : List ℕ) → IfTold told (λ files. IsFrontOf [] (files name))
front_none None name = tt
front_none (Some files) name = nothing_is_front (files name)

-- what was read so far is a front of the file
pub front_so_far : (told : Option Files) (name bytes : List ℕ) (left : Option (List ℕ)) → SoFar told name bytes left →
    IfTold told (λ files. IsFrontOf bytes (files name))
front_so_far None name bytes left so_far = tt
front_so_far (Some files) name bytes left so_far = rw so_far.file (so_far.rest, refl)

-- nothing was opened
pub poured_nothing : {Eater Made T : Type 0} (Stands : Eater → Made → List ℕ →
    Type 0) (eater : Eater) (name : List ℕ) (limit : ℕ) (before now : List Event) (told : Option Files) (is_open : Bool) (left : Option (List ℕ)) (f g : ℕ)
    (result : Result T PourRefusal) →
    result ≡ Err Fault → now ≡ before ++ (event.OpenFailed name ∷ []) → HasFailed is_open left f g →
    Poured {T = T} Stands eater eater name limit before now told is_open left f g result
poured_nothing Stands eater name limit before now told is_open left f g result e calls failed =
    rw e (record { bytes = []; eaten = ate_none Stands eater; calls = (omega arith, inl (refl, calls)); found = (failed, front_none told name) })

-- a read was a fault
pub poured_front : {Eater Made T : Type 0} (Stands : Eater → Made → List ℕ →
    Type 0) (eater after : Eater) (name bytes : List ℕ) (limit : ℕ) (before middle now : List Event) (told : Option Files) (is_open : Bool)
    (left later : Option (List ℕ)) (f g : ℕ) (result : Result T PourRefusal) →
    result ≡ Err Fault → Ate Stands eater after bytes → length bytes ≤ limit → ReadSoFar name bytes before middle →
    now ≡ middle ++ (event.ReadFailed ∷ []) → SoFar told name bytes left → HasFailed is_open later f g →
    Poured {T = T} Stands eater after name limit before now told is_open later f g result
poured_front Stands eater after name bytes limit before middle now told is_open left later f g result e eaten few read calls so_far failed =
    rw e (record {
      bytes = bytes;
      eaten = eaten;
      calls = (few, inr (record { middle = middle; so_far = read; failed = calls }));
      found = (failed, front_so_far told name bytes left so_far);
    })
