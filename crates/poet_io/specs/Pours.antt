-- What a file that was poured into an eater leaves.
use Rattle.std.specs.Prelude.{◌≡◌, ℕ, ◌+◌, ◌≤◌, ◌⊎◌, Bool, false, List, [], ◌∷◌, ◌++◌, Option, Some, None, Result, Ok, Err, length}
use Rattle.poet_io.specs.declared.log.Event.{Event}
use Rattle.poet_io.specs.declared.log.Event.TheVariants as event
use Rattle.poet_io.specs.declared.eater.PourRefusal.{PourRefusal}
use Rattle.poet_io.specs.declared.eater.PourRefusal.TheVariants.{Fault, Absent, TooLong}
use Rattle.poet_io.specs.Eaters.{Ate}
use Rattle.poet_io.specs.Events.{ReadSoFar, ReadToEnd, ReadToFault}
use Rattle.poet_io.specs.Reads.{IsAll, IsPart, HasFailed}
use Rattle.poet_io.specs.Shelves.{Files, IfTold, IsAbsent, IsClosed}

-- the file could not be opened, or one of its reads was a fault after these bytes
abbrev pub FailedAfter : List ℕ → List ℕ → List Event → List Event → Type 0
FailedAfter name bytes before now =
    ((bytes ≡ []) × (now ≡ before ++ (event.OpenFailed name ∷ []))) ⊎ ReadToFault name bytes before now

-- the calls that handed over these bytes, and ended so
abbrev pub PourCalls : {T : Type 0} → List ℕ → ℕ → List ℕ → List Event → List Event → Result T PourRefusal → Type 0
PourCalls name limit bytes before now (Ok done) = (length bytes ≤ limit) × ReadToEnd name bytes before now
PourCalls name limit bytes before now (Err Fault) = (length bytes ≤ limit) × FailedAfter name bytes before now
PourCalls name limit bytes before now (Err Absent) = (bytes ≡ []) × (now ≡ before ++ (event.Opened name false ∷ []))
PourCalls name limit bytes before now (Err TooLong) = (length bytes ≡ limit + 1) × ReadSoFar name bytes before now

-- the bytes are a front of this file, and none where there is no file
abbrev pub IsFrontOf : List ℕ → Option (List ℕ) → Type 0
IsFrontOf bytes None = bytes ≡ []
IsFrontOf bytes (Some all) = (rest : List ℕ) × (all ≡ bytes ++ rest)

-- what told files have of these bytes then, and whether a file is open
abbrev pub PourFound : {T : Type 0} → Option Files → List ℕ → List ℕ → Bool → Option (List ℕ) → ℕ → ℕ → Result T PourRefusal → Type 0
PourFound told name bytes is_open left before now (Ok done) = IfTold told (IsAll name bytes left)
PourFound told name bytes is_open left before now (Err Fault) = HasFailed is_open left before now × IfTold told (λ files. IsFrontOf bytes (files name))
PourFound told name bytes is_open left before now (Err Absent) = IsClosed is_open left × IsAbsent told name
PourFound told name bytes is_open left before now (Err TooLong) = IfTold told (IsPart name bytes left)

-- some bytes were eaten, and these were handed over by the calls
pub record Poured {Eater Made T : Type 0} (Stands : Eater → Made → List ℕ → Type 0) (eater_before eater_now : Eater)
    (name : List ℕ) (limit : ℕ) (before now : List Event)
    (told : Option Files) (is_open : Bool) (left : Option (List ℕ)) (faults_before faults_now : ℕ) (result : Result T PourRefusal) : Type 0 where
  pub bytes : List ℕ
  pub eaten : Ate Stands eater_before eater_now bytes
  pub calls : PourCalls name limit bytes before now result
  pub found : PourFound told name bytes is_open left faults_before faults_now result
