-- What stretches stand for.
use Rattle.std.specs.Prelude.{◌≡◌, ◌≤◌, false, List, [], ◌∷◌, flat_map, replicate}
use Rattle.run_model.specs.declared.run.Tick.{Tick}
use Rattle.run_text.specs.Text.{Stretch, is_same}

-- the ticks of the stretches, one after the other
abbrev pub ticks_of : List Stretch → List Tick
ticks_of stretches = flat_map (λ s. replicate s.count s.tick) stretches

-- no two neighbours are of the same tick
abbrev pub AreApart : List Stretch → Type 0
AreApart [] = Unit {0}
AreApart (s ∷ []) = Unit {0}
AreApart (s ∷ (r ∷ ss)) = (is_same s.tick r.tick ≡ false) × AreApart (r ∷ ss)

-- the stretch has a tick
abbrev pub HasTick : Stretch → Type 0
HasTick s = 1 ≤ s.count
