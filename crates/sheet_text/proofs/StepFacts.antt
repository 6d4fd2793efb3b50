use Rattle.std.proofs.Common.{◌≡◌, ◌≢◌, List, [], ◌∷◌, length, refl, None}
use Rattle.toml.specs.Data.{array}
use Rattle.toml.specs.View.{items_view}
use Rattle.toml.specs.declared.value.Value.{Value}
use Rattle.sheet_text.specs.CurveRows.{step_of}
use Rattle.sheet_text.specs.TableRows.{slot_of}

pub no_step : (vs : List Value) → length vs ≢ 2 → step_of (array (items_view vs)) ≡ None
no_step [] h = refl
no_step (a ∷ []) h = refl
no_step (a ∷ b ∷ []) h = absurd (h refl)
no_step (a ∷ b ∷ c ∷ vs) h = refl

pub no_slot : (vs : List Value) → length vs ≢ 2 → slot_of (array (items_view vs)) ≡ None
no_slot [] h = refl
no_slot (a ∷ []) h = refl
no_slot (a ∷ b ∷ []) h = absurd (h refl)
no_slot (a ∷ b ∷ c ∷ vs) h = refl
