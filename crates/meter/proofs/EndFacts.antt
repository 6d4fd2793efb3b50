-- Up to which end what counts at a place is right.
use Rattle.std.proofs.Common.{◌≡◌, ℕ, ◌+◌, ◌-◌, ◌≤◌, ◌<◌, min, Bool, true, false, cond, ap, inl, inr, arith, refl, sym, subst}
use Rattle.std.proofs.lemmas.Bool.{cases_lt, lt-leb}
use Rattle.curve.specs.CurveValue.{Curve}
use Rattle.curve.specs.Curves.{alpha_of}
use Rattle.curve.specs.Validity.{IsCurve}
use Rattle.curve.specs.Stairs.{IsStair}
use Rattle.curve.proofs.CurveFacts.{alpha_mono}
use Rattle.task_sheet.specs.declared.tasks.Task.{Task}
use Rattle.policy.specs.declared.keys.Cap.{Cap}
use Rattle.policy.specs.declared.keys.Cap.TheVariants.{Nothing, At, All}
use Rattle.meter.specs.declared.tracks.Place.{Place}
use Rattle.meter.specs.Places.{counted_by, counted_of, stays_by, until_by}
use Rattle.meter.specs.Tracking.{IsEnded}

either_later : (b : Bool) (m n x : ℕ) → x < m → x < n → x < cond b m n
either_later true m n x h l = h
either_later false m n x h l = l

-- a place whose stair is that of the end
pub ended_moved : (task : Task) (kind : Cap) (place : Place) (x : ℕ) → x ≤ 1000000000 → IsStair task.curve place.end (x + task.jitter) →
    IsEnded task x place (until_by kind place task.jitter)
ended_moved task kind place x high stair = record {
  begun = stair.begun;
  open_yet = either_later (stays_by kind place) 2000000000 (min (place.end.until - task.jitter) 2000000000) x
      (omega arith) (omega (arith, stair.open_yet));
}

-- a place whose stair has begun, where what counts stays
pub ended_stays : (task : Task) (kind : Cap) (place : Place) (x : ℕ) → x ≤ 1000000000 → place.end.from ≤ x + task.jitter →
    stays_by kind place ≡ true → IsEnded task x place (until_by kind place task.jitter)
ended_stays task kind place x high begun stays = record {
  begun = begun;
  open_yet = omega (arith, ap (λ (b : Bool). cond b 2000000000 (min (place.end.until - task.jitter) 2000000000)) stays);
}

-- of the jobs that the end admits the curve tells the number
pub counted_right : (curve : Curve) → IsCurve curve → (kind : Cap) (place : Place) (at : ℕ) → IsStair curve place.end at →
    (jitter x : ℕ) → place.end.from ≤ x + jitter → x < until_by kind place jitter →
    counted_of kind place ≡ counted_by kind (alpha_of curve (x + jitter)) place.count
counted_right curve ok Nothing place at stair jitter x begun before = refl
counted_right curve ok All place at stair jitter x begun before = sym (stair.flat (x + jitter) begun (omega (arith, before)))
counted_right curve ok (At c) place at stair jitter x begun before = elim (cases_lt place.end.value place.count) [
  | inl more ↦
      let later = min (place.end.until - jitter) 2000000000 in
      let moves : x < later = subst (λ (b : Bool). x < cond b 2000000000 later) (lt-leb place.count place.end.value more) before in
      omega (arith, stair.flat (x + jitter) begun (omega (arith, moves)))
  | inr enough ↦ omega (
    arith,
    enough,
    stair.flat place.end.from (omega arith) (omega (arith, stair.begun, stair.open_yet)),
    alpha_mono curve ok place.end.from (x + jitter) begun,
  )
]
