-- What a meter's parts say together.
use Rattle.std.proofs.Common.{◌≡◌, ℕ, ◌+◌, ◌-◌, ◌^◌, ◌≤◌, ◌∙◌, List, ap, arith}
use Rattle.task_sheet.specs.SheetParts.{SheetParts}
use Rattle.policy.specs.PolicyMeaning.{PolicyMeaning}
use Rattle.policy.specs.PolicyLaws.{IsLawfulPolicy}
use Rattle.preemption.specs.CutMeaning.{CutMeaning}
use Rattle.demand.specs.Demand.{need_of}
use Rattle.meter.specs.declared.blockers.Blocker.{Blocker}
use Rattle.meter.specs.declared.tracks.Tracks.{Tracks}
use Rattle.meter.specs.Meters.{IsMetering}
use Rattle.meter.proofs.PlaceFacts.{sum_high}
use Rattle.meter.proofs.MoveFacts.{near_of}
use Rattle.meter.proofs.NeedFacts.{rest_le, need_is}

module _ (p : PolicyMeaning) (m : CutMeaning) (sheet : SheetParts) (i a x : ℕ) (t : Tracks) (begun : List ℕ) (blocker : Blocker)
    (rest : ℕ) (is : IsMetering p m sheet i a x t begun blocker rest) where
  pub whole_high : t.sum ≤ 2 ^ 91
  whole_high =
      let tracking = is.seated.tracking in
      omega (arith, tracking.sum_is, sum_high p sheet is.valid i t.places.items (near_of p sheet i t.places.items t.untils t.sum tracking))

  module _ (lawful : IsLawfulPolicy p sheet) where
    pub rest_within : rest ≤ t.sum
    rest_within = omega (arith, is.rest_is, rest_le p m sheet is.valid lawful i a x is.in_range t is.seated)

    pub need_exact : blocker.block + (t.sum - rest) ≡ need_of p m sheet i a x
    need_exact =
        let need = need_is p m sheet is.valid lawful i a x is.in_range t is.seated blocker.block is.blocker_is.greatest in
        ap (λ w. blocker.block + (t.sum - w)) is.rest_is ∙ need
