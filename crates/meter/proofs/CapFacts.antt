use Rattle.std.proofs.Common.{◌≢◌, ℕ, ◌+◌, ◌≤◌, ◌<◌, length, arith, inl, inr}
use Rattle.std.proofs.lemmas.Bool.{cases_lt}
use Rattle.lists.specs.Searches.{IsLeast}
use Rattle.task_sheet.specs.SheetParts.{SheetParts}
use Rattle.policy.specs.declared.keys.Cap.{Cap}
use Rattle.policy.specs.declared.keys.Cap.TheVariants.{Nothing, At, All}
use Rattle.policy.proofs.KeyFacts.{floor_mono}
use Rattle.policy.specs.PolicyMeaning.{PolicyMeaning}
use Rattle.policy.specs.PolicyLaws.{IsLawfulPolicy, GrowsTo}
use Rattle.meter.specs.CapNumbers.{reach_of, reach_at}

reach_grows : (c d : Cap) → GrowsTo c d → reach_of c ≤ reach_of d
reach_grows Nothing Nothing h = omega arith
reach_grows Nothing (At d) h = absurd h
reach_grows Nothing All h = absurd h
reach_grows (At c) Nothing h = absurd h
reach_grows (At c) (At d) h = floor_mono c d h
reach_grows (At c) All h = absurd h
reach_grows All Nothing h = absurd h
reach_grows All (At d) h = absurd h
reach_grows All All h = omega arith

module _ (p : PolicyMeaning) (sheet : SheetParts) (lawful : IsLawfulPolicy p sheet) (i o : ℕ) (in_i : i < length sheet.tasks)
    (in_o : o < length sheet.tasks) (ne : i ≢ o) where
  pub reach_mono : (a b : ℕ) → a ≤ b → reach_at p sheet i o a ≤ reach_at p sheet i o b
  reach_mono a b h = reach_grows (p.cap sheet i o a) (p.cap sheet i o b) (lawful.cap_grows i o a b in_i in_o ne h)

  -- the first offset past one at which the number is less
  pub least_past : (e low high : ℕ) → high ≤ low + 1 → reach_at p sheet i o low < e → e ≤ reach_at p sheet i o high →
      IsLeast (λ b. e ≤ reach_at p sheet i o b) high
  least_past e low high near less more = record {
    holds = more;
    least = λ k h. elim (cases_lt low k) [
      | inl past ↦ omega arith
      | inr back ↦ absurd (omega (arith, reach_mono k low back))
    ];
  }

  pub none_to : (e last : ℕ) → reach_at p sheet i o last < e → (k : ℕ) → k ≤ last → e ≤ reach_at p sheet i o k → ⊥
  none_to e last less k h more = absurd (omega (arith, reach_mono k last h))
