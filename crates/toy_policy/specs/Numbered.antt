use Rattle.std.specs.Prelude.{pos, nat_lt, nat_le, if◌then◌else◌}
use Rattle.policy.specs.declared.keys.Cap.TheVariants.{Nothing, All}
use Rattle.policy.specs.PolicyMeaning.{PolicyMeaning}

-- tasks by their numbers, and the jobs of one task by their arrivals: smaller numbers interfere, greater ones may block
abbrev pub by_number_meaning : PolicyMeaning
by_number_meaning = record {
  key = λ sheet j. record { high = pos j.task; low = pos j.arrival };
  class = λ sheet i o. nat_le o i;
  cap = λ sheet i o a. if nat_lt o i then All else Nothing;
  may_block = λ sheet i o a. nat_lt i o;
  may_delay = λ sheet i o. nat_lt i o;
}
