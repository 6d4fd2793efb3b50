use Rattle.std.specs.Prelude.{◌+◌, ◌&&◌, true, pos, ◌-ℤ◌, nat_lt, nat_le, if◌then◌else◌}
use Rattle.lists.specs.Limits.{greatest_number}
use Rattle.task_sheet.specs.Sheets.{task_at}
use Rattle.policy.specs.declared.keys.Cap.TheVariants.{Nothing, At, All}
use Rattle.policy.specs.PolicyMeaning.{PolicyMeaning}

-- fixed priority: tasks of no smaller priority interfere, all others may block
abbrev pub fp_meaning : PolicyMeaning
fp_meaning = record {
  key = λ sheet j. record { high = pos greatest_number -ℤ pos (task_at sheet j.task).priority; low = pos 0 };
  class = λ sheet i o. nat_le (task_at sheet i).priority (task_at sheet o).priority;
  cap = λ sheet i o a. if nat_le (task_at sheet i).priority (task_at sheet o).priority then All else Nothing;
  may_block = λ sheet i o a. nat_lt (task_at sheet o).priority (task_at sheet i).priority;
  may_delay = λ sheet i o. nat_lt (task_at sheet o).priority (task_at sheet i).priority;
}

-- earliest deadline first: jobs whose deadline is no later interfere, those of a later one may block
abbrev pub edf_meaning : PolicyMeaning
edf_meaning = record {
  key = λ sheet j. record { high = pos (j.arrival + (task_at sheet j.task).deadline); low = pos 0 };
  class = λ sheet i o. true;
  cap = λ sheet i o a. At (pos (a + 1 + (task_at sheet i).deadline + (task_at sheet o).jitter) -ℤ pos (task_at sheet o).deadline);
  may_block = λ sheet i o a. nat_lt ((task_at sheet i).deadline + a) ((task_at sheet o).deadline + (task_at sheet i).jitter);
  may_delay = λ sheet i o. nat_lt (task_at sheet i).deadline ((task_at sheet o).deadline + (task_at sheet i).jitter) && nat_lt 0
      ((task_at sheet i).jitter + (task_at sheet o).jitter);
}

-- first in, first out: jobs that arrived no later interfere, those that arrived later but were released before may block
abbrev pub fifo_meaning : PolicyMeaning
fifo_meaning = record {
  key = λ sheet j. record { high = pos j.arrival; low = pos 0 };
  class = λ sheet i o. true;
  cap = λ sheet i o a. At (pos (a + 1 + (task_at sheet o).jitter));
  may_block = λ sheet i o a. nat_lt a (task_at sheet i).jitter;
  may_delay = λ sheet i o. nat_lt 0 (task_at sheet i).jitter;
}
