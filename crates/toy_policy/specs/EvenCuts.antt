use Rattle.std.specs.Prelude.{◌-◌, ◌%◌, ◌==◌, ◌||◌, min, nat_le, true, if◌then◌else◌}
use Rattle.lists.specs.Ranges.{is_between}
use Rattle.preemption.specs.CutMeaning.{CutMeaning}

-- a job can be cut at each even service and once it is done, whatever the sheet says of its task
abbrev pub even_meaning : CutMeaning
even_meaning = record {
  cuttable = λ task j s. (s % 2 == 0) || nat_le j.cost s;
  longest = λ task. min task.cost 2;
  -- after the last even service below the cost
  threshold = λ task. if task.cost % 2 == 0 then task.cost - 1 else task.cost;
  fits = λ task j. is_between 1 task.cost j.cost;
  serves = λ task. true;
}
