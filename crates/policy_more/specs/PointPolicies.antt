use Rattle.std.specs.Prelude.{ℕ, ◌+◌, ◌&&◌, ◌==◌, true, false, pos, ◌+ℤ◌, ◌-ℤ◌, int_lt, nat_lt, nat_le, if◌then◌else◌}
use Rattle.lists.specs.Limits.{greatest_number}
use Rattle.task_sheet.specs.SheetParts.{SheetParts}
use Rattle.task_sheet.specs.Sheets.{task_at}
use Rattle.policy.specs.declared.keys.Cap.TheVariants.{Nothing, At, All}
use Rattle.policy.specs.PolicyMeaning.{PolicyMeaning}

-- by priority points: jobs whose arrival plus point is no later interfere, those of a later one may block
abbrev pub gel_meaning : PolicyMeaning
gel_meaning = record {
  key = λ sheet j. record { high = pos j.arrival +ℤ (task_at sheet j.task).point; low = pos 0 };
  class = λ sheet i o. true;
  cap = λ sheet i o a. At ((pos (a + 1 + (task_at sheet o).jitter) +ℤ (task_at sheet i).point) -ℤ (task_at sheet o).point);
  may_block = λ sheet i o a. int_lt ((task_at sheet i).point +ℤ pos a) ((task_at sheet o).point +ℤ pos (task_at sheet i).jitter);
  may_delay = λ sheet i o. int_lt (task_at sheet i).point ((task_at sheet o).point +ℤ pos (task_at sheet i).jitter) && nat_lt 0
      ((task_at sheet i).jitter + (task_at sheet o).jitter);
}

-- what holds of task o against task i: where its priority is greater, equal, or lower
abbrev pub by_priority : {A : Type 0} → SheetParts → ℕ → ℕ → A → A → A → A
by_priority sheet i o greater equal lower =
    if nat_lt (task_at sheet i).priority (task_at sheet o).priority then greater
    else if (task_at sheet o).priority == (task_at sheet i).priority then equal
    else lower

-- by priorities, and by points among tasks of equal priority
abbrev pub elf_meaning : PolicyMeaning
elf_meaning = record {
  key = λ sheet j. record { high = pos greatest_number -ℤ pos (task_at sheet j.task).priority; low = pos j.arrival +ℤ (task_at sheet j.task).point };
  class = λ sheet i o. nat_le (task_at sheet i).priority (task_at sheet o).priority;
  cap = λ sheet i o a. by_priority sheet i o All (gel_meaning.cap sheet i o a) Nothing;
  may_block = λ sheet i o a. by_priority sheet i o false (gel_meaning.may_block sheet i o a) true;
  may_delay = λ sheet i o. by_priority sheet i o false (gel_meaning.may_delay sheet i o) true;
}
