-- What an assignment prints, from its parts.
use Rattle.std.proofs.Common.{◌≡◌, ℕ, List, length, map, Ok, Err, refl}
use Rattle.task_sheet.specs.SheetParts.{SheetParts}
use Rattle.policy.specs.Policies.{fp_meaning}
use Rattle.preemption.specs.Kinds.{per_task_meaning}
use Rattle.supply.specs.Promises.{sbf_of}
use Rattle.schedule_laws.specs.Bounded.{AreBounded}
use Rattle.assign.specs.declared.assignment.Placed.{Placed}
use Rattle.assign.specs.declared.assignment.AssignRefusal.TheVariants as assign
use Rattle.assign.specs.Sheets.{sheet_by, AreGood}
use Rattle.assign.specs.Assignment.{priority_in, IsAssignment, IsOrder, AreInTime, IsStuck, NoneGood}
use Rattle.poet_text.specs.declared.printed.Printed.TheVariants as printed
use Rattle.poet_text.specs.Printing.{no_order_text}
use Rattle.poet_cli.specs.AssignAnswers.{assigned_text, assignment_for}
use Rattle.poet_cli.specs.Works.{AssignDoes}

module _ (sheet : SheetParts) (horizon : ℕ) where
  -- the places, and their text
  pub places_told : (places : List Placed) (text : List ℕ) → text ≡ assigned_text sheet places → assignment_for sheet horizon ≡ Ok places →
      IsAssignment per_task_meaning (sbf_of sheet.supply) sheet horizon places → IsOrder (length sheet.tasks) places →
      AreGood per_task_meaning (sbf_of sheet.supply) sheet horizon (priority_in places) → AreInTime sheet places →
      AreBounded fp_meaning per_task_meaning (sbf_of sheet.supply) (sheet_by sheet (priority_in places)) (map (λ p. p.bound) places) →
      AssignDoes horizon sheet (Ok (printed.Done text))
  places_told places text same exact assigned order good in_time bounded = record {
    gives = rw (exact, same) refl;
    sound = record {
      places = places;
      assigned = assigned;
      order = order;
      good = good;
      in_time = in_time;
      bounded = bounded;
      printed = same;
    };
    refused = tt;
  }

  -- the level that no task may take, and its text
  pub no_order_told : (level : ℕ) (text : List ℕ) → text ≡ no_order_text level → assignment_for sheet horizon ≡ Err (assign.NoOrder level) →
      IsStuck per_task_meaning (sbf_of sheet.supply) sheet horizon level → NoneGood per_task_meaning (sbf_of sheet.supply) sheet horizon →
      AssignDoes horizon sheet (Ok (printed.JudgedNo text))
  no_order_told level text same exact stuck none = record {
    gives = rw (exact, same) refl;
    sound = record { level = level; stuck = stuck; none = none; printed = same };
    refused = tt;
  }
