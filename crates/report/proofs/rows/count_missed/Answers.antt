use Rattle.std.proofs.Common.{◌≡◌, ◌<◌, ◌∙◌, length, arith, sym, ap, get_or}
use Rattle.task_sheet.specs.Sheets.{task_at}
use Rattle.report.specs.Rows.{missed_of, is_met}
use Rattle.report.proofs.RowFacts.{one_more_missed, no_more_missed, all_rows}
use Rattle.report.proofs.rows.count_missed.Goals as goal
use Rattle.report.proofs.rows.count_missed.Goals.{then-late, else-late}

pub loop-i-preserved : goal.loop-i-preserved
loop-i-preserved c =
    let lt : c.loop-i.i < length c.args.sheet.now.tasks = omega arith in
    let e = c.index-as_slice-i.result in
    let entry : e ≡ get_or c.args.cert.now.entries c.loop-i.i e = rw c.as_slice.ensures at c.index-as_slice-i.is in
    let told : is_met (task_at c.args.sheet.now c.loop-i.i, get_or c.args.cert.now.entries c.loop-i.i e) ≡ c.is_met-late.result =
    rw (← entry, ← c.task.ensures.task) (sym c.is_met-late.ensures) in
    elim c.if-late.branch [
      | then-late w ↦ record {
        few = omega arith;
        so_far =
            omega (arith, one_more_missed c.args.sheet.now.tasks c.args.cert.now.entries c.loop-i.i e c.requires lt (told ∙ w.if-late.true));
      }
      | else-late w ↦ record {
        few = omega arith;
        so_far =
            omega (arith, no_more_missed c.args.sheet.now.tasks c.args.cert.now.entries c.loop-i.i e c.requires lt (told ∙ w.if-late.false));
      }
    ]

pub returns : goal.returns
returns c = c.loop-i.invariant.so_far ∙ ap missed_of (all_rows c.args.sheet.now.tasks c.args.cert.now.entries c.loop-i.i (omega arith))
