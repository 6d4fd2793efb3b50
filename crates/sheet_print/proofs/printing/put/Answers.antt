use Rattle.sheet_print.proofs.PrintedFacts.{put_entry}
use Rattle.sheet_print.proofs.printing.put.Goals as goal

pub returns : goal.returns
returns c = rw c.in_ok-insert.ensures.entries
    (put_entry c.args.key.now c.in_ok-from_str.field-0 c.args.value c.args.table.now.entries c.in_ok-from_str.ensures.ok)
