use Rattle.std.proofs.Common.{refl}
use Rattle.poet_text.specs.Tellings.{outlets}
use Rattle.poet_cli.specs.Readings.{shelf_at}
use Rattle.poet_cli.specs.Clauses.{outside}
use Rattle.poet_cli.proofs.VerdictFacts.{check_did, check_refused}
use Rattle.poet_cli.proofs.checking.check.Goals as goal

pub returns-in-Ok : goal.returns-in-Ok
returns-in-Ok g c =
    check_did c.args.sheet.now c.args.certificate.now c.args.deadlines _ _ _ _ refl c.text_has_one_reading.ensures c.in-Ok.sheet
    c.in-Ok.ensures c.judged_on.ensures

pub returns-in-Err : goal.returns-in-Err
returns-in-Err g c =
    check_refused c.args.sheet.now c.args.certificate.now c.args.deadlines _
    (outside (shelf_at g.H.Shelf.files g.H.Shelf.faults g.H.Shelf.is_open g.H.Shelf.log c.sheet_at.new.shelf)
    (outlets g.O.Sink.written g.O.Sink.faults g.E.Sink.written g.E.Sink.faults c.args.out.now c.args.err.now))
    _ _ refl refl c.in-Err.refusal c.in-Err.ensures c.tell.ensures
