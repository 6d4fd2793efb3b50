use Rattle.poet_cli.proofs.DidFacts.{did_answers, did_open, did_usage, did_headline, did_table, did_objection, did_leave}
use Rattle.poet_cli.proofs.top.poet_run.Goals as goal

pub returns-clause-answers : goal.returns-clause-answers
returns-clause-answers g c =
    let did = rw c.deref.ensures.value at c.run.ensures in
    did_answers _ _ _ _ did

pub returns-clause-did : goal.returns-clause-did
returns-clause-did g c = rw c.deref.ensures.value at c.run.ensures

pub returns-clause-opened : goal.returns-clause-opened
returns-clause-opened g c =
    let did = rw c.deref.ensures.value at c.run.ensures in
    did_open _ _ _ _ did

pub returns-clause-usage : goal.returns-clause-usage
returns-clause-usage g c =
    let did = rw c.deref.ensures.value at c.run.ensures in
    did_usage _ _ _ _ did

pub returns-clause-headline : goal.returns-clause-headline
returns-clause-headline g c =
    let did = rw c.deref.ensures.value at c.run.ensures in
    did_headline _ _ _ _ did

pub returns-clause-table_headline : goal.returns-clause-table_headline
returns-clause-table_headline g c =
    let did = rw c.deref.ensures.value at c.run.ensures in
    did_table _ _ _ _ did

pub returns-clause-objection : goal.returns-clause-objection
returns-clause-objection g c =
    let did = rw c.deref.ensures.value at c.run.ensures in
    did_objection _ _ _ _ did

pub returns-clause-shelf : goal.returns-clause-shelf
returns-clause-shelf g c =
    let did = rw c.deref.ensures.value at c.run.ensures in
    did_leave _ _ _ _ did
