use Rattle.poet_cli.proofs.RestFacts.{rest_answers, rest_opens, rest_never, rest_headline, rest_objection, rest_leaves}
use Rattle.poet_cli.proofs.checking.judge.Goals as goal

pub returns-clause-answers : goal.returns-clause-answers
returns-clause-answers g c = rest_answers _ _ _ _ _ _ _ _ c.judge_file.ensures.did

pub returns-clause-opened : goal.returns-clause-opened
returns-clause-opened g c = rest_opens _ _ _ _ _ _ _ _ c.judge_file.ensures.did

pub returns-clause-no_usage : goal.returns-clause-no_usage
returns-clause-no_usage g c = (rest_never _ _ _ _ _ _ _ _ c.judge_file.ensures.did).usage

pub returns-clause-no_sheet : goal.returns-clause-no_sheet
returns-clause-no_sheet g c = (rest_never _ _ _ _ _ _ _ _ c.judge_file.ensures.did).sheet

pub returns-clause-no_memory : goal.returns-clause-no_memory
returns-clause-no_memory g c = (rest_never _ _ _ _ _ _ _ _ c.judge_file.ensures.did).memory

pub returns-clause-headline : goal.returns-clause-headline
returns-clause-headline g c = rest_headline _ _ _ _ _ _ _ _ c.judge_file.ensures.did

pub returns-clause-objection : goal.returns-clause-objection
returns-clause-objection g c = rest_objection _ _ _ _ _ _ _ _ c.judge_file.ensures.did

pub returns-clause-shelf : goal.returns-clause-shelf
returns-clause-shelf g c = rest_leaves _ _ _ _ _ _ _ _ c.judge_file.ensures.did
