use Rattle.audit.proofs.validity.may_run.Goals as goal

pub returns-then-index-job-clause-undone : goal.returns-then-index-job-clause-undone
returns-then-index-job-clause-undone c = c.front-front.ensures.undone c.args.t c.requires.undone

pub returns-else-index-job-clause-undone : goal.returns-else-index-job-clause-undone
returns-else-index-job-clause-undone c = c.front-front.ensures.undone c.args.t c.requires.undone
