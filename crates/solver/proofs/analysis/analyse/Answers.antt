use Rattle.std.proofs.lemmas.Result.{IfOk-weaker, IfErr-weaker}
use Rattle.solver.proofs.Theorems.{best_meets, best_within, best_up_to, none_smaller, none_where, best_answer}
use Rattle.solver.proofs.analysis.analyse.Goals as goal

pub returns-clause-meets : goal.returns-clause-meets
returns-clause-meets g c = IfOk-weaker _ _ _ (best_meets _ _ _ _ _) c.best_cert.ensures.best

pub returns-clause-within : goal.returns-clause-within
returns-clause-within g c = IfOk-weaker _ _ _ (λ cert best. best_within _ _ _ _ _ c.laws.ensures cert best c.requires.horizon) c.best_cert.ensures.best

pub returns-clause-up_to : goal.returns-clause-up_to
returns-clause-up_to g c = IfOk-weaker _ _ _ (best_up_to _ _ _ _ _ c.laws.ensures) c.best_cert.ensures.best

pub returns-clause-least : goal.returns-clause-least
returns-clause-least g c = IfOk-weaker _ _ _ (none_smaller _ _ _ _ _ c.laws.ensures) c.best_cert.ensures.best

pub returns-clause-none : goal.returns-clause-none
returns-clause-none g c = IfErr-weaker _ _ _ (none_where _ _ _ _ _ c.laws.ensures) c.best_cert.ensures.cause

pub returns-clause-exact : goal.returns-clause-exact
returns-clause-exact g c = best_answer _ _ _ _ _ c.laws.ensures c.best_cert.result c.best_cert.ensures.best c.best_cert.ensures.cause
