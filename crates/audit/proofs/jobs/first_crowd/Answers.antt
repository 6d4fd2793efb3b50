use Rattle.std.proofs.Common.{◌≡◌, sym, subst}
use Rattle.run_model.specs.Runs.{job_at}
use Rattle.windows.specs.Crowds.{IsFirstCrowded}
use Rattle.audit.proofs.FaultFacts.{crowded_some, crowded_none, uncrowded}
use Rattle.audit.proofs.ReadFacts.{job_read}
use Rattle.audit.proofs.jobs.first_crowd.Goals as goal

pub returns-in_default : goal.returns-in_default
returns-in_default c = sym (crowded_none c.args.sheet.now c.args.run.now
    (uncrowded c.args.sheet.now c.args.run.now (subst (IsFirstCrowded c.args.sheet.now c.args.run.now) c.in_default.is c.in_ok-k.ensures)))

pub returns : goal.returns
returns c =
    let first = subst (IsFirstCrowded c.args.sheet.now c.args.run.now) c.in-Some.is c.in_ok-k.ensures in
    let job : c.index-as_slice-k.result ≡ job_at c.args.run.now c.in-Some.k =
    job_read c.args.run.now c.as_slice.result.now c.in-Some.k c.index-as_slice-k.result first.0 c.as_slice.ensures c.index-as_slice-k.is in
    let found = crowded_some c.args.sheet.now c.args.run.now c.in-Some.k first in
    let read = c.index-as_slice-k.is in
    cc
