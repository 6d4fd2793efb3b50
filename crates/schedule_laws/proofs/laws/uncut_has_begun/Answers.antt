use Rattle.run_model.specs.Runs.{job_at}
use Rattle.schedule_laws.proofs.PrefixFacts.{begun_where_uncut}
use Rattle.schedule_laws.proofs.laws.uncut_has_begun.Goals as goal

pub returns : goal.returns
returns g c = λ sheet ok serves run valid k t listed uncut.
    let fits = valid.jobs k listed in
    let laws = g.met.M.Preemption.lawful _ (ok.each (job_at run k).task fits.task) (serves (job_at run k).task fits.task) in
    begun_where_uncut _ sheet run k t laws fits.fit uncut
