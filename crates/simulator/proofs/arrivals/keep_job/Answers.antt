use Rattle.std.proofs.Common.{◌≡◌, ℕ, ◌+◌, ◌<◌, ◌++◌, ◌∷◌, [], length, get_or, refl, ◌∙◌, ap, rules, arith}
use Rattle.std.specs.Global.{Vec}
use Rattle.std.proofs.Math.ListN.{set}
use Rattle.std.proofs.lemmas.List.{get_or_read}
use Rattle.simulator.specs.SimulationState.{run_of}
use Rattle.simulator.proofs.ArrivalFacts.{kept_with, with_job_is}
use Rattle.simulator.proofs.arrivals.keep_job.Goals as goal

pub returns-clause-run : goal.returns-clause-run
returns-clause-run g c = with_job_is (run_of c.args.simulation.now) c.push-3.new.self.items c.args.job c.in_ok-push-3.ensures.items

pub returns-clause-kept : goal.returns-clause-kept
returns-clause-kept g c =
    let m = c.args.simulation.now in
    let j = c.args.job in
    let len : c.len-number.result ≡ length m.jobs.items = search rules in
    let b : j.task < length m.arrivals.items = omega (arith, c.requires.new.known.task, c.requires.kept.arrivals.tasks) in
    let longer : c.push.new.self.items ≡ (get_or m.arrivals.items j.task c.push.new.self).items ++ j.arrival ∷ [] =
    c.in_ok-push.ensures.items ∙ ap (λ (v : Vec ℕ). v.items ++ j.arrival ∷ [])
    (get_or_read m.arrivals.items j.task c.index_mut-list.result.now b c.index_mut-list.ensures.value c.push.new.self)
    in
    kept_with g.P.Policy.meaning g.M.Preemption.cuts c.args.sheet.now j.arrival
    (run_of m) m.left.items m.queue m.coming m.inside m.segments m.arrivals.items m.releases.items m.counts.items c.requires.kept
    j c.len-number.result c.rank_of-rank.result c.take_up.new.queue c.take_up.new.coming _ c.push-2.new.self.items (m.segments + c.len.result)
    (set m.arrivals.items j.task c.push.new.self) c.push.new.self (set m.releases.items j.task j.release)
    c.requires.new refl len c.rank_of-rank.ensures c.in_ok-take_up.ensures
    (with_job_is (run_of m) c.push-3.new.self.items j c.in_ok-push-3.ensures.items) c.in_ok-push-2.ensures.items
    (ap (λ (n : ℕ). m.segments + n) c.len.ensures) refl longer refl
