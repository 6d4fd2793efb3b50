use Rattle.std.proofs.Common.{◌≡◌, ℕ, ◌∙◌, ap, length, replicate, arith}
use Rattle.simulated_run.specs.SimulatedRun.{World}
use Rattle.simulator.specs.SimulationState.{world_by}
use Rattle.simulator.proofs.SimulationFacts.{kept_first, no_run_is, first_moment}
use Rattle.simulator.proofs.running.start.Goals as goal

pub returns-clause-moment : goal.returns-clause-moment
returns-clause-moment g c =
    let w : World = world_by g.P.Policy.meaning g.M.Preemption.cuts c.args.sheet.now c.args.mode in
    first_moment w _ c.seed_from_u64.result
    (no_run_is c.new.result.items c.new-2.result.items c.new.ensures.items c.new-2.ensures.items)
    (c.seed_from_u64.ensures.same ∙ c.seed_of.ensures w)

pub returns-clause-kept : goal.returns-clause-kept
returns-clause-kept g c =
    let tasks : length c.in_ok-arrivals.arrivals.items ≡ length c.args.sheet.now.tasks = c.in_ok-arrivals.ensures.len ∙ c.len.ensures.len in
    kept_first g.P.Policy.meaning g.M.Preemption.cuts c.args.sheet.now _ c.new-3.result.items c.new-4.result c.new-5.result
    c.in_ok-arrivals.arrivals.items c.in_ok-releases.releases.items c.in_ok-counts.counts.items
    (no_run_is c.new.result.items c.new-2.result.items c.new.ensures.items c.new-2.ensures.items)
    c.new-3.ensures.items c.new-4.ensures.empty c.new-5.ensures.empty tasks (λ o d b. c.in_ok-arrivals.ensures.none o d (omega (arith, c.len.ensures.len)))
    (c.in_ok-releases.ensures ∙ ap (λ (n : ℕ). replicate n 0) c.len-2.ensures.len) c.in_ok-counts.ensures.items
