use Rattle.std.proofs.Common.{◌≡◌, ◌+◌, ◌*◌, ◌<◌, length, get_or, min, refl, sym, ◌∙◌, ap, subst, arith, add-one}
use Rattle.std.proofs.lemmas.List.{get_or_read}
use Rattle.std.proofs.lemmas.Result.{err_from_is_err_and}
use Rattle.simulated_run.specs.SimulatedRun.{World, Moment, moment_after, arrive_of, arrive_below}
use Rattle.simulated_run.proofs.GrowthFacts.{BeginsWith, arrivals_extend}
use Rattle.simulator.specs.SimulationState.{world_by, moment_of, run_of}
use Rattle.simulator.proofs.ArrivalFacts.{refuses_tasks}
use Rattle.simulator.proofs.ShutFacts.{block_still, block_passed, block_start, block_next, block_end}
use Rattle.simulator.proofs.arrivals.arrive_block.Goals as goal

pub returns-then-t-index-clause-moment : goal.returns-then-t-index-clause-moment
returns-then-t-index-clause-moment g c =
    let w : World = world_by g.P.Policy.meaning g.M.Preemption.cuts c.args.sheet.now c.args.mode in
    let at : c.index.result.now ≡ get_or c.args.openings.now.firsts.items c.args.b 0 =
    get_or_read c.args.openings.now.firsts.items c.args.b c.index.result.now c.requires.listed c.index.ensures 0 in
    block_still w c.args.t c.args.b (moment_of c.args.simulation.now) (moment_after w c.args.t) c.args.openings.now c.requires.block
    c.requires.openings (omega (arith, at)) c.requires.stage

pub returns-then-t-index-clause-openings : goal.returns-then-t-index-clause-openings
returns-then-t-index-clause-openings g c =
    block_passed c.args.sheet.now (run_of c.args.simulation.now) c.args.t c.args.b
    (min (16 * c.args.b + 16) (length c.args.sheet.now.tasks)) c.args.openings.now (omega (arith, c.requires.block)) c.requires.openings

pub returns-in_err-next-clause-refusal : goal.returns-in_err-next-clause-refusal
returns-in_err-next-clause-refusal g c =
    let w : World = world_by g.P.Policy.meaning g.M.Preemption.cuts c.args.sheet.now c.args.mode in
    let p = err_from_is_err_and c.from_residual.result c.from_residual.ensures.1 in
    rw (p.1, p.2)
    (refuses_tasks w c.args.t c.loop-o.o (length w.sheet.tasks) (moment_after w c.args.t) (moment_of c.loop-o.simulation)
    c.in_err-next.field-0.0 (omega (arith, c.len-tasks.ensures.len, c.min-to.ensures)) c.loop-o.invariant.moment
    c.in_err-next.ensures.refusal)

pub loop-o-init : goal.loop-o-init
loop-o-init g c =
    let w : World = world_by g.P.Policy.meaning g.M.Preemption.cuts c.args.sheet.now c.args.mode in
    record {
      moment = c.requires.stage;
      kept = c.requires.kept;
      arriving =
          block_start c.args.sheet.now (run_of c.args.simulation.now) c.args.t c.args.b (16 * c.args.b) _ c.args.openings.now refl
          c.requires.openings;
    }

pub loop-o-preserved : goal.loop-o-preserved
loop-o-preserved g c =
    let w : World = world_by g.P.Policy.meaning g.M.Preemption.cuts c.args.sheet.now c.args.mode in
    let m = c.loop-o.simulation in
    let later = c.arrive_from.new.simulation in
    let b : c.loop-o.o < length w.sheet.tasks = omega (arith, c.len-tasks.ensures.len, c.min-to.ensures) in
    let is : moment_of later ≡ arrive_below w c.args.t (c.loop-o.o + 1) (moment_after w c.args.t) =
    rw add-one (c.in_ok-next.ensures.moment ∙ ap (arrive_of w c.loop-o.o c.args.t) c.loop-o.invariant.moment) in
    let begins : BeginsWith (run_of later).jobs (run_of m).jobs =
    subst (λ (v : Moment). BeginsWith v.run.jobs (run_of m).jobs) (sym c.in_ok-next.ensures.moment) (arrivals_extend w c.loop-o.o c.args.t (moment_of m)) in
    record {
      moment = is;
      kept = c.in_ok-next.ensures.kept;
      arriving =
          block_next w.sheet (run_of m) (run_of later) c.args.t c.args.b c.loop-o.o c.loop-o.first c.in_ok-next.next c.min-first.result
          c.loop-o.openings.ticks.items c.loop-o.openings.gaps.items c.loop-o.openings.firsts.items c.arrive_from.new.gaps b
          (record { from = omega arith; to = omega (arith, c.min-to.ensures) }) c.loop-o.invariant.arriving begins
          c.in_ok-next.ensures.shut c.in_ok-next.ensures.gaps c.min-first.ensures;
    }

pub returns-clause-moment : goal.returns-clause-moment
returns-clause-moment g c =
    let w : World = world_by g.P.Policy.meaning g.M.Preemption.cuts c.args.sheet.now c.args.mode in
    let e : c.loop-o.o ≡ min (16 * c.args.b + 16) (length w.sheet.tasks) =
    omega (arith, c.len-tasks.ensures.len, c.min-to.ensures, c.requires.block) in
    subst (λ k. moment_of c.loop-o.simulation ≡ arrive_below w c.args.t k (moment_after w c.args.t)) e c.loop-o.invariant.moment

pub returns-clause-openings : goal.returns-clause-openings
returns-clause-openings g c =
    let e : c.loop-o.o ≡ min (16 * c.args.b + 16) (length c.args.sheet.now.tasks) =
    omega (arith, c.len-tasks.ensures.len, c.min-to.ensures, c.requires.block) in
    block_end c.args.sheet.now (run_of c.loop-o.simulation) c.args.t c.args.b c.loop-o.o c.loop-o.first c.loop-o.openings.firsts.items _
    (omega (arith, c.loop-o.invariant.arriving.all, c.requires.block)) e refl c.loop-o.invariant.arriving
