use Rattle.std.proofs.Common.{◌≡◌, ℕ, ◌+◌, ◌*◌, ◌<◌, ◌≤◌, List, length, get_or, min, sym, subst, arith}
use Rattle.simulated_run.specs.SimulatedRun.{World, moment_after, arrive_below}
use Rattle.simulator.specs.AllOpenings.{AreArriving}
use Rattle.simulator.specs.SimulationState.{world_by, moment_of, run_of}
use Rattle.simulator.proofs.ShutFacts.{arriving_start}
use Rattle.simulator.proofs.arrivals.arrive_each.Goals as goal

pub arrive_block-requires-clause-block : goal.arrive_block-requires-clause-block
arrive_block-requires-clause-block g c = omega (arith, c.len-tasks.ensures.len)

pub arrive_block-requires-clause-listed : goal.arrive_block-requires-clause-listed
arrive_block-requires-clause-listed g c = omega (arith, c.len-tasks.ensures.len, c.loop-b.invariant.openings.blocks.all)

pub arrive_block-requires-clause-stage : goal.arrive_block-requires-clause-stage
arrive_block-requires-clause-stage g c =
    let w : World = world_by g.P.Policy.meaning g.M.Preemption.cuts c.args.sheet.now c.args.mode in
    let e : min (16 * c.loop-b.b) (length w.sheet.tasks) ≡ 16 * c.loop-b.b =
    omega (arith, c.len-tasks.ensures.len) in
    subst (λ k. moment_of c.loop-b.simulation ≡ arrive_below w c.args.t k (moment_after w c.args.t)) e c.loop-b.invariant.moment

pub arrive_block-requires-clause-openings : goal.arrive_block-requires-clause-openings
arrive_block-requires-clause-openings g c =
    let e : min (16 * c.loop-b.b) (length c.args.sheet.now.tasks) ≡ 16 * c.loop-b.b =
    omega (arith, c.len-tasks.ensures.len) in
    subst (λ k. AreArriving c.args.sheet.now (run_of c.loop-b.simulation) c.args.t k c.loop-b.openings) e c.loop-b.invariant.openings

pub loop-b-init : goal.loop-b-init
loop-b-init g c =
    let w : World = world_by g.P.Policy.meaning g.M.Preemption.cuts c.args.sheet.now c.args.mode in
    let e : min (16 * 0) (length w.sheet.tasks) ≡ 0 = omega arith in
    record {
      moment = subst (λ k. moment_of c.args.simulation.now ≡ arrive_below w c.args.t k (moment_after w c.args.t)) (sym e) c.requires.stage;
      kept = c.requires.kept;
      openings =
          arriving_start c.args.sheet.now (run_of c.args.simulation.now) c.args.t (min (16 * 0) (length w.sheet.tasks)) c.args.openings.now e
          c.requires.openings;
    }

pub loop-b-preserved : goal.loop-b-preserved
loop-b-preserved g c =
    let w : World = world_by g.P.Policy.meaning g.M.Preemption.cuts c.args.sheet.now c.args.mode in
    let later = c.arrive_block.new.simulation in
    let done = c.in_ok-arrive_block.ensures in
    let e : min (16 * c.loop-b.b + 16) (length w.sheet.tasks) ≡ min (16 * (c.loop-b.b + 1)) (length w.sheet.tasks) = omega arith in
    record {
      moment = subst (λ k. moment_of later ≡ arrive_below w c.args.t k (moment_after w c.args.t)) e done.moment;
      kept = done.kept;
      openings = subst (λ k. AreArriving w.sheet (run_of later) c.args.t k c.arrive_block.new.openings) e done.openings;
    }

pub returns-clause-moment : goal.returns-clause-moment
returns-clause-moment g c =
    let w : World = world_by g.P.Policy.meaning g.M.Preemption.cuts c.args.sheet.now c.args.mode in
    let e : min (16 * c.loop-b.b) (length w.sheet.tasks) ≡ length w.sheet.tasks =
    omega (arith, c.len-tasks.ensures.len) in
    subst (λ k. moment_of c.loop-b.simulation ≡ arrive_below w c.args.t k (moment_after w c.args.t)) e c.loop-b.invariant.moment

pub returns-clause-openings : goal.returns-clause-openings
returns-clause-openings g c =
    let was = c.loop-b.invariant.openings in
    let least : (b : ℕ) → b < length c.loop-b.openings.firsts.items → c.least-openings.result ≤ get_or c.loop-b.openings.firsts.items b 0 =
    subst (λ (l : List ℕ). (b : ℕ) → b < length l → c.least-openings.result ≤ get_or l b 0) c.deref.ensures.value c.least-openings.ensures in
    record {
      shut = record {
        tasks = was.tasks;
        each = λ o h. was.come o (omega (arith, h, c.len-tasks.ensures.len)) h;
      };
      gaps = was.gaps;
      blocks = was.blocks;
      first = least;
    }
