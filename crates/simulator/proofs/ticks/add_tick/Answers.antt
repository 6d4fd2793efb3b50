use Rattle.std.proofs.Common.{◌≡◌, ℕ, suc, ◌+◌, ◌↔◌, IsTrue, ◌++◌, ◌∷◌, [], List, get_or, sym, ◌∙◌, ap, subst, arith}
use Rattle.std.specs.Global.{Vec}
use Rattle.supply.specs.Promises.{sbf_of}
use Rattle.task_sheet.specs.Sheets.{task_at}
use Rattle.task_sheet.specs.declared.tasks.Job.{Job}
use Rattle.run_model.specs.declared.run.Tick.{Tick}
use Rattle.run_model.specs.Runs.{is_on}
use Rattle.simulated_run.specs.SimulatedRun.{World, Moment, may_be_off, with_tick}
use Rattle.lists.proofs.SumFacts.{at_most_one}
use Rattle.windows.specs.Supplied.{MayBeOff}
use Rattle.simulator.proofs.SameAnswers.{off_same}
use Rattle.simulator.specs.SimulationState.{IsKeptAt, MayBe, HasCuts, run_of, moment_of, world_by}
use Rattle.simulator.proofs.ArrivalFacts.{lawful_world, counts_promised}
use Rattle.simulator.proofs.WindowFacts.{count_low, last_count}
use Rattle.simulator.proofs.TickFacts.{with_tick_is, ticked, kept_then}
use Rattle.simulator.proofs.ticks.add_tick.Goals as goal

pub off_allowed_by-may-requires-clause-counts : goal.off_allowed_by-may-requires-clause-counts
off_allowed_by-may-requires-clause-counts g c =
    let w : World = world_by g.P.Policy.meaning g.M.Preemption.cuts c.args.sheet.now c.args.mode in
    let valid = c.len-valid.ensures.valid in
    let laws =
    lawful_world w.policy w.cuts w.sheet w.mode valid (g.met.P.Policy.lawful w.sheet valid)
    (λ o b. g.met.M.Preemption.lawful (task_at w.sheet o) (valid.each o b) (c.requires.served o b))
    (λ o b. g.met.M.Tabled.tabled (task_at w.sheet o) (c.requires.served o b)) in
    counts_promised w laws c.args.t (run_of c.args.simulation.now) c.args.simulation.now.counts.items c.deref.result.now
    (ap (λ (v : Moment). v.run) c.requires.stage) c.requires.kept.counts c.deref.ensures.value

pub advance-requires-clause-tick : goal.advance-requires-clause-tick
advance-requires-clause-tick g c =
    let w : World = world_by g.P.Policy.meaning g.M.Preemption.cuts c.args.sheet.now c.args.mode in
    let cuts : HasCuts w = λ o b. g.met.M.Preemption.lawful (task_at w.sheet o) (c.len-valid.ensures.valid.each o b) (c.requires.served o b) in
    let m = c.args.simulation.now in
    subst (λ (t : ℕ). MayBe (record m { words = c.draw_off-off.new.words }) t c.pick-tick.result) (sym c.requires.kept.jobs.now)
    (c.pick-tick.ensures.may w c.args.t cuts c.requires.kept)

pub overflow_add-count : goal.overflow_add-count
overflow_add-count g c =
    let m = c.args.simulation.now in
    let last =
    last_count m.counts c.advance.new.simulation.counts c.args.t c.index.result.now c.advance.ensures.rest.counts
    (omega (arith, c.requires.kept.counts.counted)) c.index.ensures in
    omega (
      arith,
      last,
      count_low c.args.t (run_of m) m.counts.items c.requires.kept.jobs.now c.requires.kept.counts,
      c.count_on.ensures,
      at_most_one (is_on c.pick-tick.result),
    )

pub returns-clause-moment : goal.returns-clause-moment
returns-clause-moment g c =
    let w : World = world_by g.P.Policy.meaning g.M.Preemption.cuts c.args.sheet.now c.args.mode in
    let m = c.args.simulation.now in
    let rest = c.advance.ensures.rest in
    let allowed : IsTrue c.off_allowed_by-may.result ↔ MayBeOff (sbf_of c.args.sheet.now.supply) m.counts.items c.args.t =
    subst (λ (l : List ℕ). IsTrue c.off_allowed_by-may.result ↔ MayBeOff (sbf_of c.args.sheet.now.supply) l c.args.t)
    c.deref.ensures.value c.off_allowed_by-may.ensures in
    let may : c.off_allowed_by-may.result ≡ may_be_off w.sbf (run_of m) c.args.t =
    off_same w.sbf (run_of m) m.counts.items c.args.t c.requires.kept.jobs.now c.requires.kept.counts c.off_allowed_by-may.result
    allowed.0 allowed.1 in
    ticked w c.args.t (moment_of m) c.off_allowed_by-may.result c.draw_off-off.result c.pick-tick.result _
    c.advance.new.simulation.words may c.draw_off-off.ensures.off (c.pick-tick.ensures.tick w c.args.t c.requires.kept)
    (with_tick_is (run_of m) c.advance.new.simulation.jobs.items c.push-2.new.self.items c.pick-tick.result
    (ap (λ (v : Vec Job). v.items) rest.jobs)
    (c.in_ok-push-2.ensures.items ∙ ap (λ (v : Vec Tick). v.items ++ c.pick-tick.result ∷ []) rest.ticks))
    (rest.words ∙ c.draw_off-off.ensures.state)

pub returns-clause-kept : goal.returns-clause-kept
returns-clause-kept g c =
    let m = c.args.simulation.now in
    let rest = c.advance.ensures.rest in
    let new = c.advance.new.simulation in
    let y = c.pick-tick.result in
    let after : IsKeptAt g.P.Policy.meaning g.M.Preemption.cuts c.args.sheet.now (suc c.args.t) (suc c.args.t) (suc c.args.t)
    (with_tick (run_of m) y) new.left.items new.queue new.coming new.inside =
    subst
    (λ (t : ℕ). IsKeptAt g.P.Policy.meaning g.M.Preemption.cuts c.args.sheet.now (suc t) (suc t) (suc t)
    (with_tick (run_of m) y) new.left.items new.queue new.coming new.inside)
    c.requires.kept.jobs.now c.advance.ensures.kept
    in
    let last = last_count m.counts new.counts c.args.t c.index.result.now rest.counts (omega (arith, c.requires.kept.counts.counted)) c.index.ensures in
    kept_then g.P.Policy.meaning g.M.Preemption.cuts c.args.sheet.now c.args.t (run_of m) _ m.left.items new.left.items m.queue
    new.queue m.coming new.coming m.inside new.inside m.segments new.segments m.arrivals.items new.arrivals.items m.releases.items
    new.releases.items m.counts.items c.push.new.self.items
    y (c.index.result.now + c.count_on.result) c.requires.kept after
    (with_tick_is (run_of m) new.jobs.items c.push-2.new.self.items y (ap (λ (v : Vec Job). v.items) rest.jobs)
    (c.in_ok-push-2.ensures.items ∙ ap (λ (v : Vec Tick). v.items ++ y ∷ []) rest.ticks))
    rest.segments (ap (λ (v : Vec (Vec ℕ)). v.items) rest.arrivals) (ap (λ (v : Vec ℕ). v.items) rest.releases)
    (ap (λ (n : ℕ). n + c.count_on.result) last ∙ ap (λ (n : ℕ). get_or m.counts.items c.args.t 0 + n) c.count_on.ensures)
    (c.in_ok-push.ensures.items ∙ ap (λ (v : Vec ℕ). v.items ++ (c.index.result.now + c.count_on.result) ∷ []) rest.counts)
