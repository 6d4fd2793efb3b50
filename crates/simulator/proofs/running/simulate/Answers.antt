use Rattle.std.proofs.Common.{◌≡◌, ℕ, ◌+◌, ◌<◌, length, None, sym, ◌∙◌, subst, arith, add-one}
use Rattle.std.proofs.lemmas.Result.{err_from_is_err_and}
use Rattle.task_sheet.specs.Sheets.{task_at}
use Rattle.run_model.specs.declared.run.Run.{Run}
use Rattle.run_text.specs.Text.{IsWithinLimits}
use Rattle.schedule_laws.specs.Compliance.{IsReleased, IsCompliant}
use Rattle.simulated_run.specs.declared.mode.Mode.{Mode}
use Rattle.simulated_run.specs.Laws.{IsDense}
use Rattle.simulated_run.specs.SimulatedRun.{World, world_of, moment_after, simulated_run}
use Rattle.simulator.specs.Simulations.{IsSimulation, refused_by}
use Rattle.simulator.specs.AllOpenings.{HasGaps, AreOpenings}
use Rattle.simulator.specs.SimulationState.{IsKept, world_by, moment_of, run_of}
use Rattle.simulator.proofs.SimulationFacts.{simulated, simulated_is, refused, run_is}
use Rattle.simulator.proofs.RunLimits.{kept_within}
use Rattle.simulator.proofs.ShutFacts.{openings_start}
use Rattle.simulator.proofs.running.simulate.Goals as goal

pub returns-in_err-run_tick-clause-exact : goal.returns-in_err-run_tick-clause-exact
returns-in_err-run_tick-clause-exact g c =
    let w : World = world_by g.P.Policy.meaning g.M.Preemption.cuts c.args.sheet.now c.args.mode in
    let result = c.from_residual-in_err-run_tick.result in
    let p = err_from_is_err_and result c.from_residual-in_err-run_tick.ensures.1 in
    let exact : IsSimulation w c.args.n result =
    rw (p.1, p.2) (refused w c.args.n c.loop-t.t c.in_err-run_tick.field-0.0 (omega arith) c.in_err-run_tick.ensures.refusal) in
    subst (λ (sbf : ℕ → ℕ). IsSimulation (world_of w.policy w.cuts sbf w.sheet w.mode) c.args.n result) (sym c.requires.stated) exact

pub loop-t-init : goal.loop-t-init
loop-t-init g c =
    let sheet = c.args.sheet.now in
    let made = c.in_ok-openings.ensures in
    let gaps : HasGaps sheet c.in_ok-openings.openings.gaps.items = record {
      tasks = made.len ∙ c.len.ensures.len;
      each = λ o d b. made.gaps o d (task_at sheet o).curve (omega (arith, b, c.len.ensures.len)) (c.in_ok-simulation.ensures.valid.each o b).curve;
    } in
    record {
      moment = c.in_ok-simulation.ensures.moment;
      kept = c.in_ok-simulation.ensures.kept;
      openings = openings_start sheet (run_of c.in_ok-simulation.simulation) 0 c.len.result c.in_ok-openings.openings
          c.len.ensures.len made.ticks made.firsts made.first gaps;
    }

pub loop-t-preserved : goal.loop-t-preserved
loop-t-preserved g c =
    let w : World = world_by g.P.Policy.meaning g.M.Preemption.cuts c.args.sheet.now c.args.mode in
    let is : moment_of c.run_tick.new.simulation ≡ moment_after w (c.loop-t.t + 1) = rw add-one c.in_ok-run_tick.ensures.moment in
    let kept : IsKept w.policy w.cuts w.sheet (c.loop-t.t + 1) c.run_tick.new.simulation = rw add-one c.in_ok-run_tick.ensures.kept in
    let openings : AreOpenings w.sheet (run_of c.run_tick.new.simulation) (c.loop-t.t + 1) c.run_tick.new.openings =
    rw add-one c.in_ok-run_tick.ensures.openings in
    record { moment = is; kept = kept; openings = openings }

pub returns : goal.returns
returns g c =
    let w : World = world_by g.P.Policy.meaning g.M.Preemption.cuts c.args.sheet.now c.args.mode in
    let m = c.loop-t.simulation in
    let sbf = g.S.Supply.sbf c.args.supply.now in
    let run : Run = record { jobs = c.new.result; ticks = c.new-2.result } in
    let here : run ≡ run_of m = run_is (run_of m) c.new.result c.new-2.result c.new.ensures c.new-2.ensures in
    let stated : run ≡ simulated_run w c.args.n = simulated_is w c.args.n c.loop-t.t (moment_of m) run (omega arith) c.loop-t.invariant.moment here in
    let is : run ≡ simulated_run (world_of w.policy w.cuts sbf w.sheet w.mode) c.args.n =
    subst (λ (f : ℕ → ℕ). run ≡ simulated_run (world_of w.policy w.cuts f w.sheet w.mode) c.args.n) (sym c.requires.stated)
    stated in
    let sheet = c.args.sheet.now in
    let n = c.args.n in
    let kept = c.loop-t.invariant.kept.jobs in
    let valid = c.in_ok-simulation.ensures.valid in
    let complies : IsCompliant w.policy w.cuts sbf w.sheet run =
    subst (IsCompliant w.policy w.cuts sbf w.sheet) (sym is)
    (c.simulation_complies.ensures c.args.supply.now c.known.ensures w.sheet valid c.requires.served w.mode c.args.n) in
    record {
      exact = simulated (world_of w.policy w.cuts sbf w.sheet w.mode) c.args.n run is
          (subst (λ (r : Run). refused_by r.jobs ≡ None) (sym here) kept.within.none);
      complies = complies;
      full =
          λ dense. subst (IsDense sheet n) (sym is)
          (subst (λ (mode : Mode). IsDense sheet n (simulated_run (world_of w.policy w.cuts sbf sheet mode) n)) (sym dense)
          (c.dense_is_full.ensures c.args.supply.now c.known.ensures sheet valid n));
      within =
          subst IsWithinLimits (sym here)
          (kept_within w.policy w.cuts w.sheet c.loop-t.t c.loop-t.t c.loop-t.t (run_of m) m.left.items m.queue m.coming m.inside kept valid
          (λ o b. g.met.M.Tabled.tabled (task_at w.sheet o) (c.requires.served o b)) (omega arith)
          (subst (λ (r : Run). (k : ℕ) → k < length r.jobs → IsReleased w.sheet r k) here complies.valid.releases));
    }
