use Rattle.std.proofs.Common.{◌==◌, ◌%◌, leb, eq-eqb}
use Rattle.std.proofs.lemmas.Bool.{ne_eqb}
use Rattle.simulator.proofs.CutFacts.{floating_cuttable, or_first, or_second}
use Rattle.simulator.proofs.ticks.can_cut.Goals as goal

pub returns-then-s-bound-eq0 : goal.returns-then-s-bound-eq0
returns-then-s-bound-eq0 g c =
    let tabled = g.met.M.Tabled.tabled c.args.task.now c.requires.serves in
    or_first (c.args.s % c.in-Floating.bound == 0) (leb c.args.job.now.cost c.args.s) _ (eq-eqb _ _ c.if-s-bound-eq0.true)
    (floating_cuttable g.M.Preemption.cuts c.args.task.now c.args.job.now c.in-Floating.bound c.args.s c.requires.valid tabled
    c.in-Floating.is c.requires.floats)

pub returns-else-s-bound-eq0 : goal.returns-else-s-bound-eq0
returns-else-s-bound-eq0 g c =
    let tabled = g.met.M.Tabled.tabled c.args.task.now c.requires.serves in
    or_second (c.args.s % c.in-Floating.bound == 0) (leb c.args.job.now.cost c.args.s) _ (ne_eqb _ _ c.if-s-bound-eq0.false)
    (floating_cuttable g.M.Preemption.cuts c.args.task.now c.args.job.now c.in-Floating.bound c.args.s c.requires.valid tabled
    c.in-Floating.is c.requires.floats)
