use Rattle.std.proofs.Common.{sum, ap, ◌∙◌, arith}
use Rattle.simulated_run.specs.Jobs.{cost_by}
use Rattle.task_sheet.specs.declared.tasks.Cut.TheVariants.{Fixed}
use Rattle.simulator.proofs.LoadFacts.{fixed_length, drawn_small, drawn_load}
use Rattle.simulator.proofs.loads.fixed_load.Goals as goal

pub returns-then-segments-spare-clause-refusal : goal.returns-then-segments-spare-clause-refusal
returns-then-segments-spare-clause-refusal c =
    omega (
      arith,
      fixed_length c.args.mode c.args.segments.now (cost_by c.args.mode (Fixed c.args.segments.now) c.args.most c.args.words.now)
          c.args.words.now,
    )

pub sum_of-requires : goal.sum_of-requires
sum_of-requires c =
    omega (
      arith,
      ap sum (c.deref.ensures.value ∙ c.in_ok-segs-in-Seed.ensures.segments),
      drawn_small c.args.most c.args.segments.now c.args.words.now c.requires.cut,
    )

pub returns-in_ok-segs-in-Seed-clause-load : goal.returns-in_ok-segs-in-Seed-clause-load
returns-in_ok-segs-in-Seed-clause-load c =
    drawn_load c.args.mode c.in-Seed.field-0 c.args.most c.args.words.now c.args.spare c.args.segments.now _ c.in-Seed.is
    (omega arith) (c.sum_of.ensures ∙ ap sum c.deref.ensures.value) c.in_ok-segs-in-Seed.ensures.segments
