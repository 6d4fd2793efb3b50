use Rattle.std.proofs.Common.{ap, ◌∙◌, refl, arith}
use Rattle.task_sheet.specs.declared.tasks.Task.{Task}
use Rattle.meter.specs.Meters.{meter_at}
use Rattle.solver.proofs.Least.{end_exists, bound_exists}
use Rattle.solver.proofs.Listing.{so_far_first, so_far_more, so_far_last, so_far_many}
use Rattle.solver.proofs.entries.best_entry.Goals as goal

pub loop-alloc-init : goal.loop-alloc-init
loop-alloc-init g c = record {
  at = c.open.ensures ∙ ap (λ s. meter_at s c.args.i 0 0) c.requires.meter;
  before = λ k lt h. omega arith;
  so_far = rw c.new-points.ensures.items
      (so_far_first _ _ _ _ c.laws.ensures _ _ _ c.requires.least.holds.positive (omega (arith, ap (λ (t : Task). t.jitter) c.task.ensures.task)));
}

pub returns-then-len-room-clause-best : goal.returns-then-len-room-clause-best
returns-then-len-room-clause-best g c =
    let many = so_far_many _ _ _ _ _ _ _ _ _ c.loop-alloc.invariant.so_far in
    omega (arith, many, c.len.ensures)

pub unreachable-requires : goal.unreachable-requires
unreachable-requires g c = end_exists _ _ _ _ c.laws.ensures _ c.requires.task _ c.loop-alloc.a c.requires.least.holds
    c.loop-alloc.invariant.so_far.lies c.in_default.ensures.least

pub unreachable-requires-in_default-bound_for : goal.unreachable-requires-in_default-bound_for
unreachable-requires-in_default-bound_for g c =
    bound_exists _ _ _ _ c.laws.ensures _ c.requires.task c.args.window _ c.loop-alloc.a c.in-Some.end
    (omega (arith, ap (λ (t : Task). t.jitter) c.task.ensures.task)) c.requires.least.holds
    c.loop-alloc.invariant.so_far.lies c.in-Some.ensures.least.0 c.in_default-bound_for.ensures

pub returns-in_default-next_point-clause-best : goal.returns-in_default-next_point-clause-best
returns-in_default-next_point-clause-best g c =
    let none = rw c.in-Some.ensures.at at c.in_default-next_point.ensures in
    record {
      best =
          rw (c.new.ensures, c.new-in_default-next_point-2.ensures, c.new-in_default-next_point.ensures.items, c.in_ok-push.ensures.items, c.max-bound.ensures)
          (so_far_last _ _ _ _ c.laws.ensures _ _ _ _ _ c.loop-alloc.invariant.so_far _ _ c.in-Some.ensures.least.1
          c.in-Some-bound_for.ensures.1 c.requires.least none);
      is_for = refl;
      few = rw (c.new.ensures) (omega (arith, c.in_ok-push.ensures.len, c.if-len-room.false, c.len.ensures));
    }

pub loop-alloc-preserved : goal.loop-alloc-preserved
loop-alloc-preserved g c =
    let next = rw c.in-Some.ensures.at at c.in-Some-next_point.ensures in
    let moved = c.next_offset-begin.ensures in
    record {
      at = moved.at;
      before = λ k lt h. omega (arith, lt, moved.within, c.in-Some.ensures.least.1.least k (record { enough = omega (arith, moved.kept k lt, h.enough) }));
      so_far =
          rw (c.in_ok-push.ensures.items, c.max-bound.ensures)
          (so_far_more _ _ _ _ c.laws.ensures _ _ _ _ _ c.loop-alloc.invariant.so_far _ _ c.in-Some.ensures.least.1
          c.in-Some-bound_for.ensures.1 c.in-Some-next_point.next next);
    }
