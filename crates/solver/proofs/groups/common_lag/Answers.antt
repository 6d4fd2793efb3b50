use Rattle.std.proofs.Common.{◌≡◌, ℕ, ◌+◌, ◌<◌, Bool, false, List, ◌∙◌, arith, sym, ap, subst, length}
use Rattle.task_sheet.specs.declared.tasks.Task.{Task}
use Rattle.solver.specs.Groups.{is_in, IsBehindBut}
use Rattle.solver.proofs.GroupFacts.{one_horizon, behind_but_first, behind_but_more, behind_but_last, left_more, left_as_it_is}
use Rattle.solver.proofs.groups.common_lag.Goals.{then-left-o, else-left-o}
use Rattle.solver.proofs.groups.common_lag.Goals as goal

pub loop-o-init : goal.loop-o-init
loop-o-init c = record {
  behind = behind_but_first c.args.sheet.now c.args.marks.now (length c.args.sheet.now.tasks);
  gone = λ k b. absurd (omega (arith, b));
  bound = omega arith;
}

pub group_lag-lag-requires-clause-alike : goal.group_lag-lag-requires-clause-alike
group_lag-lag-requires-clause-alike c =
    one_horizon c.args.sheet.now c.horizon-common.result (length c.args.sheet.now.tasks) c.loop-o.left c.group_of-group.result c.group_of-group.ensures

pub loop-o-preserved : goal.loop-o-preserved
loop-o-preserved c =
    let sheet = c.args.sheet.now in
    let n = length sheet.tasks in
    let marks = c.args.marks.now in
    let known = c.loop-o.invariant in
    let in_range : c.loop-o.o < n = omega (arith, c.len-o-end.ensures.len) in
    elim c.if-left-o.branch [
      | then-left-o w ↦
          let common = w.horizon-common.result in
          let group = w.group_of-group.result in
          let rest = w.rest_of-left.result in
          record {
            behind = subst (λ (left : List Bool). IsBehindBut sheet marks left n c.if-left-o.lag) (sym w.left-is)
                (behind_but_more sheet common n c.loop-o.left group rest w.group_of-group.ensures w.rest_of-left.ensures marks c.loop-o.lag
                w.group_lag-lag.result c.if-left-o.lag w.lag-is known.behind w.group_lag-lag.ensures.behind);
            gone = subst (λ (left : List Bool). (k : ℕ) → k < c.loop-o.o + 1 → is_in left k ≡ false) (sym w.left-is)
                (left_more sheet common n c.loop-o.left group rest w.group_of-group.ensures w.rest_of-left.ensures c.loop-o.o in_range
                (sym (w.horizon-common.ensures.horizon ∙ ap (λ (t : Task). t.curve.horizon) w.task.ensures.task)) known.gone);
            bound = omega (arith, w.lag-is, known.bound, w.group_lag-lag.ensures.bound);
          }
      | else-left-o w ↦ record {
        behind = subst (λ (left : List Bool). IsBehindBut sheet marks left n c.if-left-o.lag) (sym w.left-is)
            (subst (λ (lag : ℕ). IsBehindBut sheet marks c.loop-o.left n lag) (sym w.lag-is) known.behind);
        gone = subst (λ (left : List Bool). (k : ℕ) → k < c.loop-o.o + 1 → is_in left k ≡ false) (sym w.left-is)
            (left_as_it_is c.loop-o.left c.loop-o.o known.gone w.if-left-o.false);
        bound = omega (arith, w.lag-is, known.bound);
      }
    ]

pub returns : goal.returns
returns c =
    behind_but_last c.args.sheet.now c.args.marks.now c.loop-o.left (length c.args.sheet.now.tasks) c.loop-o.lag
    (λ o b. c.loop-o.invariant.gone o (omega (arith, b, c.len-o-end.ensures.len))) c.loop-o.invariant.behind
