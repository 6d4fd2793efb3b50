use Rattle.std.proofs.Common.{◌≡◌, ◌==◌, ◌&&◌, not, ◌∙◌, ℕ, Bool, arith}
use Rattle.std.proofs.lemmas.List.{length-set}
use Rattle.task_sheet.specs.Sheets.{task_at}
use Rattle.solver.specs.Groups.{is_in}
use Rattle.solver.proofs.GroupFacts.{set_next}
use Rattle.solver.proofs.groups.rest_of.Goals as goal

pub loop-o-preserved : goal.loop-o-preserved
loop-o-preserved c =
    let sheet = c.args.sheet.now in
    let marks = c.args.marks.now in
    record {
      set = set_next (λ (o : ℕ) (m : Bool). m ≡ (not ((task_at sheet o).curve.horizon == c.args.common) && is_in marks o)) c.loop-o.o c.loop-o.rest c.is_other.result
          (omega (arith, c.loop-o.invariant.length, c.len-o-end.ensures.valid.few)) c.is_other.ensures c.loop-o.invariant.set;
      length = length-set c.loop-o.rest c.loop-o.o c.is_other.result ∙ c.loop-o.invariant.length;
    }
