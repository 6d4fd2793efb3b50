use Rattle.std.proofs.Common.{true, false, sym, ◌∙◌}
use Rattle.audit.proofs.CutFacts.{searched_cut}
use Rattle.audit.proofs.cuts.can_cut.Goals as goal

pub returns-then-is_ok : goal.returns-then-is_ok
returns-then-is_ok g c =
    let tabled = g.met.M.Tabled.tabled c.args.task.now c.requires.serves in
    c.if-is_ok.true
    ∙ searched_cut g.M.Preemption.cuts c.args.task.now c.args.job.now c.args.sums.now c.args.s c.binary_search.result true tabled
    c.in-Fixed.is c.requires.sums c.binary_search.ensures.position (sym c.is_ok.ensures.value ∙ c.if-is_ok.true)

pub returns-else-is_ok : goal.returns-else-is_ok
returns-else-is_ok g c =
    let tabled = g.met.M.Tabled.tabled c.args.task.now c.requires.serves in
    searched_cut g.M.Preemption.cuts c.args.task.now c.args.job.now c.args.sums.now c.args.s c.binary_search.result false tabled
    c.in-Fixed.is c.requires.sums c.binary_search.ensures.position (sym c.is_ok.ensures.value ∙ c.if-is_ok.false)
