use Rattle.std.proofs.Common.{◌∙◌, List, length, get_or, sym, subst}
use Rattle.std.proofs.lemmas.Bool.{both_ways}
use Rattle.run_model.specs.declared.run.Tick.{Tick}
use Rattle.run_model.specs.declared.run.Tick.TheVariants.{Off}
use Rattle.run_model.specs.Runs.{tick_at}
use Rattle.schedule_laws.specs.Compliance.{can_cut}
use Rattle.audit.specs.TickRules.{Leaves, OnlyMayFail}
use Rattle.audit.proofs.ReadFacts.{cut_read}
use Rattle.audit.proofs.SegmentFacts.{kept_none, leaves_none, left_first, all_cut, none_broken}
use Rattle.audit.proofs.segments.left_job.Goals as goal

pub can_cut_job-requires-clause-job : goal.can_cut_job-requires-clause-job
can_cut_job-requires-clause-job g c =
    (subst (OnlyMayFail (λ k. can_cut g.M.Preemption.cuts c.args.sheet.now c.args.run.now k c.args.t) (length c.args.run.now.jobs))
    c.in-Some.is c.requires.last).0

pub returns-then-not-leaves-clause-first : goal.returns-then-not-leaves-clause-first
returns-then-not-leaves-clause-first g c =
    kept_none g.M.Preemption.cuts c.args.sheet.now c.args.run.now c.args.t c.requires.tick c.args.last c.requires.last
    (λ l. both_ways c.leaves.result c.if-not-leaves.true
    (c.leaves.ensures.1 (subst (λ (v : List Tick). Leaves (get_or v c.args.t Off) c.args.last) (sym c.as_slice.ensures) l)))

pub returns-then-not-leaves-clause-cut : goal.returns-then-not-leaves-clause-cut
returns-then-not-leaves-clause-cut g c = λ none l. absurd (both_ways c.leaves.result c.if-not-leaves.true
    (c.leaves.ensures.1 (subst (λ (v : List Tick). Leaves (get_or v c.args.t Off) c.args.last) (sym c.as_slice.ensures) l)))

pub returns-in_default-clause-first : goal.returns-in_default-clause-first
returns-in_default-clause-first g c =
    let l = subst (λ (v : List Tick). Leaves (get_or v c.args.t Off) c.args.last) c.as_slice.ensures (c.leaves.ensures.0 c.if-not-leaves.false) in
    absurd (leaves_none g.M.Preemption.cuts c.args.sheet.now c.args.run.now c.args.t c.requires.tick
    (subst (Leaves (tick_at c.args.run.now c.args.t)) c.in_default.is l))

pub returns-in_default-clause-cut : goal.returns-in_default-clause-cut
returns-in_default-clause-cut g c = λ none l. absurd (leaves_none g.M.Preemption.cuts c.args.sheet.now c.args.run.now c.args.t c.requires.tick
    (subst (Leaves (tick_at c.args.run.now c.args.t)) c.in_default.is l))

pub returns-then-can_cut_job-clause-first : goal.returns-then-can_cut_job-clause-first
returns-then-can_cut_job-clause-first g c =
    let m = g.M.Preemption.cuts in
    let sheet = c.args.sheet.now in
    let run = c.args.run.now in
    let k = c.in-Some.k in
    let h = subst (OnlyMayFail (λ i. can_cut m sheet run i c.args.t) (length run.jobs)) c.in-Some.is c.requires.last in
    let cut = cut_read m sheet run c.args.t k (get_or c.args.served.now k 0) c.can_cut_job.result c.can_cut_job.ensures (c.requires.served.each k h.0) in
    none_broken m sheet run c.args.t c.requires.tick (all_cut m sheet run c.args.t c.requires.tick k h (cut ∙ c.if-can_cut_job.true))

pub returns-then-can_cut_job-clause-cut : goal.returns-then-can_cut_job-clause-cut
returns-then-can_cut_job-clause-cut g c =
    let m = g.M.Preemption.cuts in
    let sheet = c.args.sheet.now in
    let run = c.args.run.now in
    let k = c.in-Some.k in
    let h = subst (OnlyMayFail (λ i. can_cut m sheet run i c.args.t) (length run.jobs)) c.in-Some.is c.requires.last in
    let cut = cut_read m sheet run c.args.t k (get_or c.args.served.now k 0) c.can_cut_job.result c.can_cut_job.ensures (c.requires.served.each k h.0) in
    λ none l. all_cut m sheet run c.args.t c.requires.tick k h (cut ∙ c.if-can_cut_job.true)

pub returns-else-can_cut_job-clause-first : goal.returns-else-can_cut_job-clause-first
returns-else-can_cut_job-clause-first g c =
    let m = g.M.Preemption.cuts in
    let sheet = c.args.sheet.now in
    let run = c.args.run.now in
    let k = c.in-Some.k in
    let h = subst (OnlyMayFail (λ i. can_cut m sheet run i c.args.t) (length run.jobs)) c.in-Some.is c.requires.last in
    let cut = cut_read m sheet run c.args.t k (get_or c.args.served.now k 0) c.can_cut_job.result c.can_cut_job.ensures (c.requires.served.each k h.0) in
    let l = subst (λ (v : List Tick). Leaves (get_or v c.args.t Off) c.args.last) c.as_slice.ensures (c.leaves.ensures.0 c.if-not-leaves.false) in
    left_first m sheet run c.args.t c.requires.tick k h (subst (Leaves (tick_at run c.args.t)) c.in-Some.is l) (cut ∙ c.if-can_cut_job.false)

pub returns-else-can_cut_job-clause-cut : goal.returns-else-can_cut_job-clause-cut
returns-else-can_cut_job-clause-cut g c = λ none l k b. absurd (cc)
