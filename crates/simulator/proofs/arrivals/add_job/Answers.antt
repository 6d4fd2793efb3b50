use Rattle.std.proofs.Common.{◌≡◌, ℕ, ◌-◌, length, ◌∙◌, ap, rules, arith}
use Rattle.std.proofs.lemmas.Result.{err_from_is_err_and}
use Rattle.task_sheet.specs.Limits.{jitter_high}
use Rattle.task_sheet.specs.Sheets.{task_at, IsTask}
use Rattle.task_sheet.specs.declared.tasks.Task.{Task}
use Rattle.preemption.specs.CutLaws.{IsLawfulCut}
use Rattle.simulated_run.specs.SimulatedRun.{World}
use Rattle.simulator.specs.SimulationState.{world_by, moment_of, run_of}
use Rattle.simulator.proofs.ArrivalFacts.{job_is, last_is, state_is, made_new, added, refuses_jobs, refuses_load}
use Rattle.simulator.proofs.arrivals.add_job.Goals as goal

pub returns-then-len-ge-MOST_JOBS-clause-refusal : goal.returns-then-len-ge-MOST_JOBS-clause-refusal
returns-then-len-ge-MOST_JOBS-clause-refusal g c =
    let w : World = world_by g.P.Policy.meaning g.M.Preemption.cuts c.args.sheet.now c.args.mode in
    let len : c.len.result ≡ length c.args.simulation.now.jobs.items = search rules in
    refuses_jobs w c.args.o c.args.t (moment_of c.args.simulation.now) c.requires.kept.jobs.within (omega arith)

pub returns-in_err-load-clause-refusal : goal.returns-in_err-load-clause-refusal
returns-in_err-load-clause-refusal g c =
    let w : World = world_by g.P.Policy.meaning g.M.Preemption.cuts c.args.sheet.now c.args.mode in
    let len : c.len.result ≡ length c.args.simulation.now.jobs.items = search rules in
    let p = err_from_is_err_and c.from_residual.result c.from_residual.ensures.1 in
    rw (p.1, p.2)
    (refuses_load w c.args.o c.args.t (moment_of c.args.simulation.now) c.requires.kept.jobs.within c.task-task.result.now
    (1000000 - c.args.simulation.now.segments) c.in_err-load.field-0.0 c.task-task.ensures.task (omega arith)
    (ap (λ (n : ℕ). 1000000 - n) c.requires.kept.segments) c.in_err-load.ensures.refusal)

pub draw_release-release-requires-clause-high : goal.draw_release-release-requires-clause-high
draw_release-release-requires-clause-high g c =
    let is_task : IsTask (task_at c.args.sheet.now c.args.o) = c.task-task.ensures.valid.each c.args.o c.requires.task in
    omega (arith, jitter_high (task_at c.args.sheet.now c.args.o) is_task, ap (λ (v : Task). v.jitter) c.task-task.ensures.task)

pub keep_job-requires-clause-new : goal.keep_job-requires-clause-new
keep_job-requires-clause-new g c =
    let sheet = c.args.sheet.now in
    let m = c.args.simulation.now in
    let load = c.in_ok-load.ensures.load in
    let len : c.len.result ≡ length m.jobs.items = search rules in
    let last = last_is c.args.o (length sheet.tasks) (run_of m) m.releases.items c.index-last.result.now c.requires.kept.releases
    c.requires.task c.index-last.ensures in
    let is_task : IsTask (task_at sheet c.args.o) = c.task-task.ensures.valid.each c.args.o c.requires.task in
    let law : IsLawfulCut g.M.Preemption.cuts (task_at sheet c.args.o) =
    g.met.M.Preemption.lawful (task_at sheet c.args.o) is_task (c.requires.served c.args.o c.requires.task) in
    made_new c.args.mode g.M.Preemption.cuts sheet c.args.o c.args.t _ m.words m.jobs.items _
    (job_is c.args.mode c.task-task.result.now (task_at sheet c.args.o) c.args.o c.args.t _ _ m.words _ c.in_ok-load.load.cost
    c.draw_release-release.result c.new.result c.task-task.ensures.task load.cost (c.new.ensures ∙ load.segs) last c.in_ok-load.ensures.state
    c.draw_release-release.ensures.release)
    c.requires.task is_task law (g.met.M.Tabled.tabled (task_at sheet c.args.o) (c.requires.served c.args.o c.requires.task))
    (omega arith)
    (omega (arith, ap length c.new.ensures, load.few, c.requires.kept.segments, c.requires.kept.jobs.within.few_segments))

pub returns-clause-moment : goal.returns-clause-moment
returns-clause-moment g c =
    let w : World = world_by g.P.Policy.meaning g.M.Preemption.cuts c.args.sheet.now c.args.mode in
    let load = c.in_ok-load.ensures.load in
    let now = c.args.simulation.now in
    let m = moment_of now in
    let last = last_is c.args.o (length w.sheet.tasks) (run_of now) now.releases.items c.index-last.result.now
    c.requires.kept.releases c.requires.task c.index-last.ensures in
    added w c.args.o c.args.t m _ (run_of c.keep_job.new.simulation) c.keep_job.new.simulation.words
    (job_is c.args.mode c.task-task.result.now (task_at w.sheet c.args.o) c.args.o c.args.t _ _ m.state _ c.in_ok-load.load.cost
    c.draw_release-release.result c.new.result c.task-task.ensures.task load.cost (c.new.ensures ∙ load.segs) last c.in_ok-load.ensures.state
    c.draw_release-release.ensures.release)
    c.in_ok-keep_job.ensures.run
    (c.keep_job.ensures.words
    ∙ state_is c.args.mode c.task-task.result.now (task_at w.sheet c.args.o) m.state _ c.draw_release-release.new.words c.task-task.ensures.task
    c.in_ok-load.ensures.state c.draw_release-release.ensures.state)
