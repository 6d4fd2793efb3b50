-- What the calls of an exercise give.
use Rattle.std.proofs.Common.{◌≡◌, ℕ, ◌*◌, ◌≤◌, false, List, length, None, Some, Option, Ok, Err, Result, refl, sym, ◌∙◌, ap, arith}
use Rattle.std.specs.List.{sum_by}
use Rattle.std.proofs.Math.Nat.{mul-le-mul_left}
use Rattle.task_sheet.specs.SheetParts.{SheetParts}
use Rattle.policy.specs.Policies.{edf_meaning}
use Rattle.preemption.specs.Kinds.{per_task_meaning}
use Rattle.supply.specs.Promises.{sbf_of}
use Rattle.run_model.specs.declared.run.Run.{Run}
use Rattle.certificate.specs.declared.cert.Entry.{Entry}
use Rattle.certificate.specs.declared.cert.Cert.{Cert}
use Rattle.certificate.specs.Text.{IsWithinGrammar}
use Rattle.conditions.specs.Conditions.{failed_of}
use Rattle.solver.specs.Best.{IsBest, points_to}
use Rattle.solver.specs.Outcome.{best_of}
use Rattle.solver.specs.declared.analysis.AnalyseRefusal.{AnalyseRefusal}
use Rattle.simulated_run.specs.declared.mode.Mode.TheVariants.{Dense}
use Rattle.simulated_run.specs.SimulatedRun.{world_of, simulated_run}
use Rattle.simulator.specs.declared.refusal.SimRefusal.{SimRefusal}
use Rattle.simulator.specs.Simulations.{refused_by, run_or, simulation_of}
use Rattle.audit.specs.declared.verdict.Fault.{Fault}
use Rattle.audit.specs.declared.verdict.Seen.{Seen}
use Rattle.audit.specs.declared.verdict.AuditVerdict.TheVariants.{Compliant}
use Rattle.audit.specs.Responses.{seen_below}
use Rattle.audit.specs.Verdicts.{verdict_by}
use Rattle.exercise.specs.GeneratedSheet.{generated_sheet}
use Rattle.exercise.proofs.SheetFacts.{sheet_count}
use Rattle.exercise.specs.declared.outcome.Exercise.{Exercise}
use Rattle.exercise.specs.Exercises.{best_cert_of, dense_run_of, exercise_by, exercise_of, ExerciseHolds}
use Rattle.exercise.specs.Laws.{Succeeds}
use Rattle.exercise.proofs.LimitFacts.{run_is_early}
use Rattle.exercise.proofs.CountFacts.{points_all, done_all}

-- the supply is whole
pub whole : (seed tasks : ℕ) (sheet : SheetParts) → sheet ≡ generated_sheet seed tasks → (λ (d : ℕ). d) ≡ sbf_of sheet.supply
unfolding generated_sheet
whole seed tasks sheet e = sym (ap (λ (s : SheetParts). sbf_of s.supply) e)

-- the analysis is not refused
pub never_refused : (seed tasks : ℕ) (sheet : SheetParts) (refusal : AnalyseRefusal) →
    sheet ≡ generated_sheet seed tasks → Succeeds seed tasks →
    best_of edf_meaning per_task_meaning (λ d. d) sheet 1000000 ≡ Err refusal → ⊥
unfolding best_cert_of
never_refused seed tasks sheet refusal e law h =
    let other : best_of edf_meaning per_task_meaning (λ d. d) (generated_sheet seed tasks) 1000000 ≡ Err refusal = rw e at h in
    let here : best_of edf_meaning per_task_meaning (λ d. d) (generated_sheet seed tasks) 1000000 ≡ Ok law.cert = law.best in
    absurd (cc)

pub cert_is : (seed tasks : ℕ) (sheet : SheetParts) (cert : Cert) → sheet ≡ generated_sheet seed tasks →
    best_of edf_meaning per_task_meaning (λ d. d) sheet 1000000 ≡ Ok cert → best_cert_of seed tasks ≡ Ok cert
unfolding best_cert_of
cert_is seed tasks sheet cert e h = rw e at h

simulation_is : (seed tasks : ℕ) (sheet : SheetParts) (r : Result Run SimRefusal) → sheet ≡ generated_sheet seed tasks →
    Succeeds seed tasks → simulation_of (world_of edf_meaning per_task_meaning (λ d. d) sheet Dense) 10000 ≡ r →
    Ok (dense_run_of seed tasks) ≡ r
unfolding dense_run_of
simulation_is seed tasks sheet r e law h =
    let run : Run = simulated_run (world_of edf_meaning per_task_meaning (λ d. d) (generated_sheet seed tasks) Dense) 10000 in
    let none : refused_by run.jobs ≡ None = law.within_limits in
    let here : run_or run (refused_by run.jobs) ≡ r = rw e at h in
    sym (ap (run_or run) none) ∙ here

-- nor is the simulation
pub never_stopped : (seed tasks : ℕ) (sheet : SheetParts) (refusal : SimRefusal) → sheet ≡ generated_sheet seed tasks →
    Succeeds seed tasks →
    simulation_of (world_of edf_meaning per_task_meaning (λ d. d) sheet Dense) 10000 ≡ Err refusal → ⊥
never_stopped seed tasks sheet refusal e law h = let both = simulation_is seed tasks sheet (Err refusal) e law h in absurd (cc)

pub run_is : (seed tasks : ℕ) (sheet : SheetParts) (run : Run) → sheet ≡ generated_sheet seed tasks →
    Succeeds seed tasks → simulation_of (world_of edf_meaning per_task_meaning (λ d. d) sheet Dense) 10000 ≡ Ok run →
    dense_run_of seed tasks ≡ run
run_is seed tasks sheet run e law h = let both = simulation_is seed tasks sheet (Ok run) e law h in cc

-- what a verdict sees
verdict_sees : (fault : Option Fault) (all seen : List Seen) → Compliant seen ≡ verdict_by fault all → seen ≡ all
verdict_sees None all seen h = cc
verdict_sees (Some fault) all seen h = absurd (cc)

pub seen_is : (seed tasks : ℕ) (sheet : SheetParts) (run : Run) (fault : Option Fault) (seen : List Seen) →
    sheet ≡ generated_sheet seed tasks → Compliant seen ≡ verdict_by fault (seen_below run (length sheet.tasks)) →
    seen ≡ seen_below run tasks
seen_is seed tasks sheet run fault seen e h =
    let count : length sheet.tasks ≡ tasks = ap (λ (s : SheetParts). length s.tasks) e ∙ sheet_count seed tasks in
    verdict_sees fault (seen_below run (length sheet.tasks)) seen h ∙ ap (seen_below run) count

pub points_few : (sheet : SheetParts) (cert : Cert) (entries : List Entry) → entries ≡ cert.entries →
    IsBest edf_meaning per_task_meaning (λ d. d) sheet 1000000 cert → sum_by (λ e. length e.points) entries ≤ 1000000
points_few sheet cert entries e best =
    omega (arith, points_all cert.entries, ap (points_to cert.entries) best.count, best.few, ap (λ (xs : List Entry). sum_by (λ x. length x.points) xs) e)

pub done_few : (tasks : ℕ) (run : Run) (seen listed : List Seen) → tasks ≤ 64 → length run.jobs ≤ 20000 →
    seen ≡ seen_below run tasks → listed ≡ seen → sum_by (λ s. s.done) listed ≤ 1280000
done_few tasks run seen listed few jobs e l =
    let all : sum_by (λ s. s.done) listed ≤ tasks * length run.jobs = rw (l, e) (done_all run tasks) in
    omega (arith, mul-le-mul_left tasks jobs)

-- what is counted is the exercise
pub exercise_is : (seed tasks : ℕ) (cert : Cert) (run : Run) (seen : List Seen) (e : Exercise) →
    best_cert_of seed tasks ≡ Ok cert → dense_run_of seed tasks ≡ run → seen ≡ seen_below run tasks →
    e ≡ exercise_by cert.entries run seen → e ≡ exercise_of seed tasks
unfolding exercise_of
exercise_is seed tasks cert run seen e best is_run is_seen counted = rw (counted, best, is_run, is_seen) refl

pub exercise_holds : (seed tasks : ℕ) (sheet : SheetParts) (cert : Cert) → 1 ≤ tasks → tasks ≤ 64 →
    sheet ≡ generated_sheet seed tasks → best_cert_of seed tasks ≡ Ok cert → IsWithinGrammar cert →
    failed_of edf_meaning per_task_meaning (λ d. d) sheet false cert ≡ None → ExerciseHolds seed tasks
exercise_holds seed tasks sheet cert some few e best within meets = record {
  cert = cert;
  best = best;
  within = within;
  meets = rw e at meets;
  complies = (run_is_early seed tasks some few).complies;
}
