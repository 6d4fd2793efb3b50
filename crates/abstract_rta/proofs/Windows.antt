-- For steps "The offset lies in the window" and "Service at the end" of docs/ANALYSIS.md:
-- what jobs can ask for that arrive in their tasks' windows.
use Rattle.std.proofs.Common.{◌≡◌, ℕ, zero, suc, ◌+◌, ◌-◌, ◌*◌, ◌<◌, ◌≤◌, Bool, true, cond}
use Rattle.std.proofs.Common.{List, length, take, count_by, refl, ap, inl, inr, arith, eq-eqb}
use Rattle.std.proofs.lemmas.Bool.{cases_Bool, and_from}
use Rattle.std.proofs.lemmas.Bool.Decides.{nat_tests}
use Rattle.std.proofs.Math.Nat.{mul-le-mul_left}
use Rattle.std.proofs.Math.Seq.{take-length}
use Rattle.lists.specs.Sums.{sum_below}
use Rattle.lists.proofs.SumFacts.{cond_mono, sum_le, sum_gap, count_more}
use Rattle.curve.specs.Curves.{alpha_of}
use Rattle.task_sheet.specs.declared.tasks.Job.{Job}
use Rattle.task_sheet.specs.Sheets.{task_at}
use Rattle.run_model.specs.declared.run.Run.{Run}
use Rattle.run_model.specs.Runs.{no_job, job_at, service_of}
use Rattle.schedule_laws.specs.Compliance.{arrives_in, arrivals_of}
use Rattle.abstract_rta.proofs.Setting.{Setting, of_sheet, timely, fit_of, jitter_of, demand_in, served}

-- Windows of arrivals, one for each task: that of task o begins at s o and is w o long.

-- job k arrives within the window of its task
abbrev pub in_window : (ℕ → ℕ) → (ℕ → ℕ) → Run → ℕ → Bool
in_window w s run k = let o = (job_at run k).task in arrives_in o (s o) (s o + w o) (job_at run k)

in_range : (s u : ℕ) (j : Job) → s ≤ j.arrival → j.arrival < u → arrives_in j.task s u j ≡ true
in_range s u j h l = and_from _ _ (eq-eqb j.task j.task refl) (grind (arith, nat_tests))

-- what is released from t on arrives by its task's jitter before t, or later
abbrev pub begins : Setting → ℕ → ℕ → ℕ
begins g t o = t - jitter_of g o

pub window_from : (g : Setting) (w : ℕ → ℕ) (t k : ℕ) → k < length g.run.jobs → t ≤ (job_at g.run k).release →
    (job_at g.run k).arrival < begins g t (job_at g.run k).task + w (job_at g.run k).task →
    in_window w (begins g t) g.run k ≡ true
window_from g w t k b h l =
    let task = (job_at g.run k).task in
    in_range (begins g t task) (begins g t task + w task) (job_at g.run k) (omega (arith, h, (timely g k b).soon)) l

-- costs of jobs that are below those of n tasks
module _ (cost w s : ℕ → ℕ) (n : ℕ) (run : Run) (tasks : (k : ℕ) → k < length run.jobs → (job_at run k).task < n) where
  -- the cost of those of the first m jobs that are of task o and in its window
  part : ℕ → ℕ → ℕ
  part m o = cost o * count_by (arrives_in o (s o) (s o + w o)) (take m run.jobs)

  part_more : (m o : ℕ) → m < length run.jobs →
      part (suc m) o ≡ part m o + cost o * cond (arrives_in o (s o) (s o + w o) (job_at run m)) 1 0
  unfolding part
  part_more m o h =
      omega (arith, ap (λ (x : ℕ). cost o * x) (count_more (arrives_in o (s o) (s o + w o)) run.jobs no_job m h))

  by_task : (m : ℕ) → m ≤ length run.jobs →
      sum_below (λ k. cond (in_window w s run k) (cost (job_at run k).task) 0) m ≤ sum_below (part m) n
  by_task zero h = omega arith
  by_task (suc m) h =
      let ih = by_task m (omega arith) in
      let long : m < length run.jobs = omega arith in
      let task = (job_at run m).task in
      elim (cases_Bool (in_window w s run m)) [
        | inr f ↦
            omega (
              arith,
              ih,
              ap (λ (b : Bool). cond b (cost task) 0) f,
              sum_le (part m) (part (suc m)) n (λ o b. omega (arith, part_more m o long)),
            )
        | inl t ↦
            omega (
              arith,
              ih,
              ap (λ (b : Bool). cond b (cost task) 0) t,
              sum_gap (part m) (part (suc m)) n task (cost task) (tasks m long) (λ o b. omega (arith, part_more m o long))
                  (omega (arith, part_more m task long, ap (λ (b : Bool). cost task * cond b 1 0) t)),
            )
      ]

  pub all_by_task : (bound : ℕ → ℕ) → ((o : ℕ) → o < n → count_by (arrives_in o (s o) (s o + w o)) run.jobs ≤ bound o) →
      sum_below (λ k. cond (in_window w s run k) (cost (job_at run k).task) 0) (length run.jobs) ≤
      sum_below (λ o. cost o * bound o) n
  unfolding part
  all_by_task bound h =
      omega (
        arith,
        by_task (length run.jobs) (omega arith),
        sum_le (part (length run.jobs)) (λ o. cost o * bound o) n
            (λ o b.
            let all = ap (λ (x : List Job). cost o * count_by (arrives_in o (s o) (s o + w o)) x) (take-length run.jobs) in
            omega (arith, mul-le-mul_left (cost o) (h o b), all)),
      )

pub window_length : (s d : ℕ) → s + d - s ≡ d
window_length s d = omega arith

-- the cost of all jobs that may arrive in the windows
abbrev pub windows_demand : Setting → (ℕ → ℕ) → ℕ
windows_demand g w = sum_below (λ o. demand_in g o (w o)) (length g.sheet.tasks)

-- what the jobs in their windows have got, and what one of them lacks, is within the curves
pub demand_gap : (g : Setting) (w s : ℕ → ℕ) (u j gap : ℕ) → u ≤ length g.run.ticks →
    j < length g.run.jobs → in_window w s g.run j ≡ true →
    service_of g.run j u + gap ≤ (task_at g.sheet (job_at g.run j).task).cost →
    served g (in_window w s g.run) u + gap ≤ windows_demand g w
unfolding served arrivals_of
demand_gap g w s u j gap h l i lacks =
    let cost : ℕ → ℕ = λ o. (task_at g.sheet o).cost in
    let chosen = in_window w s g.run in
    let had : ℕ → ℕ = λ k. service_of g.run k u in
    let asked : ℕ → ℕ = λ k. cost (job_at g.run k).task in
    let within : (k : ℕ) → k < length g.run.jobs → had k ≤ asked k = λ k b.
    let laws = g.laws.cut (job_at g.run k).task (of_sheet g k b) in
    omega (arith, g.laws.within_cost g.sheet g.run g.ok.valid k u h, laws.cost_bound (job_at g.run k) (fit_of g k b)) in
    let gapped : served g chosen u + gap ≤ sum_below (λ k. cond (chosen k) (asked k) 0) (length g.run.jobs) =
    sum_gap (λ k. cond (chosen k) (had k) 0) (λ k. cond (chosen k) (asked k) 0) (length g.run.jobs) j gap l
    (λ k b. cond_mono (chosen k) _ _ (within k b))
    (omega (arith, lacks, ap (λ (b : Bool). cond b (had j) 0) i, ap (λ (b : Bool). cond b (asked j) 0) i)) in
    omega (
      arith,
      gapped,
      all_by_task cost w s (length g.sheet.tasks) g.run (of_sheet g) (λ o. alpha_of (task_at g.sheet o).curve (w o))
          (λ o b. rw window_length at (g.ok.curves o (s o) (s o + w o) b (omega arith))),
    )
