-- The first crowded job, from the first crowded tick of each task.
use Rattle.std.proofs.Common.{◌≡◌, ℕ, suc, ◌+◌, ◌-◌, ◌==◌, ◌<◌, ◌≤◌, ◌⊎◌, ◌&&◌, ◌||◌, Bool, true, false, cond, List, [], ◌∷◌, length, get_or}
use Rattle.std.proofs.Common.{count_by, map, filter, Option, Some, None, refl, sym, ◌∙◌, ap, subst, inl, inr, arith, leb, ltb}
use Rattle.std.specs.List.Sorted.{IsPermutation, IsNonDecreasing}
use Rattle.std.proofs.lemmas.Bool.{cases_lt, cases_Bool}
use Rattle.std.proofs.lemmas.Bool.Decides.{nat_tests}
use Rattle.std.proofs.lemmas.List.Sums.{sum_by-cons}
use Rattle.lists.specs.Limits.{greatest_number}
use Rattle.lists.specs.Searches.{IsFirstBelow}
use Rattle.curve.specs.Curves.{alpha_of}
use Rattle.task_sheet.specs.declared.tasks.Job.{Job}
use Rattle.task_sheet.specs.declared.tasks.Task.{Task}
use Rattle.task_sheet.specs.SheetParts.{SheetParts}
use Rattle.task_sheet.specs.Sheets.{task_at}
use Rattle.run_model.specs.declared.run.Run.{Run}
use Rattle.run_model.specs.Runs.{job_at}
use Rattle.schedule_laws.specs.Compliance.{arrivals_of}
use Rattle.schedule_laws.specs.Tests.{AreOf, AreEarly, is_crowded}
use Rattle.schedule_laws.proofs.TestFacts.{crowded_from, crowded_to}
use Rattle.schedule_laws.proofs.CrowdFacts.{arrival_or_none, none_arrive}
use Rattle.windows.specs.Arrivals.{arrived_in}
use Rattle.windows.specs.Crowds.{IsNoLater, IsFirstJob, IsCrowdedOf, comes_first, earlier_of, ArrivesAt, task_arrivals, AreArrivals, IsCrowdedTick}
use Rattle.windows.specs.Crowds.{IsFirstCrowdedTick, IsFirstCrowded}
use Rattle.windows.proofs.ArrivalFacts.{arrived_range, arrived_permuted}

-- the same jobs are counted by their arrivals
count_filtered : (q : Job → Bool) (p : ℕ → Bool) (js : List Job) →
    count_by p (map (λ j. j.arrival) (filter q js)) ≡ count_by (λ j. q j && p j.arrival) js
count_filtered q p [] = refl
count_filtered q p (j ∷ js) = elim (cases_Bool (q j)) [
  | inl t ↦
      let kept : map (λ (k : Job). k.arrival) (filter q (j ∷ js)) ≡ j.arrival ∷ map (λ (k : Job). k.arrival) (filter q js) =
      ap (λ (b : Bool). map (λ (k : Job). k.arrival) (cond b (j ∷ filter q js) (filter q js))) t in
      omega (
        arith,
        ap (λ (l : List ℕ). count_by p l) kept,
        sum_by-cons (λ a. cond {A = ℕ} (p a) 1 0) j.arrival (map (λ (k : Job). k.arrival) (filter q js)),
        sum_by-cons (λ (k : Job). cond {A = ℕ} (q k && p k.arrival) 1 0) j js,
        ap (λ (b : Bool). cond {A = ℕ} (b && p j.arrival) 1 0) t,
        count_filtered q p js,
      )
  | inr f ↦
      let left : map (λ (k : Job). k.arrival) (filter q (j ∷ js)) ≡ map (λ (k : Job). k.arrival) (filter q js) =
      ap (λ (b : Bool). map (λ (k : Job). k.arrival) (cond b (j ∷ filter q js) (filter q js))) f in
      omega (
        arith,
        ap (λ (l : List ℕ). count_by p l) left,
        sum_by-cons (λ (k : Job). cond {A = ℕ} (q k && p k.arrival) 1 0) j js,
        ap (λ (b : Bool). cond {A = ℕ} (b && p j.arrival) 1 0) f,
        count_filtered q p js,
      )
]

arrivals_listed : (run : Run) (o s u : ℕ) → arrived_in (task_arrivals run o) s u ≡ arrivals_of run o s u
unfolding arrived_in arrivals_of
arrivals_listed run o s u = count_filtered (λ j. j.task == o) (λ a. leb s a && ltb a u) run.jobs

-- sorted, they are the arrivals of task o
pub are_arrivals : (run : Run) (o : ℕ) (xs ys : List ℕ) → xs ≡ task_arrivals run o → IsPermutation xs ys →
    IsNonDecreasing ys → AreArrivals run o ys
are_arrivals run o xs ys is same up = record {
  ascending = up;
  same = λ s u. arrived_permuted xs ys s u same ∙ ap (λ (l : List ℕ). arrived_in l s u) is ∙ arrivals_listed run o s u;
}

module _ (run : Run) (o : ℕ) (xs : List ℕ) (are : AreArrivals run o xs) where
  -- each of the arrivals is that of a job
  pub arrival_job : (i : ℕ) → i < length xs → (k : ℕ) × (k < length run.jobs) × ArrivesAt run o (get_or xs i 0) k
  arrival_job i b = elim (arrival_or_none run o (get_or xs i 0)) [
    | inl k ↦ (k.0, k.1, record { task = k.2; arrival = k.3 })
    | inr none ↦
        absurd (omega (
          arith,
          none_arrive run o (get_or xs i 0) none,
          are.same (get_or xs i 0) (get_or xs i 0 + 1),
          arrived_range xs (get_or xs i 0) (get_or xs i 0 + 1) i (suc i) (omega arith)
              (λ k l m. are.ascending i k 0 l (omega arith)) (λ k l m. omega (arith, are.ascending k i 0 (omega arith) b)),
        ))
  ]

  pub arrivals_early : AreEarly run → (i : ℕ) → i < length xs → get_or xs i 0 ≤ greatest_number
  arrivals_early early i b = let k = arrival_job i b in omega (arith, early k.0 k.1, k.2.arrival)

  module _ (sheet : SheetParts) where
    -- a crowded job, and the tick of its arrival
    tick_of_job : (n : ℕ) → (job_at run n).task ≡ o → is_crowded sheet run n ≡ true →
        IsCrowdedTick (task_at sheet o).curve xs (job_at run n).arrival
    tick_of_job n e h =
        let crowd = crowded_from sheet run n h in
        record {
          start = crowd.start;
          within = crowd.within;
          many = omega (
            arith,
            are.same crowd.start ((job_at run n).arrival + 1),
            subst (λ w. alpha_of (task_at sheet w).curve ((job_at run n).arrival + 1 - crowd.start) < arrivals_of run w
                crowd.start ((job_at run n).arrival + 1)) e crowd.many,
          );
        }

    job_of_tick : (n : ℕ) → (job_at run n).task ≡ o →
        IsCrowdedTick (task_at sheet o).curve xs (job_at run n).arrival → is_crowded sheet run n ≡ true
    job_of_tick n e crowd = crowded_to sheet run n (record {
      start = crowd.start;
      within = crowd.within;
      many = subst (λ w. alpha_of (task_at sheet w).curve ((job_at run n).arrival + 1 - crowd.start) < arrivals_of run w
          crowd.start ((job_at run n).arrival + 1)) (sym e) (omega (arith, are.same crowd.start ((job_at run n).arrival + 1), crowd.many));
    })

    pub none_of_task : IsFirstCrowdedTick (task_at sheet o).curve xs None →
        IsFirstJob (IsCrowdedOf sheet run o) run None
    none_of_task free n b crowd = free (job_at run n).arrival (tick_of_job n crowd.task crowd.crowded)

    pub first_of_task : (t : ℕ) (r : Option ℕ) → IsFirstCrowdedTick (task_at sheet o).curve xs (Some t) →
        IsFirstBelow (ArrivesAt run o t) (length run.jobs) r → IsFirstJob (IsCrowdedOf sheet run o) run r
    first_of_task t None first none =
        let i = first.1 in
        let k = arrival_job i.0 i.1 in
        absurd (none k.0 k.1 (subst (λ w. ArrivesAt run o w k.0) i.2 k.2))
    first_of_task t (Some k) first found =
        let at = found.1 in (
          found.0,
          record { task = at.task; crowded = job_of_tick k at.task (subst (IsCrowdedTick (task_at sheet o).curve xs) (sym at.arrival) first.0.holds) },
          (λ n b crowd.
              let least = first.0.least (job_at run n).arrival (tick_of_job n crowd.task crowd.crowded) in
              elim (cases_lt t (job_at run n).arrival) [
                | inl l ↦ inl (omega (arith, at.arrival))
                | inr l ↦ inr (
                  omega (arith, at.arrival),
                  (elim (cases_lt n k) [
                    | inr c ↦ c
                    | inl c ↦ absurd (found.2 n c (record { task = crowd.task; arrival = omega arith }))
                  ]),
                )
              ]),
        )

no_later_trans : (run : Run) (a b c : ℕ) → IsNoLater run a b → IsNoLater run b c → IsNoLater run a c
no_later_trans run a b c (inl h) (inl k) = inl (omega arith)
no_later_trans run a b c (inl h) (inr k) = inl (omega (arith, k.0))
no_later_trans run a b c (inr h) (inl k) = inl (omega (arith, h.0))
no_later_trans run a b c (inr h) (inr k) = inr (omega (arith, h.0, k.0), omega (arith, h.1, k.1))

first_of_numbers : (a b k n : ℕ) → (ltb a b || ((a == b) && leb k n)) ≡ true → (a < b) ⊎ ((a ≡ b) × (k ≤ n))
first_of_numbers a b k n h = elim (cases_lt a b) [ inl l ↦ inl l | inr l ↦ inr (grind (arith, nat_tests), grind (arith, nat_tests)) ]

second_of_numbers : (a b k n : ℕ) → (ltb a b || ((a == b) && leb k n)) ≡ false → (b < a) ⊎ ((b ≡ a) × (n ≤ k))
second_of_numbers a b k n h = elim (cases_lt b a) [ inl l ↦ inl l | inr l ↦ inr (grind (arith, nat_tests), grind (arith, nat_tests)) ]

first_tells : (run : Run) (k n : ℕ) → comes_first run k n ≡ true → IsNoLater run k n
first_tells run k n h = first_of_numbers (job_at run k).arrival (job_at run n).arrival k n h

second_tells : (run : Run) (k n : ℕ) → comes_first run k n ≡ false → IsNoLater run n k
second_tells run k n h = second_of_numbers (job_at run k).arrival (job_at run n).arrival k n h

module _ (run : Run) (P Q R : ℕ → Type 0) (left : (n : ℕ) → P n → R n) (right : (n : ℕ) → Q n → R n) (either : (n : ℕ) → R n → P n ⊎ Q n) where
  first_two : (k n : ℕ) → (b : Bool) → comes_first run k n ≡ b → IsFirstJob P run (Some k) →
      IsFirstJob Q run (Some n) → IsFirstJob R run (cond b (Some k) (Some n))
  first_two k n true e p q = (
    p.0,
    left k p.1,
    (λ m b r. elim (either m r) [ inl h ↦ p.2 m b h | inr h ↦ no_later_trans run k n m (first_tells run k n e) (q.2 m b h) ]),
  )
  first_two k n false e p q = (
    q.0,
    right n q.1,
    (λ m b r. elim (either m r) [ inl h ↦ no_later_trans run n k m (second_tells run k n e) (p.2 m b h) | inr h ↦ q.2 m b h ]),
  )

  -- the first job with one of two properties
  pub first_of_either : (a b : Option ℕ) → IsFirstJob P run a → IsFirstJob Q run b →
      IsFirstJob R run (earlier_of run a b)
  first_of_either None None p q = λ n b r. elim (either n r) [ inl h ↦ p n b h | inr h ↦ q n b h ]
  first_of_either None (Some n) p q = (q.0, right n q.1, (λ m b r. elim (either m r) [ inl h ↦ absurd (p m b h) | inr h ↦ q.2 m b h ]))
  first_of_either (Some k) None p q = (p.0, left k p.1, (λ m b r. elim (either m r) [ inl h ↦ p.2 m b h | inr h ↦ absurd (q m b h) ]))
  first_of_either (Some k) (Some n) p q = first_two k n (comes_first run k n) refl p q

-- a job of one of the first n tasks, crowded
pub record IsCrowdedBelow (sheet : SheetParts) (run : Run) (n k : ℕ) : Type 0 where
  pub task : (job_at run k).task < n
  pub crowded : is_crowded sheet run k ≡ true

pub below_none : (sheet : SheetParts) (run : Run) → IsFirstJob (IsCrowdedBelow sheet run 0) run None
below_none sheet run n b crowd = absurd (omega (arith, crowd.task))

pub below_more : (sheet : SheetParts) (run : Run) (o : ℕ) (a b : Option ℕ) →
    IsFirstJob (IsCrowdedBelow sheet run o) run a → IsFirstJob (IsCrowdedOf sheet run o) run b →
    IsFirstJob (IsCrowdedBelow sheet run (o + 1)) run (earlier_of run a b)
below_more sheet run o a b p q =
    first_of_either run (IsCrowdedBelow sheet run o) (IsCrowdedOf sheet run o) (IsCrowdedBelow sheet run (o + 1))
    (λ n h. record { task = omega (arith, h.task); crowded = h.crowded })
    (λ n h. record { task = omega (arith, h.task); crowded = h.crowded })
    (λ n h. elim (cases_lt (job_at run n).task o) [
      | inl c ↦ inl (record { task = c; crowded = h.crowded })
      | inr c ↦ inr (record { task = omega (arith, h.task); crowded = h.crowded })
    ])
    a b p q

pub below_all : (sheet : SheetParts) (run : Run) (r : Option ℕ) → AreOf sheet run →
    IsFirstJob (IsCrowdedBelow sheet run (length sheet.tasks)) run r → IsFirstCrowded sheet run r
below_all sheet run None of free = λ n b crowd. free n b (record { task = of n b; crowded = crowd })
below_all sheet run (Some k) of first = (first.0, first.1.crowded, (λ n b crowd. first.2 n b (record { task = of n b; crowded = crowd })))

-- the same first tick in other words
pub same_first_tick : (t u : Task) (xs ys : List ℕ) (r s : Option ℕ) → t ≡ u → xs ≡ ys → r ≡ s →
    IsFirstCrowdedTick t.curve xs r → IsFirstCrowdedTick u.curve ys s
same_first_tick t u xs ys r s a b c first =
    subst (λ (w : Option ℕ). IsFirstCrowdedTick u.curve ys w) c
    (subst (λ (l : List ℕ). IsFirstCrowdedTick u.curve l r) b (subst (λ (w : Task). IsFirstCrowdedTick w.curve xs r) a first))
