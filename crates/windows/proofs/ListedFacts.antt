-- The arrivals of each task, one job later.
use Rattle.std.proofs.Common.{◌≡◌, ◌≢◌, ℕ, ◌+◌, ◌==◌, ◌<◌, ◌≤◌, Bool, cond, List, [], ◌∷◌, ◌++◌, length, get_or, take, map, filter}
use Rattle.std.proofs.Common.{refl, sym, ◌∙◌, ap, subst, inl, inr, arith, eq-eqb}
use Rattle.std.specs.Global.{Vec}
use Rattle.std.specs.List.Sorted.{IsPermutation, IsNonDecreasing}
use Rattle.std.proofs.lemmas.Bool.{cases_eq, cases_lt, ne_eqb}
use Rattle.std.proofs.lemmas.List.{take_more, take_all, map_push, append-nil, get_or-set_same, get_or-set_other, length-set}
use Rattle.std.proofs.lemmas.List.{length-append, get_or_append_left, get_or_at}
use Rattle.std.proofs.lemmas.List.Elements.{filter-append}
use Rattle.std.proofs.Math.ListN.{set}
use Rattle.task_sheet.specs.declared.tasks.Job.{Job}
use Rattle.run_model.specs.declared.run.Run.{Run}
use Rattle.run_model.specs.Runs.{job_at, no_job}
use Rattle.windows.specs.Crowds.{task_arrivals, AreArrivals, first_arrivals, AreListed, AreEmpty, AreSortedTo}
use Rattle.windows.proofs.CrowdFacts.{are_arrivals}

module _ (run : Run) (n : ℕ) (b : n < length run.jobs) where
  with_job : (o : ℕ) → first_arrivals run (n + 1) o ≡ map (λ (j : Job). j.arrival)
      (filter (λ (j : Job). j.task == o) (take n run.jobs) ++ cond ((job_at run n).task == o) (job_at run n ∷ []) [])
  with_job o =
      ap (λ (l : List Job). map (λ (j : Job). j.arrival) (filter (λ (j : Job). j.task == o) l)) (take_more run.jobs n no_job b)
      ∙ ap (map (λ (j : Job). j.arrival)) (filter-append (λ (j : Job). j.task == o) (take n run.jobs) (job_at run n ∷ []))

  own_more : (o : ℕ) → (job_at run n).task ≡ o → first_arrivals run (n + 1) o ≡ first_arrivals run n o ++ (job_at run n).arrival ∷ []
  own_more o task =
      with_job o
      ∙ ap (λ (t : Bool). map (λ (j : Job). j.arrival) (filter (λ (j : Job). j.task == o) (take n run.jobs) ++ cond t (job_at run n ∷ []) []))
      (eq-eqb (job_at run n).task o task)
      ∙ map_push (λ (j : Job). j.arrival) (filter (λ (j : Job). j.task == o) (take n run.jobs)) (job_at run n)

  other_same : (o : ℕ) → ((job_at run n).task ≢ o) → first_arrivals run (n + 1) o ≡ first_arrivals run n o
  other_same o ne =
      with_job o
      ∙ ap (λ (t : Bool). map (λ (j : Job). j.arrival) (filter (λ (j : Job). j.task == o) (take n run.jobs) ++ cond t (job_at run n ∷ []) []))
      (ne_eqb (job_at run n).task o ne)
      ∙ ap (map (λ (j : Job). j.arrival)) (append-nil (filter (λ (j : Job). j.task == o) (take n run.jobs)))

  -- one job more
  pub listed_more : (lists : List (Vec ℕ)) (o : ℕ) (old new d : Vec ℕ) → (job_at run n).task ≡ o → o < length lists → get_or lists o d ≡ old →
      new.items ≡ old.items ++ (job_at run n).arrival ∷ [] → AreListed run n lists → AreListed run (n + 1) (set lists o new)
  listed_more lists o old new d task c at is listed i e h = elim (cases_eq i o) [
    | inl same ↦
        let own : get_or (set lists o new) o e ≡ new = get_or-set_same lists o new e c in
        subst (λ w. (get_or (set lists o new) w e).items ≡ first_arrivals run (n + 1) w) (sym same)
        (ap (λ (v : Vec ℕ). v.items) own ∙ is ∙ ap (λ (v : Vec ℕ). v.items ++ (job_at run n).arrival ∷ []) (sym at)
        ∙ ap (λ (l : List ℕ). l ++ (job_at run n).arrival ∷ []) (listed o d c) ∙ sym (own_more o task))
    | inr ne ↦
        let old_one : get_or (set lists o new) i e ≡ get_or lists i e = get_or-set_other lists o i new e ne in
        ap (λ (v : Vec ℕ). v.items) old_one ∙ listed i e (omega (arith, length-set lists o new)) ∙ sym (other_same i (λ q. ne (sym q ∙ task)))
  ]

-- before the first job
pub listed_none : (run : Run) (lists : List (Vec ℕ)) → AreEmpty lists → AreListed run 0 lists
listed_none run lists empty o d h = empty o d h

-- one list more that is empty
pub empty_more : (lists : List (Vec ℕ)) (x : Vec ℕ) → x.items ≡ [] → AreEmpty lists → AreEmpty (lists ++ x ∷ [])
empty_more lists x none empty o d h = elim (cases_lt o (length lists)) [
  | inl l ↦ ap (λ (v : Vec ℕ). v.items) (get_or_append_left lists (x ∷ []) d o l) ∙ empty o d l
  | inr l ↦
      let e : length lists ≡ o = omega (arith, length-append lists (x ∷ [])) in
      subst (λ w. (get_or (lists ++ x ∷ []) w d).items ≡ []) e (ap (λ (v : Vec ℕ). v.items) (get_or_at lists x [] d (length lists) refl) ∙ none)
]

-- all jobs are among the first ones
all_listed : (run : Run) (o : ℕ) → first_arrivals run (length run.jobs) o ≡ task_arrivals run o
all_listed run o = ap (λ (l : List Job). map (λ (j : Job). j.arrival) (filter (λ (j : Job). j.task == o) l)) (take_all (length run.jobs) run.jobs (omega arith))

-- the first lists are sorted, and those behind them as listed
pub record AreHalfSorted (run : Run) (n : ℕ) (lists : List (Vec ℕ)) : Type 0 where
  pub sorted : AreSortedTo run n lists
  pub rest : (o : ℕ) (d : Vec ℕ) → n ≤ o → o < length lists → (get_or lists o d).items ≡ task_arrivals run o

pub half_none : (run : Run) (lists : List (Vec ℕ)) → AreListed run (length run.jobs) lists → AreHalfSorted run 0 lists
half_none run lists listed = record {
  sorted = λ o d l h. absurd (omega arith);
  rest = λ o d l h. listed o d h ∙ all_listed run o;
}

pub half_more : (run : Run) (n : ℕ) (lists : List (Vec ℕ)) (x d : Vec ℕ) → n < length lists → AreHalfSorted run n lists →
    IsPermutation (get_or lists n d).items x.items → IsNonDecreasing x.items → AreHalfSorted run (n + 1) (set lists n x)
half_more run n lists x d b half same up = record {
  sorted = λ o e l h. elim (cases_eq o n) [
    | inl is ↦ subst (λ w. AreArrivals run w (get_or (set lists n x) w e).items) (sym is)
        (subst (λ (v : Vec ℕ). AreArrivals run n v.items) (sym (get_or-set_same lists n x e b))
        (are_arrivals run n (get_or lists n d).items x.items (half.rest n d (omega arith) b) same up))
    | inr ne ↦ subst (λ (v : Vec ℕ). AreArrivals run o v.items) (sym (get_or-set_other lists n o x e ne))
        (half.sorted o e (omega (arith, ne)) (omega (arith, length-set lists n x)))
  ];
  rest = λ o e l h. ap (λ (v : Vec ℕ). v.items) (get_or-set_other lists n o x e (λ is. absurd (omega (arith, is))))
      ∙ half.rest o e (omega arith) (omega (arith, length-set lists n x));
}
