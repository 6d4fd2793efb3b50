-- Each place of a job knows the next one of the same task.
use Rattle.std.proofs.Common.{◌≡◌, ◌≢◌, ℕ, ◌+◌, ◌<◌, List, length, get_or, replicate, sym, ◌∙◌, ap, subst, inl, inr, arith}
use Rattle.std.proofs.lemmas.Bool.{cases_lt, cases_eq}
use Rattle.std.proofs.lemmas.List.{get_or-set_same, get_or-set_other, length-set, length-replicate, get_or-replicate}
use Rattle.std.proofs.Math.ListN.{set}
use Rattle.run_model.specs.declared.run.Run.{Run}
use Rattle.run_model.specs.Runs.{job_at}
use Rattle.audit.specs.declared.arrivals.Arrival.{Arrival}
use Rattle.audit.specs.ArrivalOrder.{arrival_at}
use Rattle.audit.specs.UndoneJobs.{AreBelow, IsNextPlace, AreNextPlaces, IsFirstPlaceOf, AreLinked}

-- behind the last place
pub linked_none : (run : Run) (order : List Arrival) (tasks : ℕ) (firsts nexts : List ℕ) → AreBelow run tasks →
    firsts ≡ replicate tasks (length order) → nexts ≡ replicate (length order) (length order) → AreLinked run order (length order) firsts nexts
linked_none run order tasks firsts nexts below is are =
    let all : length firsts ≡ tasks = ap length is ∙ length-replicate {A = ℕ} tasks (length order) in
    record {
      count = ap length are ∙ length-replicate {A = ℕ} (length order) (length order);
      tasks = subst (AreBelow run) (sym all) below;
      heads = λ o b.
          let at : get_or firsts o 0 ≡ length order =
          ap (λ (v : List ℕ). get_or v o 0) is ∙ get_or-replicate {A = ℕ} tasks o (length order) 0 (omega arith) in
          record { from = omega arith; within = omega arith; between = λ j c d. absurd (omega arith) };
      links = λ p b c. absurd (omega arith);
    }

module _ (run : Run) (order : List Arrival) (n i o : ℕ) (firsts nexts : List ℕ) (one : n ≡ i + 1) (b : i < length order) (c : o < length firsts)
    (task : (job_at run (arrival_at order i).job).task ≡ o) (linked : AreLinked run order n firsts nexts) where
  abbrev old : IsFirstPlaceOf run order n o (get_or firsts o 0)
  old = linked.heads o c

  own_first : IsFirstPlaceOf run order i o i
  own_first = record { from = omega arith; within = omega arith; between = λ j h l. absurd (omega arith) }

  other_first : (q : ℕ) → q < length firsts → q ≢ o → IsFirstPlaceOf run order i q (get_or firsts q 0)
  other_first q h ne =
      let first = linked.heads q h in
      record {
        from = omega (arith, first.from);
        within = first.within;
        between = λ j from l. elim (cases_lt i j) [
          | inl later ↦ first.between j (omega arith) l
          | inr same ↦
              let e : i ≡ j = omega arith in
              subst (λ w. (job_at run (arrival_at order w).job).task ≢ q) e (λ is. ne (sym is ∙ task))
        ];
      }

  own_next : IsNextPlace run order i (get_or firsts o 0)
  own_next = record {
    later = omega (arith, old.from);
    within = old.within;
    between = λ j h l. subst (λ w. (job_at run (arrival_at order j).job).task ≢ w) (sym task) (old.between j (omega arith) l);
  }

  -- one place more
  pub linked_more : AreLinked run order i (set firsts o i) (set nexts i (get_or firsts o 0))
  linked_more = record {
    count = omega (arith, length-set nexts i (get_or firsts o 0), linked.count);
    tasks = subst (AreBelow run) (sym (length-set firsts o i)) linked.tasks;
    heads = λ q h. elim (cases_eq q o) [
      | inl e ↦ subst (λ w. IsFirstPlaceOf run order i w (get_or (set firsts o i) w 0)) (sym e)
          (subst (IsFirstPlaceOf run order i o) (sym (get_or-set_same firsts o i 0 c)) own_first)
      | inr ne ↦ subst (IsFirstPlaceOf run order i q) (sym (get_or-set_other firsts o q i 0 ne))
          (other_first q (omega (arith, length-set firsts o i)) ne)
    ];
    links = λ p h l. elim (cases_eq p i) [
      | inl e ↦ subst (λ w. IsNextPlace run order w (get_or (set nexts i (get_or firsts o 0)) w 0)) (sym e)
          (subst (IsNextPlace run order i) (sym (get_or-set_same nexts i (get_or firsts o 0) 0 (omega (arith, linked.count)))) own_next)
      | inr ne ↦ subst (IsNextPlace run order p) (sym (get_or-set_other nexts i p (get_or firsts o 0) 0 ne))
          (linked.links p (elim (cases_lt i p) [ inl later ↦ omega arith | inr same ↦ absurd (ne (omega arith)) ]) l)
    ];
  }

-- all places
pub linked_all : (run : Run) (order : List Arrival) (firsts nexts : List ℕ) (n : ℕ) → n ≡ 0 → AreLinked run order n firsts nexts →
    AreNextPlaces run order nexts
linked_all run order firsts nexts n none linked = record { count = linked.count; each = λ i b. linked.links i (omega arith) b }
