-- What an exercise counts is small.
use Rattle.std.proofs.Common.{◌≡◌, ℕ, zero, suc, ◌*◌, ◌≤◌, Bool, cond, List, [], ◌∷◌, ◌++◌, length, take, refl, ◌∙◌, ap, inl, inr, arith}
use Rattle.std.specs.List.{sum_by}
use Rattle.std.proofs.lemmas.Bool.{cases_Bool}
use Rattle.std.proofs.lemmas.List.{take_all}
use Rattle.std.proofs.lemmas.List.Sums.{sum_by_push}
use Rattle.std.proofs.Math.Seq.{take-suc}
use Rattle.run_model.specs.declared.run.Run.{Run}
use Rattle.certificate.specs.declared.cert.Entry.{Entry}
use Rattle.conditions.specs.Conditions.{no_entry}
use Rattle.solver.specs.Best.{nth_entry, points_to}
use Rattle.audit.specs.declared.verdict.Seen.{Seen}
use Rattle.audit.specs.Responses.{count_below, seen_among, seen_of, seen_below}

points_front : (entries : List Entry) (n : ℕ) → n ≤ length entries → points_to entries n ≡ sum_by (λ e. length e.points) (take n entries)
points_front entries zero l = refl
points_front entries (suc n) l =
    let more : take (suc n) entries ≡ take n entries ++ nth_entry entries n ∷ [] = take-suc entries n no_entry (omega arith) in
    omega (
      arith,
      points_front entries n (omega arith),
      ap (λ (xs : List Entry). sum_by (λ e. length e.points) xs) more,
      sum_by_push (λ (e : Entry). length e.points) (take n entries) (nth_entry entries n),
    )

-- the points of all entries, added up
pub points_all : (entries : List Entry) → points_to entries (length entries) ≡ sum_by (λ e. length e.points) entries
points_all entries =
    points_front entries (length entries) (omega arith) ∙ ap (λ (xs : List Entry). sum_by (λ e. length e.points) xs)
    (take_all (length entries) entries (omega arith))

counted_most : (test : ℕ → Bool) (n : ℕ) → count_below test n ≤ n
counted_most test zero = omega arith
counted_most test (suc n) = elim (cases_Bool (test n)) [
  | inl t ↦ omega (arith, counted_most test n, ap (λ (b : Bool). cond {A = ℕ} b 1 0) t)
  | inr f ↦ omega (arith, counted_most test n, ap (λ (b : Bool). cond {A = ℕ} b 1 0) f)
]

done_most : (run : Run) (o n : ℕ) → (seen_among run o n).done ≤ n
unfolding seen_among
done_most run o n = counted_most _ n

-- no task has more jobs that are done than there are jobs
pub done_all : (run : Run) (n : ℕ) → sum_by (λ s. s.done) (seen_below run n) ≤ n * length run.jobs
done_all run zero = omega arith
done_all run (suc n) = omega (arith, sum_by_push (λ (s : Seen). s.done) (seen_below run n) (seen_of run n), done_all run n, done_most run n (length run.jobs))
