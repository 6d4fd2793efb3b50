-- What is seen of each task, one job later.
use Rattle.std.proofs.Common.{◌≡◌, ℕ, zero, suc, ◌+◌, ◌<◌, ◌≤◌, List, [], ◌∷◌, ◌++◌, length, get_or, replicate, Option, refl, sym, ◌∙◌, ap}
use Rattle.std.proofs.Common.{subst, inl, inr, arith}
use Rattle.std.proofs.lemmas.Bool.{cases_eq, cases_lt}
use Rattle.std.proofs.lemmas.List.{get_or-set_same, get_or-set_other, length-set, length-replicate, get_or-replicate, length-append}
use Rattle.std.proofs.lemmas.List.{get_or_append_left, get_or_at, get_or_default, same_lists}
use Rattle.std.proofs.Math.ListN.{set}
use Rattle.run_model.specs.declared.run.Run.{Run}
use Rattle.run_model.specs.Runs.{job_at}
use Rattle.audit.specs.declared.verdict.Seen.{Seen}
use Rattle.audit.specs.Responses.{seen_among, seen_of, seen_below}
use Rattle.audit.specs.NotedResponses.{IsResponse, with_response, nothing, seen_at, AreSeen}
use Rattle.audit.proofs.ResponseFacts.{seen_more, seen_other, seen_first, with_response_grows}

pub none_seen : (run : Run) (n : ℕ) (seen : List Seen) → seen ≡ replicate n nothing → AreSeen run 0 seen
none_seen run n seen is =
    let all : length seen ≡ n = ap length is ∙ length-replicate n nothing in
    let at : (i : ℕ) → i < length seen → seen_at seen i ≡ nothing = λ i b. ap (λ (v : List Seen). get_or v i nothing) is ∙
    get_or-replicate n i nothing nothing (omega arith) in
    record {
      each = λ i b. at i b ∙ seen_first run i;
      jobs = λ i b. omega (arith, ap (λ (v : Seen). v.jobs) (at i b));
      done = λ i b. omega (arith, ap (λ (v : Seen). v.done) (at i b));
    }

module _ (run : Run) (k o : ℕ) (seen : List Seen) (r : Option ℕ) (task : (job_at run k).task ≡ o) (b : o < length seen)
    (response : IsResponse run (length run.ticks) k r) (are : AreSeen run k seen) where
  abbrev after : List Seen
  after = set seen o (with_response (seen_at seen o) r)

  own : seen_at after o ≡ with_response (seen_at seen o) r
  own = get_or-set_same seen o (with_response (seen_at seen o) r) nothing b

  pub one_more : AreSeen run (k + 1) (set seen o (with_response (seen_at seen o) r))
  one_more =
      let same = length-set seen o (with_response (seen_at seen o) r) in
      record {
        each = λ i c. elim (cases_eq i o) [
          | inl e ↦ subst (λ w. seen_at after w ≡ seen_among run w (k + 1)) (sym e)
              (own ∙ ap (λ (v : Seen). with_response v r) (are.each o b) ∙ seen_more run o k r task response)
          | inr ne ↦
              get_or-set_other seen o i (with_response (seen_at seen o) r) nothing ne
              ∙ are.each i (omega (arith, same))
              ∙ seen_other run i k (λ q. ne (sym q ∙ task))
        ];
        jobs = λ i c. elim (cases_eq i o) [
          | inl e ↦ subst (λ w. (seen_at after w).jobs ≤ k + 1) (sym e)
              (omega (arith, ap (λ (v : Seen). v.jobs) own, (with_response_grows (seen_at seen o) r).0, are.jobs o b))
          | inr ne ↦ omega (
            arith,
            ap (λ (v : Seen). v.jobs)
                (get_or-set_other seen o i (with_response (seen_at seen o) r) nothing ne),
            are.jobs i (omega (arith, same)),
          )
        ];
        done = λ i c. elim (cases_eq i o) [
          | inl e ↦ subst (λ w. (seen_at after w).done ≤ k + 1) (sym e)
              (omega (arith, ap (λ (v : Seen). v.done) own, (with_response_grows (seen_at seen o) r).1, are.done o b))
          | inr ne ↦ omega (
            arith,
            ap (λ (v : Seen). v.done)
                (get_or-set_other seen o i (with_response (seen_at seen o) r) nothing ne),
            are.done i (omega (arith, same)),
          )
        ];
      }

below_length : (run : Run) (n : ℕ) → length (seen_below run n) ≡ n
below_length run zero = refl
below_length run (suc n) = omega (arith, length-append (seen_below run n) (seen_of run n ∷ []), below_length run n)

below_at : (run : Run) (n i : ℕ) → i < n → seen_at (seen_below run n) i ≡ seen_of run i
below_at run zero i b = absurd (omega arith)
below_at run (suc n) i b = elim (cases_lt i n) [
  | inl c ↦ get_or_append_left (seen_below run n) (seen_of run n ∷ []) nothing i (omega (arith, below_length run n)) ∙ below_at run n i c
  | inr c ↦
      let e : n ≡ i = omega arith in
      subst (λ w. seen_at (seen_below run n ++ seen_of run n ∷ []) w ≡ seen_of run w) e
      (get_or_at (seen_below run n) (seen_of run n) [] nothing n (below_length run n))
]

pub all_seen : (run : Run) (n : ℕ) (seen : List Seen) → length seen ≡ n → AreSeen run (length run.jobs) seen →
    seen ≡ seen_below run n
all_seen run n seen count are =
    same_lists seen (seen_below run n) (omega (arith, count, below_length run n))
    (λ k d h. get_or_default seen k d nothing h ∙ are.each k h ∙ sym (below_at run n k (omega (arith, count))) ∙
    sym (get_or_default (seen_below run n) k d nothing (omega (arith, count, below_length run n))))
