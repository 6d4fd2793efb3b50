-- The response times of the jobs, one tick later, and what is seen of a task.
use Rattle.std.proofs.Common.{◌≡◌, ◌≢◌, ℕ, suc, ◌+◌, ◌-◌, ◌<◌, ◌≤◌, ◌&&◌, Bool, true, false, not, cond, max, List, length, get_or, Option, Some, None}
use Rattle.std.proofs.Common.{refl, sym, ◌∙◌, ap, subst, inl, inr, arith, add-one, replicate, leb}
use Rattle.std.proofs.lemmas.Bool.{cases_eq, not_from_true, not_from_false, leb-true, leb-false, le-leb, eq-eqb, ne_eqb}
use Rattle.std.proofs.lemmas.List.{get_or-set_same, get_or-set_other, length-set, length-replicate, get_or-replicate}
use Rattle.std.proofs.Math.ListN.{set}
use Rattle.lists.specs.Firsts.{first_of, must, first_below}
use Rattle.lists.proofs.FirstFacts.{none_from, must_from, must_fails}
use Rattle.run_model.specs.declared.run.Run.{Run}
use Rattle.run_model.specs.declared.run.Tick.TheVariants.{Runs}
use Rattle.run_model.specs.Runs.{job_at, tick_at, service_of, is_done}
use Rattle.run_model.proofs.PendingFacts.{undone}
use Rattle.run_model.proofs.ServiceFacts.{service_none, step_cases, service_le, same_job}
use Rattle.schedule_laws.proofs.TestFacts.{valid_from}
use Rattle.audit.specs.declared.verdict.Seen.{Seen}
use Rattle.audit.specs.Responses.{since, done_before, response_of, is_of, seen_among}
use Rattle.audit.specs.Premises.{ArePositive, AreValid}
use Rattle.audit.specs.NotedResponses.{IsResponse, AreResponses, with_response}

first_some : {F : Type 0} (a : Option F) (x : F) (later : Option F) →
    first_of (first_of a (Some x)) later ≡ first_of a (Some x)
first_some (Some f) x later = refl
first_some None x later = refl

-- what is done at t was done before t + 2
done_stays : (run : Run) (k t : ℕ) → is_done run k t ≡ true →
    done_before run k (suc (suc t)) ≡ done_before run k (suc t)
unfolding done_before
done_stays run k t d =
    let here : must (not (is_done run k t)) t ≡ Some t = must_fails (not (is_done run k t)) t (not_from_true (is_done run k t) d) in
    rw here (first_some (first_below (λ u. must (not (is_done run k u)) u) t) t (must (not (is_done run k (suc t))) (suc t)))

-- what is not done at t was done at no tick before
not_yet : (run : Run) (k t : ℕ) → t ≤ length run.ticks → is_done run k t ≡ false → done_before run k (suc t) ≡ None
unfolding done_before
not_yet run k t b d =
    none_from (λ u. must (not (is_done run k u)) u) (suc t)
    (λ u c. must_from (not (is_done run k u)) u
    (not_from_false (is_done run k u)
    (undone (job_at run k).cost (service_of run k u)
    (omega (arith, leb-false (job_at run k).cost (service_of run k t) d, service_le run k u t (omega arith) b)))))

-- what becomes done at t + 1
done_now : (run : Run) (k t : ℕ) → t ≤ length run.ticks → is_done run k t ≡ false → is_done run k (suc t) ≡ true →
    done_before run k (suc (suc t)) ≡ Some (suc t)
unfolding done_before
done_now run k t b before d =
    let none : first_below (λ u. must (not (is_done run k u)) u) (suc t) ≡ None = not_yet run k t b before in
    rw (none, must_fails (not (is_done run k (suc t))) (suc t) (not_from_true (is_done run k (suc t)) d)) refl

-- a job without service at t
kept : (run : Run) (k t : ℕ) (r : Option ℕ) → service_of run k (suc t) ≡ service_of run k t → IsResponse run t k r →
    IsResponse run (suc t) k r
kept run k t None same h = ap (leb (job_at run k).cost) same ∙ h
kept run k t (Some x) same h = (
  ap (leb (job_at run k).cost) same ∙ h.0,
  rw add-one (ap (since (job_at run k).arrival) (done_stays run k t h.0)) ∙ (rw add-one at h.1),
)

-- a job that is still not done
waits : (run : Run) (k t : ℕ) (r : Option ℕ) → service_of run k t ≤ service_of run k (suc t) →
    service_of run k (suc t) < (job_at run k).cost → IsResponse run t k r → IsResponse run (suc t) k r
waits run k t None le less h = undone (job_at run k).cost (service_of run k (suc t)) less
waits run k t (Some x) le less h = absurd (omega (arith, leb-true (job_at run k).cost (service_of run k t) h.0))

-- a job that becomes done
finishes : (run : Run) (k t : ℕ) → t ≤ length run.ticks → service_of run k t < (job_at run k).cost →
    (job_at run k).cost ≤ service_of run k (suc t) →
    IsResponse run (suc t) k (Some (suc t - (job_at run k).arrival))
finishes run k t b before after =
    let now : is_done run k (suc t) ≡ true = le-leb (job_at run k).cost (service_of run k (suc t)) after in
    (now, rw add-one (ap (since (job_at run k).arrival) (done_now run k t b (undone (job_at run k).cost (service_of run k t) before) now)))

pub responses_same : (run : Run) (t : ℕ) (responses : List (Option ℕ)) → t < length run.ticks →
    ((k : ℕ) → tick_at run t ≢ Runs k) → AreResponses run t responses → AreResponses run (suc t) responses
responses_same run t responses b quiet rs = record {
  count = rs.count;
  each = λ k c. elim (step_cases run k t b) [
    | inl stays ↦ kept run k t (get_or responses k None) stays.same (rs.each k c)
    | inr gains ↦ absurd (quiet k gains.is)
  ];
}

pub responses_wait : (run : Run) (t j : ℕ) (responses : List (Option ℕ)) → t < length run.ticks →
    tick_at run t ≡ Runs j → service_of run j (suc t) < (job_at run j).cost → AreResponses run t responses →
    AreResponses run (suc t) responses
responses_wait run t j responses b is less rs = record {
  count = rs.count;
  each = λ k c. elim (step_cases run k t b) [
    | inl stays ↦ kept run k t (get_or responses k None) stays.same (rs.each k c)
    | inr gains ↦
        let e : j ≡ k = same_job j k (tick_at run t) is gains.is in
        let less_k : service_of run k (suc t) < (job_at run k).cost = subst (λ i. service_of run i (suc t) < (job_at run i).cost) e less in
        waits run k t (get_or responses k None) (omega (arith, gains.more)) less_k (rs.each k c)
  ];
}

pub responses_finish : (run : Run) (t j : ℕ) (responses : List (Option ℕ)) → t < length run.ticks → AreValid run →
    tick_at run t ≡ Runs j → (job_at run j).cost ≤ service_of run j (suc t) → AreResponses run t responses →
    AreResponses run (suc t) (set responses j (Some (suc t - (job_at run j).arrival)))
responses_finish run t j responses b valid is done rs =
    let pending = (valid_from run t j (valid t b) is).pending in
    record {
      count = length-set responses j (Some (suc t - (job_at run j).arrival)) ∙ rs.count;
      each = λ k c. elim (cases_eq k j) [
        | inr ne ↦
            let at : get_or (set responses j (Some (suc t - (job_at run j).arrival))) k None ≡ get_or responses k None =
            get_or-set_other responses j k (Some (suc t - (job_at run j).arrival)) None ne in
            subst (IsResponse run (suc t) k) (sym at)
            (elim (step_cases run k t b) [
              | inl stays ↦ kept run k t (get_or responses k None) stays.same (rs.each k c)
              | inr gains ↦ absurd (ne (same_job k j (tick_at run t) gains.is is))
            ])
        | inl e ↦
            let at : get_or (set responses j (Some (suc t - (job_at run j).arrival))) j None ≡ Some (suc t - (job_at run j).arrival) =
            get_or-set_same responses j (Some (suc t - (job_at run j).arrival)) None (omega (arith, rs.count, pending.listed)) in
            subst (λ i. IsResponse run (suc t) i (get_or (set responses j (Some (suc t - (job_at run j).arrival))) i None)) (sym e)
            (subst (IsResponse run (suc t) j) (sym at) (finishes run j t (omega arith) pending.not_done done))
      ];
    }

-- before the first tick nothing is done
pub responses_none : (run : Run) (responses : List (Option ℕ)) → ArePositive run →
    responses ≡ replicate (length run.jobs) None → AreResponses run 0 responses
responses_none run responses positive is = record {
  count = ap length is ∙ length-replicate (length run.jobs) None;
  each = λ k b.
      let at : get_or responses k None ≡ None = ap (λ (v : List (Option ℕ)). get_or v k None) is ∙ get_or-replicate (length run.jobs) k None None b in
      subst (IsResponse run 0 k) (sym at) (undone (job_at run k).cost (service_of run k 0) (omega (arith, positive k b, service_none run k)));
}

-- seen

abbrev seen_with : ℕ → ℕ → ℕ → Seen
seen_with a b c = record { jobs = a; done = b; worst = c }

same_seen : (a b c d e f : ℕ) → a ≡ d → b ≡ e → c ≡ f → seen_with a b c ≡ seen_with d e f
same_seen a b c d e f p q r = cc

-- a job that is not done has no response time
undone_response : (run : Run) (k : ℕ) → is_done run k (length run.ticks) ≡ false → response_of run k ≡ 0
undone_response run k d = rw add-one (ap (since (job_at run k).arrival) (not_yet run k (length run.ticks) (omega arith) d))

abbrev Counts : Run → ℕ → ℕ → Bool → Bool → ℕ → Type 0
Counts run i k own done worst =
    seen_among run i (suc k) ≡ seen_with ((seen_among run i k).jobs + cond own 1 0)
    ((seen_among run i k).done + cond (own && done) 1 0) (max (seen_among run i k).worst (cond own worst 0))

counted : (run : Run) (i k : ℕ) → Counts run i k (is_of run i k) (is_done run k (length run.ticks)) (response_of run k)
unfolding seen_among
counted run i k = refl

counted_as : (run : Run) (i k : ℕ) (own done : Bool) (worst : ℕ) → is_of run i k ≡ own →
    is_done run k (length run.ticks) ≡ done → response_of run k ≡ worst → Counts run i k own done worst
counted_as run i k own done worst p q r =
    subst (λ w. Counts run i k own done w) r
    (subst (λ w. Counts run i k own w (response_of run k)) q
    (subst (λ w. Counts run i k w (is_done run k (length run.ticks)) (response_of run k)) p (counted run i k)))

max_zero : (n : ℕ) → max n 0 ≡ n
max_zero n = omega arith

more_of : (run : Run) (i k : ℕ) (r : Option ℕ) → (job_at run k).task ≡ i → IsResponse run (length run.ticks) k r →
    with_response (seen_among run i k) r ≡ seen_among run i (suc k)
more_of run i k None own h =
    sym (counted_as run i k true false 0 (eq-eqb (job_at run k).task i own) h (undone_response run k h) ∙
    same_seen _ _ _ _ _ _ refl (omega arith) (max_zero (seen_among run i k).worst))
more_of run i k (Some x) own h = sym (counted_as run i k true true x (eq-eqb (job_at run k).task i own) h.0 h.1)

other_of : (run : Run) (i k : ℕ) → ((job_at run k).task ≢ i) → seen_among run i k ≡ seen_among run i (suc k)
other_of run i k ne =
    sym (counted_as run i k false (is_done run k (length run.ticks)) (response_of run k)
    (ne_eqb (job_at run k).task i ne) refl refl ∙ same_seen _ _ _ _ _ _ (omega arith) (omega arith) (max_zero (seen_among run i k).worst))

-- a job of the task
pub seen_more : (run : Run) (i k : ℕ) (r : Option ℕ) → (job_at run k).task ≡ i →
    IsResponse run (length run.ticks) k r → with_response (seen_among run i k) r ≡ seen_among run i (k + 1)
seen_more run i k r own h = more_of run i k r own h ∙ ap (seen_among run i) (sym (add-one k))

-- a job of another task
pub seen_other : (run : Run) (i k : ℕ) → ((job_at run k).task ≢ i) → seen_among run i k ≡ seen_among run i (k + 1)
seen_other run i k ne = other_of run i k ne ∙ ap (seen_among run i) (sym (add-one k))

pub seen_first : (run : Run) (i : ℕ) → seen_with 0 0 0 ≡ seen_among run i 0
unfolding seen_among
seen_first run i = refl

pub with_response_grows : (seen : Seen) (r : Option ℕ) →
    ((with_response seen r).jobs ≤ seen.jobs + 1) × ((with_response seen r).done ≤ seen.done + 1)
with_response_grows seen None = (omega arith, omega arith)
with_response_grows seen (Some x) = (omega arith, omega arith)
