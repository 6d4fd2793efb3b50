use Rattle.std.proofs.Common.{◌≡◌, ℕ, zero, suc, ◌+◌, ◌<◌, ◌≤◌, ◌&&◌, Bool, true, cond, leb, ltb, List, [], ◌∷◌, length, get_or, count_by, refl, ap}
use Rattle.std.proofs.Common.{arith, inl, inr}
use Rattle.std.proofs.lemmas.Bool.{cases_lt, and_parts, leb-true}
use Rattle.std.proofs.lemmas.Bool.Decides.{nat_tests}
use Rattle.std.proofs.lemmas.List.Sums.{sum_by-cons, count_by-le-length}
use Rattle.task_sheet.specs.declared.tasks.Job.{Job}
use Rattle.run_model.specs.declared.run.Run.{Run}
use Rattle.schedule_laws.specs.Compliance.{arrives_in, arrivals_of}
use Rattle.curve_infer.specs.Traces.{are_times}
use Rattle.curve_infer.specs.Curves.{times_in, last_of, ArriveAs}

-- what passes one test passes just one of two others
count_add : {X : Type 0} (p q r : X → Bool) (xs : List X) → ((x : X) → cond {A = ℕ} (p x) 1 0 ≡ cond (q x) 1 0 + cond (r x) 1 0) →
    count_by p xs ≡ count_by q xs + count_by r xs
count_add p q r [] h = refl
count_add p q r (x ∷ xs) h = omega (
  arith,
  sum_by-cons (λ y. cond (p y) 1 0) x xs,
  sum_by-cons (λ y. cond (q y) 1 0) x xs,
  sum_by-cons (λ y. cond (r y) 1 0) x xs,
  count_add p q r xs h,
  h x,
)

count_zero : {X : Type 0} (p : X → Bool) (xs : List X) → ((x : X) → cond {A = ℕ} (p x) 1 0 ≡ 0) → count_by p xs ≡ 0
count_zero p [] h = refl
count_zero p (x ∷ xs) h = omega (arith, sum_by-cons (λ y. cond (p y) 1 0) x xs, count_zero p xs h, h x)

in_parts : (t u v a : ℕ) → t ≤ u → u ≤ v → cond {A = ℕ} (leb t a && ltb a v) 1 0 ≡ cond (leb t a && ltb a u) 1 0 + cond (leb u a && ltb a v) 1 0
in_parts t u v a h k = grind (arith, nat_tests)

in_nothing : (t a : ℕ) → cond {A = ℕ} (leb t a && ltb a t) 1 0 ≡ 0
in_nothing t a = grind (arith, nat_tests)

-- a window is its front and its rest
pub times_split : (times : List ℕ) (t u v : ℕ) → t ≤ u → u ≤ v → times_in times t v ≡ times_in times t u + times_in times u v
unfolding times_in
times_split times t u v h k = count_add (λ a. leb t a && ltb a v) (λ a. leb t a && ltb a u) (λ a. leb u a && ltb a v) times (λ a. in_parts t u v a h k)

pub times_none : (times : List ℕ) (t : ℕ) → times_in times t t ≡ 0
unfolding times_in
times_none times t = count_zero (λ a. leb t a && ltb a t) times (in_nothing t)

pub times_few : (times : List ℕ) (t u : ℕ) → times_in times t u ≤ length times
unfolding times_in
times_few times t u = count_by-le-length (λ a. leb t a && ltb a u) times

job_parts : (o t u v : ℕ) (j : Job) → t ≤ u → u ≤ v → cond {A = ℕ} (arrives_in o t v j) 1 0 ≡ cond (arrives_in o t u j) 1 0 + cond (arrives_in o u v j) 1 0
job_parts o t u v j h k = grind (arith, nat_tests)

job_nothing : (o t : ℕ) (j : Job) → cond {A = ℕ} (arrives_in o t t j) 1 0 ≡ 0
job_nothing o t j = grind (arith, nat_tests)

jobs_split : (run : Run) (o t u v : ℕ) → t ≤ u → u ≤ v → arrivals_of run o t v ≡ arrivals_of run o t u + arrivals_of run o u v
unfolding arrivals_of
jobs_split run o t u v h k = count_add (arrives_in o t v) (arrives_in o t u) (arrives_in o u v) run.jobs (λ j. job_parts o t u v j h k)

jobs_none : (run : Run) (o t : ℕ) → arrivals_of run o t t ≡ 0
unfolding arrivals_of
jobs_none run o t = count_zero (arrives_in o t t) run.jobs (job_nothing o t)

-- jobs that arrive as the times do so in every window
pub arrive_alike : (run : Run) (o : ℕ) (times : List ℕ) → ArriveAs run o times → (t d : ℕ) → arrivals_of run o t (t + d) ≡ times_in times t (t + d)
arrive_alike run o times same t zero =
    let e : t + 0 ≡ t = omega arith in
    omega (arith, ap (arrivals_of run o t) e, ap (times_in times t) e, jobs_none run o t, times_none times t)
arrive_alike run o times same t (suc d) =
    let e : t + suc d ≡ t + d + 1 = omega arith in
    omega (
      arith,
      ap (arrivals_of run o t) e,
      ap (times_in times t) e,
      jobs_split run o t (t + d) (t + d + 1) (omega arith) (omega arith),
      times_split times t (t + d) (t + d + 1) (omega arith) (omega arith),
      same (t + d),
      arrive_alike run o times same t d,
    )

from_zero : (t x : ℕ) → cond {A = ℕ} (leb 0 t && ltb t x) 1 0 ≡ cond (ltb t x) 1 0
from_zero t x = grind (arith, nat_tests)

-- one time more at the front
below_first : (t : ℕ) (times : List ℕ) (x : ℕ) → times_in (t ∷ times) 0 x ≡ cond (ltb t x) 1 0 + times_in times 0 x
unfolding times_in
below_first t times x = omega (arith, sum_by-cons (λ a. cond (leb 0 a && ltb a x) 1 0) t times, from_zero t x)

ltb_holds : (t x : ℕ) → t < x → cond {A = ℕ} (ltb t x) 1 0 ≡ 1
ltb_holds t x h = grind (arith, nat_tests)

ltb_fails : (t x : ℕ) → x ≤ t → cond {A = ℕ} (ltb t x) 1 0 ≡ 0
ltb_fails t x h = grind (arith, nat_tests)

ltb_high : (t x : ℕ) → cond {A = ℕ} (ltb t x) 1 0 ≤ 1
ltb_high t x = grind (arith, nat_tests)

-- what the test of times says of the first
pub record IsNext (before t : ℕ) (times : List ℕ) : Type 0 where
  pub low : before ≤ t
  pub high : t ≤ 1000000000
  pub rest : are_times t times ≡ true

pub next_of : (before t : ℕ) (times : List ℕ) → are_times before (t ∷ times) ≡ true → IsNext before t times
next_of before t times h =
    let parts = and_parts _ (are_times t times) h in
    let ranges = and_parts (leb before t) (leb t 1000000000) parts.0 in
    record { low = leb-true before t ranges.0; high = leb-true t 1000000000 ranges.1; rest = parts.1 }

none_early : (times : List ℕ) (before x : ℕ) → are_times before times ≡ true → x ≤ before → times_in times 0 x ≡ 0
unfolding times_in
none_early [] before x h l = refl
none_early (t ∷ times) before x h l =
    let is = next_of before t times h in
    omega (arith, below_first t times x, ltb_fails t x (omega (arith, is.low)), none_early times t x is.rest (omega (arith, is.low)))

later_times : (times : List ℕ) (before j : ℕ) → are_times before times ≡ true → j < length times → before ≤ get_or times j 0
later_times [] before j h l = absurd (omega arith)
later_times (t ∷ times) before zero h l = (next_of before t times h).low
later_times (t ∷ times) before (suc j) h l =
    let is = next_of before t times h in
    omega (arith, is.low, later_times times t j is.rest (omega arith))

last_high : (times : List ℕ) (before : ℕ) → are_times before times ≡ true → before ≤ last_of before times
last_high [] before h = omega arith
last_high (t ∷ times) before h =
    let is = next_of before t times h in
    omega (arith, is.low, last_high times t is.rest)

pub times_last : (times : List ℕ) (before j : ℕ) → are_times before times ≡ true → j < length times → get_or times j 0 ≤ last_of before times
times_last [] before j h l = absurd (omega arith)
times_last (t ∷ times) before zero h l = last_high times t (next_of before t times h).rest
times_last (t ∷ times) before (suc j) h l = times_last times t j (next_of before t times h).rest (omega arith)

pub times_latest : (times : List ℕ) (before j : ℕ) → are_times before times ≡ true → j < length times → get_or times j 0 ≤ 1000000000
times_latest [] before j h l = absurd (omega arith)
times_latest (t ∷ times) before zero h l = (next_of before t times h).high
times_latest (t ∷ times) before (suc j) h l = times_latest times t j (next_of before t times h).rest (omega arith)

pub times_order : (times : List ℕ) (before i j : ℕ) → are_times before times ≡ true → i ≤ j → j < length times → get_or times i 0 ≤ get_or times j 0
times_order [] before i j h o l = absurd (omega arith)
times_order (t ∷ times) before zero zero h o l = omega arith
times_order (t ∷ times) before (suc i) zero h o l = absurd (omega arith)
times_order (t ∷ times) before zero (suc j) h o l = later_times times t j (next_of before t times h).rest (omega arith)
times_order (t ∷ times) before (suc i) (suc j) h o l = times_order times t i j (next_of before t times h).rest (omega arith) (omega arith)

-- the time with number j comes before x exactly where more than j times do
pub early_counts : (times : List ℕ) (before j x : ℕ) → are_times before times ≡ true → j < length times → get_or times j 0 < x → j < times_in times 0 x
early_counts [] before j x h l e = absurd (omega arith)
early_counts (t ∷ times) before zero x h l e = omega (arith, below_first t times x, ltb_holds t x e)
early_counts (t ∷ times) before (suc j) x h l e =
    let is = next_of before t times h in
    let low = later_times times t j is.rest (omega arith) in
    omega (arith, below_first t times x, ltb_holds t x (omega (arith, low, e)), early_counts times t j x is.rest (omega arith) e)

pub counts_early : (times : List ℕ) (before j x : ℕ) → are_times before times ≡ true → j < length times → j < times_in times 0 x → get_or times j 0 < x
counts_early [] before j x h l e = absurd (omega arith)
counts_early (t ∷ times) before zero x h l e = elim (cases_lt t x) [
  | inl c ↦ c
  | inr c ↦ absurd (omega (arith, e, below_first t times x, ltb_fails t x c, none_early times t x (next_of before t times h).rest c))
]
counts_early (t ∷ times) before (suc j) x h l e = counts_early times t j x (next_of before t times h).rest (omega arith)
    (omega (arith, e, below_first t times x, ltb_high t x))
