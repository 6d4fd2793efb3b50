-- A tick at which no job of a task may arrive stays one, whatever arrives.
use Rattle.std.proofs.Common.{◌≡◌, ℕ, zero, suc, ◌+◌, ◌-◌, ◌*◌, ◌/◌, ◌<◌, ◌≤◌, List, [], ◌∷◌, ◌++◌, length, get_or, min, replicate, refl}
use Rattle.std.proofs.Common.{sym, ◌∙◌, ap, subst, inl, inr, arith}
use Rattle.std.proofs.Math.ListN.{set}
use Rattle.std.proofs.lemmas.Bool.{cases_eq, cases_lt}
use Rattle.std.proofs.lemmas.List.{get_or-set_same, get_or-set_other, get_or_append_left, get_or_at, length-set, length-replicate, get_or-replicate}
use Rattle.lists.proofs.SearchFacts.{greatest_is}
use Rattle.curve.specs.CurveValue.{Curve}
use Rattle.curve.specs.Curves.{alpha_of}
use Rattle.curve.specs.Validity.{IsCurve}
use Rattle.task_sheet.specs.SheetParts.{SheetParts}
use Rattle.task_sheet.specs.Sheets.{task_at}
use Rattle.task_sheet.specs.declared.tasks.Task.{Task}
use Rattle.run_model.specs.declared.run.Run.{Run}
use Rattle.run_model.specs.Runs.{job_at}
use Rattle.schedule_laws.specs.Compliance.{arrivals_of}
use Rattle.simulated_run.specs.declared.mode.Mode.{Mode}
use Rattle.simulated_run.specs.declared.mode.Mode.TheVariants.{Dense, Seed}
use Rattle.simulated_run.specs.SimulatedRun.{World, Moment, admits, allowance_of, arriving, after_arriving, room, arrive_of, arrive_below}
use Rattle.simulated_run.proofs.AllowanceFacts.{IsTight, tight_refused, allowance_tight}
use Rattle.simulated_run.proofs.GrowthFacts.{BeginsWith}
use Rattle.simulated_run.proofs.RunFacts.{arrivals_front}
use Rattle.windows.specs.Arrivals.{allowance_in}
use Rattle.windows.specs.Crowds.{AreArrivals}
use Rattle.windows.proofs.CrowdFacts.{arrival_job}
use Rattle.simulator.specs.declared.openings.Openings.{Openings}
use Rattle.simulator.specs.declared.gaps.Gaps.{Gaps}
use Rattle.simulator.specs.Openings.{IsShutFor, IsShut}
use Rattle.simulator.specs.Gaps.{IsGaps}
use Rattle.simulator.specs.AllOpenings.{HasGaps, IsInBlock, AreOpenings, AreArriving}
use Rattle.simulator.proofs.SameAnswers.{allowance_same}
use Rattle.simulator.proofs.ArrivalFacts.{arrived_by}

arrivals_grow : (run later : Run) (o s u : ℕ) → BeginsWith later.jobs run.jobs → arrivals_of run o s u ≤ arrivals_of later o s u
unfolding arrivals_of
arrivals_grow run later o s u b = arrivals_front run later.jobs o s u b

tight_on : (c : Curve) (o t n : ℕ) (run later : Run) → BeginsWith later.jobs run.jobs → IsTight c o t n run → IsTight c o t n later
tight_on c o t n run later b tight =
    record { start = tight.start; within = tight.within; many = omega (arith, tight.many, arrivals_grow run later o tight.start t b) }

none_allowed : (c : Curve) (o t : ℕ) (run : Run) → IsTight c o t 0 run → allowance_of c o run t ≡ 0
unfolding allowance_of
none_allowed c o t run tight = greatest_is (admits c o run t) 0 (alpha_of c 1) (omega arith) (inl refl) (λ k a h. tight_refused c o t run 0 k tight a)

pub shut_on : (sheet : SheetParts) (o : ℕ) (run later : Run) (t u : ℕ) → BeginsWith later.jobs run.jobs → IsShut sheet o run t u → IsShut sheet o later t u
shut_on sheet o run later t u b shut = λ v h l. (
    let c : Curve = (task_at sheet o).curve in
    none_allowed c o v later (tight_on c o v 0 run later b (subst (λ (n : ℕ). IsTight c o v n run) (shut v h l) (allowance_tight c o v run)))
    )

-- from the arrivals of the task
pub shut_is : (sheet : SheetParts) (o : ℕ) (run : Run) (list : List ℕ) (task : Task) (t u : ℕ) → task ≡ task_at sheet o → AreArrivals run o list →
    IsShutFor task.curve list t u → IsShut sheet o run t u
shut_is sheet o run list task t u is are shut = λ v h l. (
    sym (allowance_same (task_at sheet o).curve o run list v (λ s b. are.same s v)) ∙ (sym (ap (λ (k : Task). allowance_in k.curve list v) is) ∙ shut v h l)
    )

pub list_come : (o t : ℕ) (run : Run) (list : List ℕ) → AreArrivals run o list → ((k : ℕ) → k < length run.jobs → (job_at run k).arrival ≤ t) →
    (i : ℕ) → i < length list → get_or list i 0 ≤ t
list_come o t run list are early i b = let k = arrival_job run o list are i b in omega (arith, early k.0 k.1, k.2.arrival)

-- where none may arrive, nothing changes

no_arrival : (mode : Mode) (state : ℕ) → arriving mode 0 state ≡ 0
no_arrival Dense state = refl
no_arrival (Seed seed) state = refl

no_word : (mode : Mode) (state : ℕ) → after_arriving mode 0 state ≡ state
no_word Dense state = refl
no_word (Seed seed) state = refl

pub nothing_arrives : (w : World) (o t : ℕ) (m : Moment) → room w o t m ≡ 0 → arrive_of w o t m ≡ m
nothing_arrives w o t m none = sym (arrived_by w o t m 0 0 m.state (sym none) (sym (no_arrival w.mode m.state)) (sym (no_word w.mode m.state)))

none_arrive : (w : World) (t n : ℕ) (m : Moment) → ((o : ℕ) → o < n → room w o t m ≡ 0) → arrive_below w t n m ≡ m
none_arrive w t zero m none = refl
none_arrive w t (suc o) m none = ap (arrive_of w o t) (none_arrive w t o m (λ k b. none k (omega arith))) ∙ nothing_arrives w o t m (none o (omega arith))

-- all tasks

pub openings_on : (sheet : SheetParts) (run later : Run) (t : ℕ) (openings : Openings) → BeginsWith later.jobs run.jobs →
    AreOpenings sheet run t openings → AreOpenings sheet later t openings
openings_on sheet run later t openings b are = record {
  shut = record { tasks = are.shut.tasks; each = λ o h. shut_on sheet o run later t (get_or openings.ticks.items o 0) b (are.shut.each o h) };
  gaps = are.gaps;
  blocks = are.blocks;
  first = are.first;
}

pub openings_later : (sheet : SheetParts) (run : Run) (t : ℕ) (openings : Openings) → AreOpenings sheet run t openings →
    AreOpenings sheet run (suc t) openings
openings_later sheet run t openings are = record {
  shut = record { tasks = are.shut.tasks; each = λ o h v a b. are.shut.each o h v (omega arith) b };
  gaps = are.gaps;
  blocks = are.blocks;
  first = are.first;
}

pub openings_start : (sheet : SheetParts) (run : Run) (t n : ℕ) (openings : Openings) → n ≡ length sheet.tasks → openings.ticks.items ≡ replicate n 0 →
    openings.firsts.items ≡ replicate (n / 16 + 1) 0 → openings.first ≡ 0 → HasGaps sheet openings.gaps.items → AreOpenings sheet run t openings
openings_start sheet run t n openings len ticks firsts first gaps =
    let zero_at : (o : ℕ) → o < length sheet.tasks →
    get_or openings.ticks.items o 0 ≡ 0 = λ o h. ap (λ (l : List ℕ). get_or l o 0) ticks ∙ get_or-replicate n o 0 0 (omega arith) in
    let count : length openings.firsts.items ≡ n / 16 + 1 = ap length firsts ∙ length-replicate (n / 16 + 1) 0 in
    let listed : length openings.ticks.items ≡ n = ap length ticks ∙ length-replicate n 0 in
    record {
      shut = record { tasks = listed ∙ len; each = λ o h v a b. absurd (omega (arith, zero_at o h)) };
      gaps = gaps;
      blocks = record {
        all = omega (arith, count, len);
        least = λ b o i l. omega (
          arith,
          ap (λ (v : List ℕ). get_or v b 0) firsts,
          get_or-replicate {A = ℕ} (n / 16 + 1) b 0 0 (omega (arith, i.from, l, listed)),
        );
      };
      first = λ b h. omega (arith, first);
    }

in_block : (o : ℕ) → IsInBlock (o / 16) o
in_block o = record { from = omega arith; to = omega arith }

-- before the first of them
pub all_shut : (w : World) (t : ℕ) (m : Moment) (openings : Openings) → AreOpenings w.sheet m.run t openings → t < openings.first →
    arrive_below w t (length w.sheet.tasks) m ≡ m
all_shut w t m openings are early = none_arrive w t (length w.sheet.tasks) m (λ o b. (
    let listed : o / 16 < length openings.firsts.items = omega (arith, are.blocks.all, b) in
    are.shut.each o b t (omega arith)
    (omega (arith, early, are.first (o / 16) listed, are.blocks.least (o / 16) o (in_block o) (omega (arith, are.shut.tasks, b))))
    ))

pub arriving_start : (sheet : SheetParts) (run : Run) (t m : ℕ) (openings : Openings) → m ≡ 0 → AreOpenings sheet run t openings →
    AreArriving sheet run t m openings
arriving_start sheet run t m openings e are = record {
  tasks = are.shut.tasks;
  come = λ o b h. absurd (omega (arith, e, b));
  rest = λ o b h. are.shut.each o h;
  gaps = are.gaps;
  blocks = are.blocks;
}

pub gaps_pushed : (n : ℕ) (list more : List Gaps) (x : Gaps) → more ≡ list ++ x ∷ [] → length list ≡ n →
    ((o : ℕ) (d : Gaps) (c : Curve) → o < n → IsCurve c → IsGaps c (get_or list o d)) → ((c : Curve) → IsCurve c → IsGaps c x) →
    (o : ℕ) (d : Gaps) (c : Curve) → o < n + 1 → IsCurve c → IsGaps c (get_or more o d)
gaps_pushed n list more x e len old new o d c b ok = elim (cases_lt o n) [
  | inl l ↦ subst (IsGaps c) (sym (ap (λ (v : List Gaps). get_or v o d) e ∙ get_or_append_left list (x ∷ []) d o (omega (arith, len, l)))) (old o d c l ok)
  | inr l ↦ subst (IsGaps c) (sym (ap (λ (v : List Gaps). get_or v o d) e ∙ get_or_at list x [] d o (omega (arith, len, l, b)))) (new c ok)
]

gaps_more : (sheet : SheetParts) (list : List Gaps) (m : ℕ) (gaps : Gaps) → HasGaps sheet list → m < length sheet.tasks → IsGaps (task_at sheet m).curve gaps →
    HasGaps sheet (set list m gaps)
gaps_more sheet list m gaps has b are = record {
  tasks = length-set list m gaps ∙ has.tasks;
  each = λ o d h. elim (cases_eq o m) [
    | inl is ↦
        subst (λ k. IsGaps (task_at sheet k).curve (get_or (set list m gaps) k d)) (sym is)
        (subst (IsGaps (task_at sheet m).curve) (sym (get_or-set_same list m gaps d (omega (arith, has.tasks)))) are)
    | inr ne ↦ subst (IsGaps (task_at sheet o).curve) (sym (get_or-set_other list m o gaps d ne)) (has.each o d h)
  ];
}

-- a block before the first of its ticks

none_from : (w : World) (t from k : ℕ) (m start : Moment) → m ≡ arrive_below w t from start →
    ((o : ℕ) → from ≤ o → o < from + k → room w o t m ≡ 0) → m ≡ arrive_below w t (from + k) start
none_from w t from zero m start is none =
    let e : from + zero ≡ from = omega arith in
    subst (λ j. m ≡ arrive_below w t j start) (sym e) is
none_from w t from (suc k) m start is none =
    let before : m ≡ arrive_below w t (from + k) start = none_from w t from k m start is (λ o a b. none o a (omega arith)) in
    let e : from + suc k ≡ suc (from + k) = omega arith in
    let same : m ≡ arrive_of w (from + k) t m = sym (nothing_arrives w (from + k) t m (none (from + k) (omega arith) (omega arith))) in
    subst (λ j. m ≡ arrive_below w t j start) (sym e) (same ∙ ap (arrive_of w (from + k) t) before)

pub block_still : (w : World) (t b : ℕ) (m start : Moment) (openings : Openings) → 16 * b ≤ length w.sheet.tasks →
    AreArriving w.sheet m.run t (16 * b) openings → t < get_or openings.firsts.items b 0 → m ≡ arrive_below w t (16 * b) start →
    m ≡ arrive_below w t (min (16 * b + 16) (length w.sheet.tasks)) start
block_still w t b m start openings h was early is =
    let k : ℕ = min (16 * b + 16) (length w.sheet.tasks) - 16 * b in
    let e : 16 * b + k ≡ min (16 * b + 16) (length w.sheet.tasks) = omega (arith, h) in
    subst (λ j. m ≡ arrive_below w t j start) e
    (none_from w t (16 * b) k m start is (λ o a l. (
    let listed : o < length w.sheet.tasks = omega (arith, e, l) in
    let here : IsInBlock b o = record { from = a; to = omega (arith, e, l) } in
    was.rest o a listed t (omega arith) (omega (arith, early, was.blocks.least b o here (omega (arith, was.tasks, listed))))
    )))

pub block_passed : (sheet : SheetParts) (run : Run) (t b m : ℕ) (openings : Openings) → 16 * b ≤ m → AreArriving sheet run t (16 * b) openings →
    AreArriving sheet run t m openings
block_passed sheet run t b m openings h was = record {
  tasks = was.tasks;
  come = λ o l i. elim (cases_lt o (16 * b)) [
    | inl c ↦ was.come o c i
    | inr c ↦ (λ v a e. was.rest o c i v (omega arith) e)
  ];
  rest = λ o l i. was.rest o (omega (arith, h, l)) i;
  gaps = was.gaps;
  blocks = was.blocks;
}

-- within block b, where first is no later than the ticks of its tasks so far
pub record IsArriving (sheet : SheetParts) (run : Run) (t b m first : ℕ) (ticks : List ℕ) (list : List Gaps) (firsts : List ℕ) : Type 0 where
  pub tasks : length ticks ≡ length sheet.tasks
  pub come : (o : ℕ) → o < m → o < length sheet.tasks → IsShut sheet o run (suc t) (get_or ticks o 0)
  pub rest : (o : ℕ) → m ≤ o → o < length sheet.tasks → IsShut sheet o run t (get_or ticks o 0)
  pub gaps : HasGaps sheet list
  pub all : length sheet.tasks < 16 * length firsts
  pub others : (c o : ℕ) → (c ≡ b → ⊥) → IsInBlock c o → o < length ticks → get_or firsts c 0 ≤ get_or ticks o 0
  pub least : (o : ℕ) → 16 * b ≤ o → o < m → first ≤ get_or ticks o 0

pub block_start : (sheet : SheetParts) (run : Run) (t b m first : ℕ) (openings : Openings) → m ≡ 16 * b → AreArriving sheet run t (16 * b) openings →
    IsArriving sheet run t b m first openings.ticks.items openings.gaps.items openings.firsts.items
block_start sheet run t b m first openings e was = record {
  tasks = was.tasks;
  come = λ o l i. was.come o (omega (arith, e, l)) i;
  rest = λ o l i. was.rest o (omega (arith, e, l)) i;
  gaps = was.gaps;
  all = was.blocks.all;
  others = λ c o ne i l. was.blocks.least c o i l;
  least = λ o h l. absurd (omega (arith, e, h, l));
}

pub block_next : (sheet : SheetParts) (run later : Run) (t b m first next new : ℕ) (ticks : List ℕ) (list : List Gaps) (firsts : List ℕ) (gaps : Gaps) →
    m < length sheet.tasks → IsInBlock b m → IsArriving sheet run t b m first ticks list firsts → BeginsWith later.jobs run.jobs →
    IsShut sheet m later (suc t) next → IsGaps (task_at sheet m).curve gaps → new ≡ min first next →
    IsArriving sheet later t b (m + 1) new (set ticks m next) (set list m gaps) firsts
block_next sheet run later t b m first next new ticks list firsts gaps h own was begins shut are e =
    let here : get_or (set ticks m next) m 0 ≡ next = get_or-set_same ticks m next 0 (omega (arith, was.tasks)) in
    record {
      tasks = length-set ticks m next ∙ was.tasks;
      come = λ o l i. elim (cases_eq o m) [
        | inl is ↦ subst (λ k. IsShut sheet k later (suc t) (get_or (set ticks m next) k 0)) (sym is) (subst (IsShut sheet m later (suc t)) (sym here) shut)
        | inr ne ↦ subst (IsShut sheet o later (suc t)) (sym (get_or-set_other ticks m o next 0 ne))
            (shut_on sheet o run later (suc t) (get_or ticks o 0) begins (was.come o (omega arith) i))
      ];
      rest = λ o l i.
          subst (IsShut sheet o later t) (sym (get_or-set_other ticks m o next 0 (λ is. omega arith)))
          (shut_on sheet o run later t (get_or ticks o 0) begins (was.rest o (omega arith) i));
      gaps = gaps_more sheet list m gaps was.gaps h are;
      all = was.all;
      others = λ c o ne i l. (
          let far : o ≡ m → ⊥ = λ is. ne (omega (arith, is, i.from, i.to, own.from, own.to)) in
          omega (arith, get_or-set_other ticks m o next 0 far, was.others c o ne i (omega (arith, l, length-set ticks m next)))
          );
      least = λ o a l. elim (cases_eq o m) [
        | inl is ↦ omega (arith, e, here, ap (λ k. get_or (set ticks m next) k 0) is)
        | inr ne ↦ omega (arith, e, was.least o a (omega arith), get_or-set_other ticks m o next 0 ne)
      ];
    }

pub block_end : (sheet : SheetParts) (run : Run) (t b m first : ℕ) (firsts : List ℕ) (openings : Openings) → b < length firsts →
    m ≡ min (16 * b + 16) (length sheet.tasks) → openings.firsts.items ≡ set firsts b first →
    IsArriving sheet run t b m first openings.ticks.items openings.gaps.items firsts →
    AreArriving sheet run t (min (16 * b + 16) (length sheet.tasks)) openings
block_end sheet run t b m first firsts openings h ends e was =
    let len : length openings.firsts.items ≡ length firsts = ap length e ∙ length-set firsts b first in
    record {
      tasks = was.tasks;
      come = λ o l i. was.come o (omega (arith, ends, l)) i;
      rest = λ o l i. was.rest o (omega (arith, ends, l)) i;
      gaps = was.gaps;
      blocks = record {
        all = omega (arith, was.all, len);
        least = λ c o i l. elim (cases_eq c b) [
          | inl is ↦
              let at : get_or openings.firsts.items c 0 ≡ first =
              ap (λ (v : List ℕ). get_or v c 0) e ∙ (ap (λ k. get_or (set firsts b first) k 0) is ∙ get_or-set_same firsts b first 0 h) in
              omega (arith, at, was.least o (omega (arith, i.from, is)) (omega (arith, i.to, is, l, was.tasks, ends)))
          | inr ne ↦ omega (arith, ap (λ (v : List ℕ). get_or v c 0) e, get_or-set_other firsts b c first 0 ne, was.others c o ne i l)
        ];
      };
    }
