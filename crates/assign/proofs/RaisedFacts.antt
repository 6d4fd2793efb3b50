-- Where the class of a task is no larger than before, what served the task still serves it: who leaves the class may
-- block with a segment, but asks for a whole job no more.
use Rattle.std.proofs.Common.{◌≡◌, ◌≢◌, ℕ, zero, suc, ◌+◌, ◌-◌, ◌*◌, ◌<◌, ◌≤◌, ◌==◌, ◌&&◌, nat_le, nat_lt, not, Bool, true, false, cond, Option, Some, None}
use Rattle.std.proofs.Common.{List, [], ◌∷◌, length, refl, sym, ap, ◌∙◌, inl, inr, arith, eq-eqb}
use Rattle.std.proofs.lemmas.Bool.{cases_eq, cases_lt, cases_Bool, and_parts, and_from, ne_eqb, eqb-false, not-true, ltb-true, lt-ltb, le-leb, lt-leb}
use Rattle.std.proofs.Math.Nat.{mul-le-mul_left}
use Rattle.lists.specs.Sums.{sum_below, max_below}
use Rattle.lists.proofs.SumFacts.{sum_le, sum_same, sum_gap, max_at_least}
use Rattle.curve.specs.CurveValue.{Curve}
use Rattle.curve.specs.Curves.{alpha_of}
use Rattle.curve.proofs.CurveFacts.{alpha_one}
use Rattle.task_sheet.specs.declared.tasks.Task.{Task}
use Rattle.task_sheet.specs.SheetParts.{SheetParts}
use Rattle.task_sheet.specs.Sheets.{task_at, IsValidSheet}
use Rattle.task_sheet.specs.Priorities.{prioritized}
use Rattle.policy.specs.declared.keys.Cap.TheVariants.{Nothing, All}
use Rattle.policy.specs.Offsets.{cap_count, compared_of}
use Rattle.policy.specs.Policies.{fp_meaning}
use Rattle.preemption.specs.CutMeaning.{CutMeaning}
use Rattle.preemption.specs.Cuts.{longest_of, threshold_of}
use Rattle.demand.specs.Demand.{capped_count, rest_of, own_of, other_of, others_of, block_of, blocking_of, need_of, delay_of, class_part_of, window_need_of}
use Rattle.demand.specs.Meeting.{IsWindow, MeetsEnd, KeepsGap, PointMeets, PointsMeet}
use Rattle.demand.proofs.DemandFacts.{max_stands}
use Rattle.certificate.specs.declared.cert.Entry.{Entry}
use Rattle.conditions.specs.Meets.{pairs_of, TaskMeets}
use Rattle.conditions.proofs.MeetFacts.{none_told}
use Rattle.solver.specs.Best.{IsEntryUpTo}
use Rattle.assign.specs.Sheets.{sheet_by}
use Rattle.assign.proofs.SheetFacts.{task_by, count_by}

max_same : (f g : ℕ → ℕ) (n : ℕ) → ((k : ℕ) → k < n → f k ≡ g k) → max_below f n ≡ max_below g n
max_same f g zero same = refl
max_same f g (suc n) same = rw (max_same f g n (λ k b. same k (omega arith)), same n (omega arith)) refl

-- what the argument takes of the kind of preemption and of the supply
pub record KeepsCuts (m : CutMeaning) (sbf : ℕ → ℕ) (sheet : SheetParts) : Type 0 where
  pub valid : IsValidSheet sheet
  pub starts : sbf 0 ≡ 0
  pub longest : (o p : ℕ) → o < length sheet.tasks → m.longest (prioritized (task_at sheet o) p) ≡ longest_of (task_at sheet o)
  pub threshold : (o p : ℕ) → o < length sheet.tasks → m.threshold (prioritized (task_at sheet o) p) ≡ threshold_of (task_at sheet o)
  pub longest_bound : (o : ℕ) → o < length sheet.tasks → longest_of (task_at sheet o) ≤ (task_at sheet o).cost
  pub threshold_positive : (o : ℕ) → o < length sheet.tasks → 1 ≤ threshold_of (task_at sheet o)

-- the jobs of a task of the class, and none of others; and no number tells offsets apart by them
class_count : (c : Bool) (cost : ℕ) (curve : Curve) (jitter x : ℕ) →
    cost * capped_count curve jitter (cond c All Nothing) x ≡ cond c (cost * alpha_of curve (x + jitter)) 0
class_count true cost curve jitter x = refl
class_count false cost curve jitter x = omega arith

none_counted : (c : Bool) (curve : Curve) → cap_count curve (cond c All Nothing) ≡ 0
none_counted true curve = refl
none_counted false curve = refl

-- the entry without its terms, and its numbers, which are the same
abbrev pub plain : Entry → Entry
plain e = record { window = e.window; bound = e.bound; points = e.points; terms = [] }

pub plain_up_to : (horizon : ℕ) (e : Entry) → IsEntryUpTo horizon e → IsEntryUpTo horizon (plain e)
plain_up_to horizon e up_to = record { window = up_to.window; bound = up_to.bound; points = up_to.points }

-- from the priorities f to g no task but i itself comes into the class of i
abbrev pub IsRaised : ℕ → (ℕ → ℕ) → (ℕ → ℕ) → ℕ → Type 0
IsRaised n f g i = (o : ℕ) → o < n → o ≢ i → g i ≤ g o → f i ≤ f o

module _ (m : CutMeaning) (sbf : ℕ → ℕ) (sheet : SheetParts) (kept : KeepsCuts m sbf sheet) where
  -- all that task o asks for within x ticks
  load : ℕ → ℕ → ℕ
  load o x = (task_at sheet o).cost * alpha_of (task_at sheet o).curve (x + (task_at sheet o).jitter)

  -- what the tasks of the class of i ask for, itself so much; and what all others can block
  part : (ℕ → ℕ) → ℕ → ℕ → ℕ → ℕ → ℕ
  part f i own x o = cond (o == i) own (cond (nat_le (f i) (f o)) (load o x) 0)

  block : (ℕ → ℕ) → ℕ → ℕ → ℕ
  block f i o = cond (not (o == i) && nat_lt (f o) (f i)) (longest_of (task_at sheet o) - 1) 0

  -- the demand of task i itself, less the rest of a job of it
  own_part : ℕ → ℕ → ℕ
  own_part i a =
      (task_at sheet i).cost * alpha_of (task_at sheet i).curve (a + 1 + (task_at sheet i).jitter) -
      ((task_at sheet i).cost - threshold_of (task_at sheet i))

  load_some : (o x : ℕ) → o < length sheet.tasks → 1 ≤ x → (task_at sheet o).cost ≤ load o x
  unfolding load
  load_some o x b one =
      let task = task_at sheet o in
      omega (arith, mul-le-mul_left task.cost (alpha_one task.curve (kept.valid.each o b).curve (x + task.jitter) (omega arith)))

  module _ (f g : ℕ → ℕ) (i : ℕ) (raised : IsRaised (length sheet.tasks) f g i) where
    part_less : (own x o : ℕ) → o < length sheet.tasks → part g i own x o ≤ part f i own x o
    unfolding part
    part_less own x o b = elim (cases_eq o i) [
      | inl e ↦ rw (eq-eqb o i e) (omega arith)
      | inr other ↦ rw (ne_eqb o i other) (elim (cases_lt (g o) (g i)) [
        | inl lt ↦ rw (lt-leb (g i) (g o) lt) (omega arith)
        | inr le ↦ rw (le-leb (g i) (g o) le, le-leb (f i) (f o) (raised o b other le)) (omega arith)
      ])
    ]

    -- a task that blocks in the one blocks in the other, or asks for a whole job there
    gone : (own x o : ℕ) → o < length sheet.tasks → 1 ≤ x → o ≢ i → g o < g i → f i ≤ f o →
        part g i own x o + (longest_of (task_at sheet o) - 1) ≤ part f i own x o
    unfolding part
    gone own x o b one other lt le =
        rw (ne_eqb o i other, lt-leb (g i) (g o) lt, le-leb (f i) (f o) le) (omega (arith, load_some o x b one, kept.longest_bound o b))

    none_there : (o : ℕ) → (not (o == i) && nat_lt (g o) (g i)) ≡ false → block g i o ≡ 0
    unfolding block
    none_there o e = ap (λ (b : Bool). cond b (longest_of (task_at sheet o) - 1) 0) e

    some_there : (o : ℕ) → (not (o == i) && nat_lt (g o) (g i)) ≡ true → block g i o ≡ longest_of (task_at sheet o) - 1
    unfolding block
    some_there o t = ap (λ (b : Bool). cond b (longest_of (task_at sheet o) - 1) 0) t

    blocks_there : (o : ℕ) → not (o == i) ≡ true → (not (o == i) && nat_lt (g o) (g i)) ≡ true → f o < f i → block g i o ≡ block f i o
    unfolding block
    blocks_there o q t lt =
        let also : (not (o == i) && nat_lt (f o) (f i)) ≡ true = and_from (not (o == i)) (nat_lt (f o) (f i)) q (lt-ltb (f o) (f i) lt) in
        ap (λ (b : Bool). cond b (longest_of (task_at sheet o) - 1) 0) t ∙
        sym (ap (λ (b : Bool). cond b (longest_of (task_at sheet o) - 1) 0) also)

    all_less : (own x : ℕ) → 1 ≤ x →
        max_below (block g i) (length sheet.tasks) + sum_below (part g i own x) (length sheet.tasks) ≤
        max_below (block f i) (length sheet.tasks) + sum_below (part f i own x) (length sheet.tasks)
    all_less own x one =
        let n = length sheet.tasks in
        let all = sum_le (part g i own x) (part f i own x) n (part_less own x) in
        elim (max_stands (block g i) n) [
          | inl z ↦ omega (arith, z, all)
          | inr at ↦ elim (cases_Bool (not (at.0 == i) && nat_lt (g at.0) (g i))) [
            | inr none ↦ omega (arith, at.2, all, none_there at.0 none)
            | inl t ↦
                let q = and_parts (not (at.0 == i)) (nat_lt (g at.0) (g i)) t in
                let other : at.0 ≢ i = eqb-false at.0 i (not-true (at.0 == i) q.0) in
                let lt : g at.0 < g i = ltb-true (g at.0) (g i) q.1 in
                elim (cases_lt (f at.0) (f i)) [
                  | inl still ↦ omega (arith, at.2, all, max_at_least (block f i) n at.0 at.1, blocks_there at.0 q.0 t still)
                  | inr over ↦ omega (
                    arith,
                    at.2,
                    some_there at.0 t,
                    sum_gap (part g i own x) (part f i own x) n at.0 (longest_of (task_at sheet at.0) - 1) at.1 (part_less own x)
                        (gone own x at.0 at.1 one other lt over),
                  )
                ]
          ]
        ]

  module _ (f : ℕ → ℕ) (i : ℕ) (in_range : i < length sheet.tasks) where
    -- the tasks of the sheet, and who of them is as urgent
    its_task : (o : ℕ) → o < length sheet.tasks → task_at (sheet_by sheet f) o ≡ prioritized (task_at sheet o) (f o)
    its_task o b = task_by sheet f o b

    other_is : (a x o : ℕ) → o < length sheet.tasks → other_of fp_meaning (sheet_by sheet f) i a x o ≡ part f i 0 x o
    unfolding part load
    other_is a x o b =
        let task = task_at sheet o in
        ap (λ (t : Task). cond (o == i) 0 ((task_at (sheet_by sheet f) o).cost * capped_count (task_at (sheet_by sheet f) o).curve
        (task_at (sheet_by sheet f) o).jitter (cond (nat_le t.priority (task_at (sheet_by sheet f) o).priority) All Nothing) x)) (its_task i in_range) ∙
        ap (λ (u : Task). cond (o == i) 0 (u.cost * capped_count u.curve u.jitter (cond (nat_le (f i) u.priority) All Nothing) x)) (its_task o b) ∙
        ap (λ (n : ℕ). cond (o == i) 0 n) (class_count (nat_le (f i) (f o)) task.cost task.curve task.jitter x)

    class_there : (l o : ℕ) → o < length sheet.tasks → class_part_of fp_meaning (sheet_by sheet f) i l o ≡ cond (nat_le (f i) (f o)) (load o l) 0
    unfolding load
    class_there l o b =
        ap (λ (t : Task). cond (nat_le t.priority (task_at (sheet_by sheet f) o).priority)
        ((task_at (sheet_by sheet f) o).cost * alpha_of (task_at (sheet_by sheet f) o).curve (l + (task_at (sheet_by sheet f) o).jitter)) 0) (its_task i in_range) ∙
        ap (λ (u : Task). cond (nat_le (f i) u.priority) (u.cost * alpha_of u.curve (l + u.jitter)) 0) (its_task o b)

    as_part : (l o : ℕ) → cond (nat_le (f i) (f o)) (load o l) 0 ≡ part f i (load i l) l o
    unfolding part
    as_part l o = elim (cases_eq o i) [
      | inl e ↦
          let same : load o l ≡ load i l = ap (λ (w : ℕ). load w l) e in
          ap (λ (b : Bool). cond b (load o l) 0) (le-leb (f i) (f o) (omega (arith, ap f e))) ∙ same ∙
          sym (ap (λ (b : Bool). cond b (load i l) (cond (nat_le (f i) (f o)) (load o l) 0)) (eq-eqb o i e))
      | inr other ↦ sym (ap (λ (b : Bool). cond b (load i l) (cond (nat_le (f i) (f o)) (load o l) 0)) (ne_eqb o i other))
    ]

    class_is : (l o : ℕ) → o < length sheet.tasks → class_part_of fp_meaning (sheet_by sheet f) i l o ≡ part f i (load i l) l o
    class_is l o b = class_there l o b ∙ as_part l o

    block_is : (a o : ℕ) → o < length sheet.tasks → block_of fp_meaning m (sheet_by sheet f) i a o ≡ block f i o
    unfolding block
    block_is a o b =
        ap (λ (t : Task). cond (not (o == i) && nat_lt (task_at (sheet_by sheet f) o).priority t.priority)
        (m.longest (task_at (sheet_by sheet f) o) - 1) 0) (its_task i in_range) ∙
        ap (λ (u : Task). cond (not (o == i) && nat_lt u.priority (f i)) (m.longest u - 1) 0) (its_task o b) ∙
        ap (λ (n : ℕ). cond (not (o == i) && nat_lt (f o) (f i)) (n - 1) 0) (kept.longest o (f o) b)

    delay_is : (o : ℕ) → o < length sheet.tasks → delay_of fp_meaning m (sheet_by sheet f) i o ≡ block f i o
    delay_is o b = block_is 0 o b

    rest_is : rest_of m (sheet_by sheet f) i ≡ (task_at sheet i).cost - threshold_of (task_at sheet i)
    rest_is =
        ap (λ (t : Task). t.cost - m.threshold t) (its_task i in_range) ∙
        ap (λ (n : ℕ). (task_at sheet i).cost - n) (kept.threshold i (f i) in_range)

    own_is : (a : ℕ) → own_of m (sheet_by sheet f) i a ≡ own_part i a
    unfolding own_of own_part
    own_is a =
        let whole = (task_at sheet i).cost * alpha_of (task_at sheet i).curve (a + 1 + (task_at sheet i).jitter) in
        ap (λ (t : Task). t.cost * alpha_of t.curve (a + 1 + t.jitter) - (t.cost - m.threshold t)) (its_task i in_range) ∙
        ap (λ (n : ℕ). whole - ((task_at sheet i).cost - n)) (kept.threshold i (f i) in_range)

    own_some : (a : ℕ) → 1 ≤ own_part i a
    unfolding own_part
    own_some a =
        let task = task_at sheet i in
        omega (
          arith,
          kept.threshold_positive i in_range,
          (kept.valid.each i in_range).cost_low,
          mul-le-mul_left task.cost (alpha_one task.curve (kept.valid.each i in_range).curve (a + 1 + task.jitter) (omega arith)),
        )

    blocking_is : (a : ℕ) → blocking_of fp_meaning m (sheet_by sheet f) i a ≡ max_below (block f i) (length sheet.tasks)
    unfolding blocking_of
    blocking_is a =
        ap (max_below (block_of fp_meaning m (sheet_by sheet f) i a)) (count_by sheet f) ∙
        max_same (block_of fp_meaning m (sheet_by sheet f) i a) (block f i) (length sheet.tasks) (block_is a)

    others_are : (a x : ℕ) → others_of fp_meaning (sheet_by sheet f) i a x ≡ sum_below (part f i 0 x) (length sheet.tasks)
    unfolding others_of
    others_are a x =
        ap (sum_below (other_of fp_meaning (sheet_by sheet f) i a x)) (count_by sheet f) ∙
        sum_same (other_of fp_meaning (sheet_by sheet f) i a x) (part f i 0 x) (length sheet.tasks) (other_is a x)

    need_is : (a x : ℕ) → need_of fp_meaning m (sheet_by sheet f) i a x ≡
        max_below (block f i) (length sheet.tasks) + own_part i a + sum_below (part f i 0 x) (length sheet.tasks)
    unfolding need_of
    need_is a x = omega (arith, blocking_is a, own_is a, others_are a x)

    delays_are : max_below (delay_of fp_meaning m (sheet_by sheet f) i) (length (sheet_by sheet f).tasks) ≡ max_below (block f i) (length sheet.tasks)
    delays_are =
        ap (max_below (delay_of fp_meaning m (sheet_by sheet f) i)) (count_by sheet f) ∙
        max_same (delay_of fp_meaning m (sheet_by sheet f) i) (block f i) (length sheet.tasks) delay_is

    classes_are : (l : ℕ) → sum_below (class_part_of fp_meaning (sheet_by sheet f) i l) (length (sheet_by sheet f).tasks) ≡
        sum_below (part f i (load i l) l) (length sheet.tasks)
    classes_are l =
        ap (sum_below (class_part_of fp_meaning (sheet_by sheet f) i l)) (count_by sheet f) ∙
        sum_same (class_part_of fp_meaning (sheet_by sheet f) i l) (part f i (load i l) l) (length sheet.tasks) (class_is l)

    window_need_is : (l : ℕ) → window_need_of fp_meaning m (sheet_by sheet f) i l ≡
        max_below (block f i) (length sheet.tasks) + sum_below (part f i (load i l) l) (length sheet.tasks)
    unfolding window_need_of
    window_need_is l = omega (arith, delays_are, classes_are l)

    compared_is : (a o : ℕ) → o < length sheet.tasks → compared_of fp_meaning (sheet_by sheet f) i a o ≡
        cond (o == i) (alpha_of (task_at sheet i).curve (a + 1 + (task_at sheet i).jitter)) 0
    compared_is a o b =
        let own = alpha_of (task_at sheet i).curve (a + 1 + (task_at sheet i).jitter) in
        ap (λ (t : Task). cond (o == i) (alpha_of t.curve (a + 1 + t.jitter)) (cap_count (task_at (sheet_by sheet f) o).curve
        (cond (nat_le t.priority (task_at (sheet_by sheet f) o).priority) All Nothing))) (its_task i in_range) ∙
        ap (λ (u : Task). cond (o == i) own (cap_count u.curve (cond (nat_le (f i) u.priority) All Nothing))) (its_task o b) ∙
        ap (λ (n : ℕ). cond (o == i) own n) (none_counted (nat_le (f i) (f o)) (task_at sheet o).curve)

    -- an end that is met is not 0
    end_positive : (a x : ℕ) → MeetsEnd fp_meaning m sbf (sheet_by sheet f) i a x → 1 ≤ x
    end_positive a zero meets = absurd (omega (arith, meets.enough, need_is a 0, own_some a, kept.starts))
    end_positive a (suc x) meets = omega arith

  module _ (f g : ℕ → ℕ) (i : ℕ) (in_range : i < length sheet.tasks) (raised : IsRaised (length sheet.tasks) f g i) where
    need_less : (a x : ℕ) → 1 ≤ x → need_of fp_meaning m (sheet_by sheet g) i a x ≤ need_of fp_meaning m (sheet_by sheet f) i a x
    need_less a x one = omega (arith, need_is f i in_range a x, need_is g i in_range a x, all_less f g i raised 0 x one)

    window_less : (l : ℕ) → 1 ≤ l → window_need_of fp_meaning m (sheet_by sheet g) i l ≤ window_need_of fp_meaning m (sheet_by sheet f) i l
    window_less l one = omega (arith, window_need_is f i in_range l, window_need_is g i in_range l, all_less f g i raised (load i l) l one)

    same_jitter : (task_at (sheet_by sheet f) i).jitter ≡ (task_at (sheet_by sheet g) i).jitter
    same_jitter = ap (λ (t : Task). t.jitter) (task_by sheet f i in_range) ∙ sym (ap (λ (t : Task). t.jitter) (task_by sheet g i in_range))

    same_deadline : (task_at (sheet_by sheet f) i).deadline ≡ (task_at (sheet_by sheet g) i).deadline
    same_deadline = ap (λ (t : Task). t.deadline) (task_by sheet f i in_range) ∙ sym (ap (λ (t : Task). t.deadline) (task_by sheet g i in_range))

    same_rest : rest_of m (sheet_by sheet f) i ≡ rest_of m (sheet_by sheet g) i
    same_rest = rest_is f i in_range ∙ sym (rest_is g i in_range)

    window_raised : (window : ℕ) → IsWindow fp_meaning m sbf (sheet_by sheet f) i window → IsWindow fp_meaning m sbf (sheet_by sheet g) i window
    window_raised window meets = record { positive = meets.positive; enough = omega (arith, meets.enough, window_less window meets.positive) }

    gap_raised : (before : Option ℕ) (q : ℕ) → KeepsGap fp_meaning (sheet_by sheet f) i before q → KeepsGap fp_meaning (sheet_by sheet g) i before q
    gap_raised None q same = tt
    gap_raised (Some before) q same = λ o b.
        let here : o < length sheet.tasks = omega (arith, b, count_by sheet g) in
        compared_is g i in_range before o here ∙ sym (compared_is f i in_range before o here) ∙
        same o (omega (arith, here, count_by sheet f)) ∙
        compared_is f i in_range (q - 1) o here ∙ sym (compared_is g i in_range (q - 1) o here)

    point_raised : (window bound : ℕ) (before : Option ℕ) (a x : ℕ) → PointMeets fp_meaning m sbf (sheet_by sheet f) i window bound before a x →
        PointMeets fp_meaning m sbf (sheet_by sheet g) i window bound before a x
    point_raised window bound before a x meets =
        let less = need_less a x (end_positive f i in_range a x meets.end) in
        record {
          next = meets.next;
          below = meets.below;
          gap = gap_raised before a meets.gap;
          end = record { enough = omega (arith, meets.end.enough, less) };
          within = record {
            end = omega (arith, meets.within.end, same_jitter);
            enough = omega (arith, meets.within.enough, less, same_rest, ap (λ (j : ℕ). sbf (a + bound - j)) same_jitter);
          };
        }

    points_raised : (window bound : ℕ) (before : Option ℕ) (qs : List (ℕ × ℕ)) → PointsMeet fp_meaning m sbf (sheet_by sheet f) i window bound before qs →
        PointsMeet fp_meaning m sbf (sheet_by sheet g) i window bound before qs
    points_raised window bound before [] meet = gap_raised before window meet
    points_raised window bound before (q ∷ qs) meet =
        (point_raised window bound before q.0 q.1 meet.0, points_raised window bound (Some q.0) qs meet.1)

    -- an entry that meets the conditions meets them where the class is no larger, told without terms
    pub entry_raised : (e : Entry) → TaskMeets fp_meaning m sbf (sheet_by sheet f) true i e → TaskMeets fp_meaning m sbf (sheet_by sheet g) true i (plain e)
    entry_raised e meets = record {
      covers = omega (arith, meets.covers, same_jitter);
      window = window_raised e.window meets.window;
      in_time = omega (arith, meets.in_time, same_deadline);
      points = points_raised e.window e.bound None (pairs_of e.points) meets.points;
      terms = none_told fp_meaning m sbf (sheet_by sheet g) i e.points;
    }
