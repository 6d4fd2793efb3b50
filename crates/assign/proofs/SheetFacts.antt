-- Sheets under fixed priorities, task by task.
use Rattle.std.proofs.Common.{◌≡◌, ℕ, zero, suc, ◌+◌, ◌<◌, ◌≤◌, ◌==◌, nat_lt, Bool, true, false, cond, List, [], ◌∷◌, length, get_or, refl, sym, ap}
use Rattle.std.proofs.Common.{◌∙◌, subst, inl, inr, arith, eq-eqb}
use Rattle.std.proofs.Math.ListN.{set}
use Rattle.std.proofs.lemmas.Bool.{cases_eq, cases_order, cases_Bool, ne_eqb, eqb-true, lt-ltb, le-ltb}
use Rattle.std.proofs.lemmas.List.{ext_get_or, get_or-set_same, get_or-set_other, length-set}
use Rattle.task_sheet.specs.declared.tasks.Task.{Task}
use Rattle.task_sheet.specs.declared.tasks.PolicyKind.TheVariants.{Fp}
use Rattle.task_sheet.specs.SheetParts.{SheetParts}
use Rattle.lists.specs.Limits.{greatest_number}
use Rattle.task_sheet.specs.Sheets.{no_task, task_at, IsTask, IsValidSheet}
use Rattle.task_sheet.specs.Priorities.{prioritized, with_priority, with_fp}
use Rattle.task_sheet.proofs.PriorityFacts.{task_prioritized}
use Rattle.assign.specs.Sheets.{tasks_by, sheet_by, level_in, sheet_in}
use Rattle.assign.specs.Assignment.{is_placed}

nth_by : (f : ℕ → ℕ) (from : ℕ) (ts : List Task) (o n : ℕ) → from + o ≡ n → o < length ts →
    get_or (tasks_by f from ts) o no_task ≡ prioritized (get_or ts o no_task) (f n)
nth_by f from [] o n e h = absurd (omega arith)
nth_by f from (t ∷ ts) zero n e h = let s : from ≡ n = omega (arith, e) in ap (λ (k : ℕ). prioritized t (f k)) s
nth_by f from (t ∷ ts) (suc o) n e h = nth_by f (suc from) ts o n (omega (arith, e)) (omega arith)

length_by : (f : ℕ → ℕ) (from : ℕ) (ts : List Task) → length (tasks_by f from ts) ≡ length ts
length_by f from [] = refl
length_by f from (t ∷ ts) = omega (arith, length_by f (suc from) ts)

same_by : (f g : ℕ → ℕ) (from : ℕ) (ts : List Task) → ((n : ℕ) → from ≤ n → n < from + length ts → f n ≡ g n) → tasks_by f from ts ≡ tasks_by g from ts
same_by f g from [] same = refl
same_by f g from (t ∷ ts) same =
    let here : f from ≡ g from = same from (omega arith) (omega arith) in
    let rest : tasks_by f (suc from) ts ≡ tasks_by g (suc from) ts = same_by f g (suc from) ts (λ n l h. same n (omega arith) (omega arith)) in
    ap (λ (p : ℕ). prioritized t p ∷ tasks_by f (suc from) ts) here ∙ ap (λ (us : List Task). prioritized t (g from) ∷ us) rest

-- the sheet under fixed priorities, with these tasks
abbrev with_tasks : SheetParts → List Task → SheetParts
with_tasks sheet ts = record { policy = Fp; supply = sheet.supply; tasks = ts }

module _ (sheet : SheetParts) where
  pub task_by : (f : ℕ → ℕ) (o : ℕ) → o < length sheet.tasks → task_at (sheet_by sheet f) o ≡ prioritized (task_at sheet o) (f o)
  unfolding sheet_by
  task_by f o l = nth_by f 0 sheet.tasks o o (omega arith) l

  pub count_by : (f : ℕ → ℕ) → length (sheet_by sheet f).tasks ≡ length sheet.tasks
  unfolding sheet_by
  count_by f = length_by f 0 sheet.tasks

  pub sheet_same : (f g : ℕ → ℕ) → ((o : ℕ) → o < length sheet.tasks → f o ≡ g o) → sheet_by sheet f ≡ sheet_by sheet g
  unfolding sheet_by
  sheet_same f g same = ap (with_tasks sheet) (same_by f g 0 sheet.tasks (λ n l h. same n (omega arith)))

  -- the priority of a task changed
  abbrev pub put : (ℕ → ℕ) → ℕ → ℕ → ℕ → ℕ
  put f i p o = cond (o == i) p (f o)

  set_same : (f : ℕ → ℕ) (i p : ℕ) → i < length sheet.tasks → (o : ℕ) → o < length sheet.tasks →
      get_or (set (tasks_by f 0 sheet.tasks) i (prioritized (get_or (tasks_by f 0 sheet.tasks) i no_task) p)) o no_task ≡
      get_or (tasks_by (put f i p) 0 sheet.tasks) o no_task
  set_same f i p b o l =
      let ts = tasks_by f 0 sheet.tasks in
      let t = get_or ts i no_task in
      let count : length ts ≡ length sheet.tasks = length_by f 0 sheet.tasks in
      elim (cases_eq o i) [
        | inl e ↦
            let put_here : put f i p o ≡ p = rw (eq-eqb o i e) refl in
            ap (λ (w : ℕ). get_or (set ts i (prioritized t p)) w no_task) e ∙
            get_or-set_same ts i (prioritized t p) no_task (omega (arith, count)) ∙
            ap (λ (w : Task). prioritized w p) (nth_by f 0 sheet.tasks i i (omega arith) b) ∙
            ap (λ (w : ℕ). prioritized (task_at sheet w) p) (sym e) ∙
            ap (λ (w : ℕ). prioritized (task_at sheet o) w) (sym put_here) ∙
            sym (nth_by (put f i p) 0 sheet.tasks o o (omega arith) l)
        | inr other ↦
            let put_there : put f i p o ≡ f o = rw (ne_eqb o i other) refl in
            get_or-set_other ts i o (prioritized t p) no_task other ∙ nth_by f 0 sheet.tasks o o (omega arith) l ∙
            ap (λ (w : ℕ). prioritized (task_at sheet o) w) (sym put_there) ∙
            sym (nth_by (put f i p) 0 sheet.tasks o o (omega arith) l)
      ]

  pub put_is : (f : ℕ → ℕ) (i p : ℕ) → i < length sheet.tasks → with_priority (sheet_by sheet f) i p ≡ sheet_by sheet (put f i p)
  unfolding sheet_by
  put_is f i p b =
      let ts = tasks_by f 0 sheet.tasks in
      let t = get_or ts i no_task in
      let count : length (set ts i (prioritized t p)) ≡ length sheet.tasks = length-set ts i (prioritized t p) ∙ length_by f 0 sheet.tasks in
      ap (with_tasks sheet)
      (ext_get_or no_task (set ts i (prioritized t p)) (tasks_by (put f i p) 0 sheet.tasks) (count ∙ sym (length_by (put f i p) 0 sheet.tasks))
      (λ o l. set_same f i p b o (omega (arith, l, count))))

  -- the priorities that the sheet says itself
  abbrev pub own : ℕ → ℕ
  own o = (task_at sheet o).priority

  pub own_is : with_fp sheet ≡ sheet_by sheet own
  unfolding sheet_by
  own_is = ap (with_tasks sheet)
      (ext_get_or no_task sheet.tasks (tasks_by own 0 sheet.tasks) (sym (length_by own 0 sheet.tasks)) (λ o l. sym (nth_by own 0 sheet.tasks o o (omega arith) l)))

  -- the first n tasks above all levels
  abbrev pub lifted : ℕ → ℕ → ℕ → ℕ
  lifted above n o = cond (nat_lt o n) above (own o)

  pub lifted_none : (above : ℕ) → with_fp sheet ≡ sheet_by sheet (lifted above 0)
  lifted_none above = own_is ∙ sheet_same own (lifted above 0) (λ o l. sym (ap (λ (b : Bool). cond b above (own o)) (le-ltb o 0 (omega arith))))

  pub lifted_more : (above n : ℕ) → n < length sheet.tasks → with_priority (sheet_by sheet (lifted above n)) n above ≡ sheet_by sheet (lifted above (n + 1))
  lifted_more above n b = put_is (lifted above n) n above b ∙ sheet_same (put (lifted above n) n above) (lifted above (n + 1)) (λ o l. elim (cases_order o n) [
    | inl e ↦ rw (eq-eqb o n e, lt-ltb o (n + 1) (omega (arith, e))) refl
    | inr (inl lt) ↦ rw (ne_eqb o n (λ e. absurd (omega (arith, e, lt))), lt-ltb o n lt, lt-ltb o (n + 1) (omega (arith, lt))) refl
    | inr (inr gt) ↦ rw (ne_eqb o n (λ e. absurd (omega (arith, e, gt))), le-ltb o n (omega (arith, gt)), le-ltb o (n + 1) (omega (arith, gt))) refl
  ])

  pub lifted_all : (above : ℕ) → sheet_by sheet (lifted above (length sheet.tasks)) ≡ sheet_by sheet (level_in above [])
  lifted_all above = sheet_same (lifted above (length sheet.tasks)) (level_in above []) (λ o l. rw (lt-ltb o (length sheet.tasks) l) refl)

-- who is not placed stands above, who is placed does not
pub left_above : (above : ℕ) (placed : List ℕ) (o : ℕ) → is_placed placed o ≡ false → level_in above placed o ≡ above
left_above above [] o h = refl
left_above above (i ∷ before) o h = elim (cases_Bool (o == i)) [
  | inl t ↦ absurd (let clash : true ≡ false = rw t at h in cc)
  | inr f ↦ let rest : is_placed before o ≡ false = rw f at h in rw f (left_above above before o rest)
]

pub placed_below : (above : ℕ) (placed : List ℕ) (o : ℕ) → is_placed placed o ≡ true → level_in above placed o ≤ length placed
placed_below above [] o h = absurd (cc)
placed_below above (i ∷ before) o h = elim (cases_Bool (o == i)) [
  | inl t ↦ rw t (omega arith)
  | inr f ↦ let rest : is_placed before o ≡ true = rw f at h in rw f (omega (arith, placed_below above before o rest))
]

pub level_low : (above : ℕ) (placed : List ℕ) (o : ℕ) → 1 ≤ above → 1 ≤ level_in above placed o
level_low above [] o h = h
level_low above (i ∷ before) o h = elim (cases_Bool (o == i)) [
  | inl t ↦ rw t (omega arith)
  | inr f ↦ rw f (level_low above before o h)
]

-- the last that was placed has the last level
pub level_last : (above i : ℕ) (before : List ℕ) → level_in above (i ∷ before) i ≡ length before + 1
level_last above i before = rw (eq-eqb i i refl) refl

module _ (sheet : SheetParts) (placed : List ℕ) (i : ℕ) (in_range : i < length sheet.tasks) where
  -- the next level taken, and given back
  pub taken_is : with_priority (sheet_in sheet placed) i (length placed + 1) ≡ sheet_in sheet (i ∷ placed)
  taken_is =
      let above = length sheet.tasks + 1 in
      put_is sheet (level_in above placed) i (length placed + 1) in_range ∙
      sheet_same sheet (put sheet (level_in above placed) i (length placed + 1)) (level_in above (i ∷ placed)) (λ o l. refl)

  pub given_back : is_placed placed i ≡ false → with_priority (sheet_in sheet (i ∷ placed)) i (length sheet.tasks + 1) ≡ sheet_in sheet placed
  given_back left =
      let above = length sheet.tasks + 1 in
      put_is sheet (level_in above (i ∷ placed)) i above in_range ∙
      sheet_same sheet (put sheet (level_in above (i ∷ placed)) i above) (level_in above placed) (λ o l. elim (cases_Bool (o == i)) [
        | inl t ↦ rw t (sym (ap (level_in above placed) (eqb-true o i t) ∙ left_above above placed i left))
        | inr f ↦ rw f refl
      ])

-- with priorities within the limit the sheet is valid
pub valid_by : (sheet : SheetParts) → IsValidSheet sheet → (f : ℕ → ℕ) → ((o : ℕ) → o < length sheet.tasks → f o ≤ greatest_number) →
    IsValidSheet (sheet_by sheet f)
unfolding sheet_by
valid_by sheet ok f high =
    let count : length (sheet_by sheet f).tasks ≡ length sheet.tasks = count_by sheet f in
    let name : (o : ℕ) → o < length sheet.tasks → (task_at (sheet_by sheet f) o).name ≡ (task_at sheet o).name =
    λ o b. ap (λ (t : Task). t.name) (task_by sheet f o b) in
    record {
      supply = ok.supply;
      some = omega (arith, ok.some, count);
      few = omega (arith, ok.few, count);
      each = λ o l.
          let b : o < length sheet.tasks = omega (arith, l, count) in
          subst IsTask (sym (task_by sheet f o b)) (task_prioritized (task_at sheet o) (f o) (ok.each o b) (high o b));
      distinct = λ i k lt l e.
          let b : k < length sheet.tasks = omega (arith, l, count) in
          ok.distinct i k lt b (sym (name i (omega (arith, lt, b))) ∙ e ∙ name k b);
    }

level_high : (above : ℕ) (order : List ℕ) (o : ℕ) → length order ≤ above → level_in above order o ≤ above
level_high above order o few = elim (cases_Bool (is_placed order o)) [
  | inl t ↦ omega (arith, few, placed_below above order o t)
  | inr f ↦ omega (arith, left_above above order o f)
]

-- so it is with levels
pub valid_in : (sheet : SheetParts) → IsValidSheet sheet → (order : List ℕ) → length order ≤ length sheet.tasks → IsValidSheet (sheet_in sheet order)
valid_in sheet ok order few =
    let above = length sheet.tasks + 1 in
    valid_by sheet ok (level_in above order) (λ o l. omega (arith, ok.few, level_high above order o (omega (arith, few))))
