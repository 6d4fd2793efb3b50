-- How far tasks of one horizon are together below the lines that rise with their load.
use Rattle.std.proofs.Common.{◌≡◌, ℕ, zero, suc, ◌+◌, ◌-◌, ◌*◌, ◌/◌, ◌%◌, ◌<◌, ◌≤◌, ◌==◌, ◌&&◌, max, not, ◌≢◌, ℤ}
use Rattle.std.proofs.Common.{Bool, true, false, cond, List, length, ap, add-one, subst, sym, refl, ◌∙◌, arith, inl, inr, get_or, slice_set, eq-eqb}
use Rattle.std.proofs.lemmas.Bool.{cases_Bool, cases_lt, cases_eq, eqb-true, ne_eqb, and_parts}
use Rattle.std.proofs.lemmas.List.{get_or-set_same, get_or-set_other}
use Rattle.std.proofs.Math.Nat.{mul-le-mul_left, mul-le-mul_right}
use Rattle.lists.specs.Sums.{sum_below}
use Rattle.curve.specs.CurveValue.{Curve}
use Rattle.curve.specs.Curves.{alpha_of}
use Rattle.curve.specs.declared.prefix.Stair.{Stair}
use Rattle.curve.specs.Stairs.{IsStair}
use Rattle.curve.specs.Validity.{IsCurve}
use Rattle.curve.proofs.CurveFacts.{alpha_bound}
use Rattle.curve.proofs.RiseFacts.{alpha_at}
use Rattle.task_sheet.specs.declared.tasks.Task.{Task}
use Rattle.task_sheet.specs.SheetParts.{SheetParts}
use Rattle.task_sheet.specs.Sheets.{IsTask, IsValidSheet, task_at}
use Rattle.policy.specs.declared.keys.Cap.{Cap}
use Rattle.policy.specs.declared.keys.Cap.TheVariants.{At}
use Rattle.policy.specs.Keys.{not_below_zero}
use Rattle.policy.specs.PolicyMeaning.{PolicyMeaning}
use Rattle.demand.specs.Demand.{capped_count, class_part_of, other_of}
use Rattle.solver.specs.declared.load.Line.{Line}
use Rattle.solver.specs.Loads.{scale, IsBehind, HasRisen, whole_of, IsUnderAt, IsUnderTo}
use Rattle.solver.specs.Groups.{is_in, rate_of, rise_in, asked_in, asked_out, CountsWhole, AreWhole, IsGroup, IsRest, HaveHorizon}
use Rattle.solver.specs.Groups.{IsBehindAt, IsBehindTogether, IsBehindBelow, IsBehindBut, RisesBy, AskSo}
use Rattle.solver.specs.Groups.{IsBesideAt, IsBesideTo, IsBare, lowered}
use Rattle.solver.proofs.LoadFacts.{div_le, div_up, top_is, curve_line, parts_line, flat}

-- after whole horizons a curve goes on as from its begin
alpha_shift : (c : Curve) → IsCurve c → (q y : ℕ) → alpha_of c (c.horizon * q + y) ≡ q * alpha_of c c.horizon + alpha_of c y
alpha_shift c ok q y =
    let positive : 0 < c.horizon = ok.horizon_low in
    let a = y / c.horizon in
    let b = y % c.horizon in
    let inside : b ≤ c.horizon = omega arith in
    let later : c.horizon * q + y ≡ (q + a) * c.horizon + b = omega arith in
    let here : y ≡ a * c.horizon + b = omega arith in
    omega (
      arith,
      ap (alpha_of c) later,
      ap (alpha_of c) here,
      alpha_at c ok (q + a) b inside,
      alpha_at c ok a b inside,
      ap (λ (w : ℕ). q * w) (top_is c ok),
    )

-- sums of what rises by a part
sum_shift : (f g k : ℕ → ℕ) (q n : ℕ) → ((o : ℕ) → o < n → f o ≡ g o + q * k o) → sum_below f n ≡ sum_below g n + q * sum_below k n
sum_shift f g k q zero h = omega arith
sum_shift f g k q (suc n) h = omega (arith, sum_shift f g k q n (λ o b. h o (omega (arith, b))), h n (omega arith))

sum_shift_le : (f g k : ℕ → ℕ) (q n : ℕ) → ((o : ℕ) → o < n → f o ≤ g o + q * k o) → sum_below f n ≤ sum_below g n + q * sum_below k n
sum_shift_le f g k q zero h = omega arith
sum_shift_le f g k q (suc n) h = omega (arith, sum_shift_le f g k q n (λ o b. h o (omega (arith, b))), h n (omega arith))

sum_join : (f g k : ℕ → ℕ) (n : ℕ) → ((o : ℕ) → o < n → f o ≡ g o + k o) → sum_below f n ≡ sum_below g n + sum_below k n
sum_join f g k zero h = omega arith
sum_join f g k (suc n) h = omega (arith, sum_join f g k n (λ o b. h o (omega (arith, b))), h n (omega arith))

sum_none : (f : ℕ → ℕ) (n : ℕ) → ((o : ℕ) → o < n → f o ≡ 0) → sum_below f n ≡ 0
sum_none f zero h = refl
sum_none f (suc n) h = omega (arith, sum_none f n (λ o b. h o (omega (arith, b))), h n (omega arith))

-- what a marked task asks for within its horizon
abbrev load_in : SheetParts → List Bool → ℕ → ℕ
load_in sheet marks o = cond (is_in marks o) ((task_at sheet o).cost * alpha_of (task_at sheet o).curve (task_at sheet o).curve.horizon) 0

rate_le : (t : Task) → IsTask t → t.curve.horizon * rate_of t ≤ t.cost * alpha_of t.curve t.curve.horizon * scale
rate_le t is = div_le (t.cost * alpha_of t.curve t.curve.horizon * scale) t.curve.horizon is.curve.horizon_low

module _ (sheet : SheetParts) (marks : List Bool) where
  rise_shift : (common q r o : ℕ) → IsTask (task_at sheet o) → (is_in marks o ≡ true → (task_at sheet o).curve.horizon ≡ common) →
      rise_in sheet marks (common * q + r) o ≤ rise_in sheet marks r o + (q * scale) * load_in sheet marks o
  rise_shift common q r o is alike = elim (cases_Bool (is_in marks o)) [
    | inr out ↦ rw out (omega arith)
    | inl e ↦
        let t = task_at sheet o in
        let h : t.curve.horizon ≡ common = alike e in
        rw e (omega (arith, mul-le-mul_left q (rate_le t is), ap (λ (w : ℕ). w * (q * rate_of t)) h))
  ]

  asked_shift : (common q r o : ℕ) → IsTask (task_at sheet o) → (is_in marks o ≡ true → (task_at sheet o).curve.horizon ≡ common) →
      asked_in sheet marks (common * q + r) o ≡ asked_in sheet marks r o + q * load_in sheet marks o
  asked_shift common q r o is alike = elim (cases_Bool (is_in marks o)) [
    | inr out ↦ rw out (omega arith)
    | inl e ↦
        let t = task_at sheet o in
        let h : t.curve.horizon ≡ common = alike e in
        let shift = alpha_shift t.curve is.curve q (r + t.jitter) in
        let at : common * q + r + t.jitter ≡ t.curve.horizon * q + (r + t.jitter) = omega (arith, ap (λ (w : ℕ). w * q) h) in
        let now : alpha_of t.curve (common * q + r + t.jitter) ≡ q * alpha_of t.curve t.curve.horizon + alpha_of t.curve (r + t.jitter) = ap (alpha_of t.curve) at ∙ shift in
        rw e (omega (arith, ap (λ (w : ℕ). t.cost * w) now))
  ]

  -- further on too, since each further horizon rises along the lines
  pub behind_all_along : (common lag : ℕ) → IsValidSheet sheet → 1 ≤ common → HaveHorizon sheet common marks (length sheet.tasks) →
      IsBehindBelow sheet marks (length sheet.tasks) common lag → IsBehindTogether sheet marks (length sheet.tasks) lag
  behind_all_along common lag valid some alike behind l =
      let n = length sheet.tasks in
      let q = l / common in
      let r = l % common in
      let inside : r < common = omega (arith, some) in
      let split : l ≡ common * q + r = omega arith in
      let rise = sum_shift_le (rise_in sheet marks (common * q + r)) (rise_in sheet marks r) (load_in sheet marks) (q * scale) n
      (λ o b. rise_shift common q r o (valid.each o b) (alike o b)) in
      let asked = sum_shift (asked_in sheet marks (common * q + r)) (asked_in sheet marks r) (load_in sheet marks) q n
      (λ o b. asked_shift common q r o (valid.each o b) (alike o b)) in
      let there : IsBehindAt sheet marks n lag (common * q + r) = omega (arith, behind r inside, rise, asked) in
      subst (λ (w : ℕ). IsBehindAt sheet marks n lag w) (sym split) there

  -- on a stretch the tasks are the furthest below their lines in the last window
  pub behind_next : (n begun lag until last line asked fixed rate more : ℕ) → RisesBy sheet marks n fixed rate → AskSo sheet marks n begun until asked →
      last ≡ until - 1 → line ≡ (rate * last + fixed + scale - 1) / scale → more ≡ max lag (line - asked) →
      IsBehindBelow sheet marks n begun lag → IsBehindBelow sheet marks n until more
  behind_next n begun lag until last line asked fixed rate more rises asks at e greatest before r below = elim (cases_lt r begun) [
    | inl early ↦ omega (arith, before r early, greatest)
    | inr late ↦
        let now : sum_below (asked_in sheet marks r) n ≡ asked = asks r late below in
        let near : line ≤ asked + more = omega (arith, greatest) in
        let up : rate * last + fixed ≤ scale * line = omega (arith, div_up (rate * last + fixed) scale (omega arith), ap (λ (w : ℕ). scale * w) e) in
        let earlier : rate * r ≤ rate * last = mul-le-mul_left rate (omega (arith, at, below)) in
        omega (arith, rises r, earlier, up, near, now)
  ]

  pub behind_to : (n begun common lag : ℕ) → common ≤ begun → IsBehindBelow sheet marks n begun lag → IsBehindBelow sheet marks n common lag
  behind_to n begun common lag past behind l below = behind l (omega (arith, past, below))

-- one more task
module _ (sheet : SheetParts) (marks : List Bool) (n : ℕ) where
  pub rises_more : (fixed rate own more far : ℕ) → ((l : ℕ) → rise_in sheet marks l n ≡ own * (l + (task_at sheet n).jitter)) →
      more ≡ fixed + own * (task_at sheet n).jitter → far ≡ rate + own → RisesBy sheet marks n fixed rate → RisesBy sheet marks (n + 1) more far
  rises_more fixed rate own more far rises first up before = rw add-one (λ l. omega (arith, before l, rises l, first, ap (λ (w : ℕ). w * l) up))

  pub asks_more : (d until asked next own total : ℕ) → next ≤ until → total ≡ asked + own → AskSo sheet marks n d until asked →
      ((l : ℕ) → d ≤ l → l < next → asked_in sheet marks l n ≡ own) → AskSo sheet marks (n + 1) d next total
  asks_more d until asked next own total short e before here = rw add-one (λ l from to. omega (arith, before l from (omega (arith, to, short)), here l from to, e))

  pub lags_more : (lag own more : ℕ) → more ≡ lag + own → IsBehindTogether sheet marks n lag →
      ((l : ℕ) → rise_in sheet marks l n ≤ (asked_in sheet marks l n + own) * scale) → IsBehindTogether sheet marks (n + 1) more
  lags_more lag own more e before here = rw add-one (λ l. omega (arith, before l, here l, e))

pub no_rate_here : (sheet : SheetParts) (marks : List Bool) (o l : ℕ) → is_in marks o ≡ false → rise_in sheet marks l o ≡ 0
no_rate_here sheet marks o l out = rw out refl

-- the stair of a task
pub stair_high : (t : Task) → IsTask t → (d : ℕ) (s : Stair) → d ≤ 2000000000 → IsStair t.curve s d → t.cost * s.value ≤ 2000000001000000000000000
stair_high t is d s short stair =
    let here = stair.flat d stair.begun stair.open_yet in
    let high = alpha_bound t.curve is.curve d in
    let some : s.value ≤ 2000000001000000 = omega (arith, here, high, short) in
    omega (arith, mul-le-mul_left t.cost some, mul-le-mul_right 2000000001000000 is.cost_high)

pub stair_of_high : (sheet : SheetParts) (o : ℕ) (t : Task) → t ≡ task_at sheet o → IsTask (task_at sheet o) → (d : ℕ) (s : Stair) → d ≤ 2000000000 →
    IsStair t.curve s d → t.cost * s.value ≤ 2000000001000000000000000
stair_of_high sheet o t e is d s short stair = stair_high t (subst (λ (w : Task). IsTask w) (sym e) is) d s short stair

-- a task alone
pub single_behind : (sheet : SheetParts) (marks : List Bool) (o lag : ℕ) → IsTask (task_at sheet o) → IsBehind (task_at sheet o).curve (task_at sheet o).curve.horizon lag →
    (l : ℕ) → rise_in sheet marks l o ≤ (asked_in sheet marks l o + (task_at sheet o).cost * lag) * scale
single_behind sheet marks o lag is behind l = elim (cases_Bool (is_in marks o)) [
  | inr out ↦ rw out (omega arith)
  | inl marked ↦
      let t = task_at sheet o in
      let y = l + t.jitter in
      let above = parts_line t.curve.horizon t.cost (alpha_of t.curve t.curve.horizon) y (alpha_of t.curve y) lag (rate_of t) is.curve.horizon_low refl
      (curve_line t.curve is.curve lag behind y) in
      rw marked (omega (arith, above))
]

pub single_of : (sheet : SheetParts) (marks : List Bool) (o lag : ℕ) (t : Task) → t ≡ task_at sheet o → IsTask (task_at sheet o) →
    IsBehind t.curve t.curve.horizon lag → (l : ℕ) → rise_in sheet marks l o ≤ (asked_in sheet marks l o + t.cost * lag) * scale
single_of sheet marks o lag t e is behind l =
    let own = subst (λ (w : Task). IsBehind w.curve w.curve.horizon lag) e behind in
    subst (λ (w : Task). rise_in sheet marks l o ≤ (asked_in sheet marks l o + w.cost * lag) * scale) (sym e) (single_behind sheet marks o lag is own l)

-- marks that are set one after the other
pub set_next : (P : ℕ → Bool → Type 0) (n : ℕ) (marks : List Bool) (mark : Bool) → n < length marks → P n mark → ((o : ℕ) → o < n → P o (is_in marks o)) →
    (o : ℕ) → o < n + 1 → P o (is_in (slice_set marks n mark) o)
set_next P n marks mark short here before o b = elim (cases_eq o n) [
  | inl e ↦
      let own : get_or (slice_set marks n mark) n false ≡ mark = get_or-set_same marks n mark false short in
      subst (λ (w : ℕ). P w (is_in (slice_set marks n mark) w)) (sym e) (subst (P n) (sym own) here)
  | inr ne ↦ subst (P o) (sym (get_or-set_other marks n o mark false ne)) (before o (omega (arith, b, ne)))
]

and_none : (b : Bool) → (b && false) ≡ false
and_none true = refl
and_none false = refl

pub one_horizon : (sheet : SheetParts) (common n : ℕ) (marks group : List Bool) → IsGroup sheet common marks group n → HaveHorizon sheet common group n
one_horizon sheet common n marks group ours o b is =
    eqb-true (task_at sheet o).curve.horizon common (and_parts ((task_at sheet o).curve.horizon == common) (is_in marks o) (sym (ours o b) ∙ is)).0

-- the marked tasks of one horizon, and those of other horizons
module _ (sheet : SheetParts) (common n : ℕ) (marks group rest : List Bool) (ours : IsGroup sheet common marks group n) (theirs : IsRest sheet common marks rest n) where
  split_by : (f : ℕ → ℕ) (o : ℕ) → o < n → cond (is_in marks o) (f o) 0 ≡ cond (is_in group o) (f o) 0 + cond (is_in rest o) (f o) 0
  split_by f o b = elim (cases_Bool ((task_at sheet o).curve.horizon == common)) [
    | inl e ↦
        let inside : is_in group o ≡ is_in marks o = ours o b ∙ ap (λ (w : Bool). w && is_in marks o) e in
        let outside : is_in rest o ≡ false = theirs o b ∙ ap (λ (w : Bool). not w && is_in marks o) e in
        rw (inside, outside) (omega arith)
    | inr e ↦
        let inside : is_in group o ≡ false = ours o b ∙ ap (λ (w : Bool). w && is_in marks o) e in
        let outside : is_in rest o ≡ is_in marks o = theirs o b ∙ ap (λ (w : Bool). not w && is_in marks o) e in
        rw (inside, outside) (omega arith)
  ]

  pub behind_but_more : (all : List Bool) (lag own more : ℕ) → more ≡ lag + own → IsBehindBut sheet all marks n lag → IsBehindTogether sheet group n own →
      IsBehindBut sheet all rest n more
  behind_but_more all lag own more e before here l =
      let rise = sum_join (rise_in sheet marks l) (rise_in sheet group l) (rise_in sheet rest l) n
      (λ o b. split_by (λ k. rate_of (task_at sheet k) * (l + (task_at sheet k).jitter)) o b) in
      let asked = sum_join (asked_in sheet marks l) (asked_in sheet group l) (asked_in sheet rest l) n (λ o b. split_by (λ k. whole_of (task_at sheet k) l) o b) in
      omega (arith, before l, here l, rise, asked, e)

  -- what was left out before is left out after, and so is each task of the horizon
  pub left_more : (k : ℕ) → k < n → (task_at sheet k).curve.horizon ≡ common → ((o : ℕ) → o < k → is_in marks o ≡ false) → (o : ℕ) → o < k + 1 → is_in rest o ≡ false
  left_more k in_range e before o b = elim (cases_lt o k) [
    | inl early ↦
        theirs o (omega (arith, early, in_range)) ∙
        (ap (λ (w : Bool). not ((task_at sheet o).curve.horizon == common) && w) (before o early) ∙ and_none (not ((task_at sheet o).curve.horizon == common)))
    | inr late ↦
        let same : o ≡ k = omega (arith, b, late) in
        let at : (task_at sheet o).curve.horizon ≡ common = subst (λ (w : ℕ). (task_at sheet w).curve.horizon ≡ common) (sym same) e in
        theirs o (omega (arith, b, in_range)) ∙ ap (λ (w : Bool). not w && is_in marks o) (eq-eqb (task_at sheet o).curve.horizon common at)
  ]

-- a task that was left out already leaves out no other
pub left_as_it_is : (left : List Bool) (k : ℕ) → ((o : ℕ) → o < k → is_in left o ≡ false) → is_in left k ≡ false → (o : ℕ) → o < k + 1 → is_in left o ≡ false
left_as_it_is left k before here o b = elim (cases_lt o k) [
  | inl early ↦ before o early
  | inr late ↦
      let same : o ≡ k = omega (arith, b, late) in
      subst (λ (w : ℕ). is_in left w ≡ false) (sym same) here
]

pub behind_but_first : (sheet : SheetParts) (marks : List Bool) (n : ℕ) → IsBehindBut sheet marks marks n 0
behind_but_first sheet marks n l = omega arith

-- where none is left
pub behind_but_last : (sheet : SheetParts) (marks left : List Bool) (n lag : ℕ) → ((o : ℕ) → o < n → is_in left o ≡ false) → IsBehindBut sheet marks left n lag →
    IsBehindTogether sheet marks n lag
behind_but_last sheet marks left n lag out behind l =
    let none = sum_none (rise_in sheet left l) n (λ o b. no_rate_here sheet left o l (out o b)) in
    omega (arith, behind l, none)

-- a marked task, and another one
module _ (part : ℕ → ℕ → ℕ) (sheet : SheetParts) (marks : List Bool) (cut o x : ℕ) where
  pub beside_in : (line : Line) (t : Task) → t ≡ task_at sheet o → is_in marks o ≡ true → CountsWhole part sheet cut o → IsBare t x line →
      IsBesideAt part sheet marks cut o x line
  beside_in line t e is whole bare l from to short =
      let own = subst (λ (w : Task). IsBare w x line) e bare in
      let rise : line.fixed + line.rate * l ≡ rate_of (task_at sheet o) * (l + (task_at sheet o).jitter) =
      omega (arith, own.fixed, ap (λ (w : ℕ). w * (l + (task_at sheet o).jitter)) own.rate) in
      rw is (omega (arith, rise, own.loss, whole x (omega (arith, from, short))))

  pub beside_out : (line : Line) → is_in marks o ≡ false → IsUnderAt part o x line → IsBesideAt part sheet marks cut o x line
  beside_out line out under l from to short = rw out (omega (arith, under l from to))

pub beside_none : (part : ℕ → ℕ → ℕ) (sheet : SheetParts) (marks : List Bool) (cut x : ℕ) → IsBesideTo part sheet marks cut 0 x flat
beside_none part sheet marks cut x l from to short = omega arith

pub beside_more : (part : ℕ → ℕ → ℕ) (sheet : SheetParts) (marks : List Bool) (cut n x : ℕ) (line more both : Line) →
    both.fixed ≡ line.fixed + more.fixed → both.rate ≡ line.rate + more.rate → both.loss ≡ line.loss + more.loss → both.cut ≤ line.cut → both.cut ≤ more.cut →
    IsBesideTo part sheet marks cut n x line → IsBesideAt part sheet marks cut n x more → IsBesideTo part sheet marks cut (n + 1) x both
beside_more part sheet marks cut n x line more both fixed rate loss low lower before here =
    rw add-one (λ l from to short.
    omega (
      arith,
      before l from (omega (arith, to, low)) short,
      here l from (omega (arith, to, lower)) short,
      fixed,
      ap (λ (w : ℕ). w * l) rate,
      loss,
    ))

pub beside_all : (part : ℕ → ℕ → ℕ) (sheet : SheetParts) (marks : List Bool) (cut n all x : ℕ) (line : Line) → n ≡ all →
    IsBesideTo part sheet marks cut n x line → IsBesideTo part sheet marks cut all x line
beside_all part sheet marks cut n all x line e = subst (λ (w : ℕ). IsBesideTo part sheet marks cut w x line) e

-- what marked tasks ask for and the rest are all
asked_join : (part : ℕ → ℕ → ℕ) (sheet : SheetParts) (cut : ℕ) (marks : List Bool) (l o : ℕ) → l ≤ cut → (is_in marks o ≡ true → CountsWhole part sheet cut o) →
    part l o ≡ asked_out part marks l o + asked_in sheet marks l o
asked_join part sheet cut marks l o short whole = elim (cases_Bool (is_in marks o)) [
  | inl e ↦ rw e (omega (arith, whole e l short))
  | inr out ↦ rw out (omega arith)
]

-- with their lag the line lies below all
pub under_together : (part : ℕ → ℕ → ℕ) (sheet : SheetParts) (marks : List Bool) (cut n lag x : ℕ) (line : Line) → line.cut ≤ cut →
    AreWhole part sheet cut marks n → IsBehindTogether sheet marks n lag →
    IsBesideTo part sheet marks cut n x line → IsUnderTo part n x (lowered line lag)
under_together part sheet marks cut n lag x line within whole behind beside l from to =
    let short : l ≤ cut = omega (arith, to, within) in
    let all = sum_join (part l) (asked_out part marks l) (asked_in sheet marks l) n (λ o b. asked_join part sheet cut marks l o short (whole o b)) in
    omega (arith, beside l from to short, behind l, all)

-- a lower line, from less
pub crossed_lower : (line : Line) (lag wanted l now : ℕ) → lag ≤ wanted → HasRisen (lowered line lag) l wanted now → HasRisen line l (wanted - lag) now
crossed_lower line lag wanted l now le risen = omega (arith, risen, le)

-- of which tasks all jobs count
pub class_whole : (p : PolicyMeaning) (sheet : SheetParts) (i o cut : ℕ) → p.class sheet i o ≡ true → CountsWhole (class_part_of p sheet i) sheet cut o
class_whole p sheet i o cut is l short = ap (λ (b : Bool). cond b (whole_of (task_at sheet o) l) 0) is

pub other_whole : (p : PolicyMeaning) (sheet : SheetParts) (i a o cut : ℕ) (cap : Cap) → o ≢ i → cap ≡ p.cap sheet i o a →
    ((l : ℕ) → l ≤ cut → capped_count (task_at sheet o).curve (task_at sheet o).jitter cap l ≡ alpha_of (task_at sheet o).curve (l + (task_at sheet o).jitter)) →
    CountsWhole (other_of p sheet i a) sheet cut o
other_whole p sheet i a o cut cap ne e all l short =
    let t = task_at sheet o in
    let count : t.cost * capped_count t.curve t.jitter (p.cap sheet i o a) l ≡ whole_of t l =
    subst (λ (w : Cap). t.cost * capped_count t.curve t.jitter w l ≡ whole_of t l) e (ap (λ (w : ℕ). t.cost * w) (all l short)) in
    ap (λ (b : Bool). cond b 0 (t.cost * capped_count t.curve t.jitter (p.cap sheet i o a) l)) (ne_eqb o i ne) ∙ count

pub count_capped : (t : Task) (c : ℤ) (cut l : ℕ) → cut + t.jitter ≤ not_below_zero c → l ≤ cut → capped_count t.curve t.jitter (At c) l ≡ alpha_of t.curve (l + t.jitter)
count_capped t c cut l within short = ap (alpha_of t.curve) (omega (arith, within, short))
