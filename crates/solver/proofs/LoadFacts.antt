-- What the load of tasks says of how long their windows are.
use Rattle.std.proofs.Common.{◌≡◌, ℕ, suc, ◌+◌, ◌-◌, ◌*◌, ◌/◌, ◌%◌, ◌<◌, ◌≤◌, ◌≢◌, max, min}
use Rattle.std.proofs.Common.{Bool, true, cond, length, ap, add-one, ℤ, eq-eqb, subst, sym, arith, inl, inr}
use Rattle.std.proofs.lemmas.Bool.{cases_lt, ne_eqb}
use Rattle.std.proofs.lemmas.Nat.{div_below, le-div}
use Rattle.std.proofs.Math.Nat.{mul-le-mul_left, mul-le-mul_right}
use Rattle.lists.specs.Limits.{greatest_value}
use Rattle.lists.proofs.SumFacts.{cond_mono}
use Rattle.curve.specs.CurveValue.{Curve}
use Rattle.curve.specs.Curves.{value_of, alpha_of}
use Rattle.curve.specs.declared.prefix.Stair.{Stair}
use Rattle.curve.specs.Stairs.{IsStair}
use Rattle.curve.specs.Validity.{IsCurve}
use Rattle.curve.proofs.CurveFacts.{alpha_mono, alpha_zero, last_value_bound}
use Rattle.task_sheet.specs.declared.tasks.Task.{Task}
use Rattle.task_sheet.specs.SheetParts.{SheetParts}
use Rattle.task_sheet.specs.Sheets.{IsTask, IsValidSheet, task_at}
use Rattle.policy.specs.declared.keys.Cap.{Cap}
use Rattle.policy.specs.declared.keys.Cap.TheVariants.{At}
use Rattle.policy.specs.Keys.{not_below_zero}
use Rattle.policy.specs.PolicyMeaning.{PolicyMeaning}
use Rattle.preemption.specs.CutMeaning.{CutMeaning}
use Rattle.demand.specs.Demand.{capped_count, other_of, others_of, class_part_of, need_of, window_need_of}
use Rattle.demand.proofs.DemandFacts.{count_grows}
use Rattle.demand.specs.Meeting.{IsWindow, MeetsEnd}
use Rattle.solver.specs.Ends.{HasNoEndBefore}
use Rattle.solver.specs.declared.load.Line.{Line}
use Rattle.solver.specs.Loads.{scale, IsBehind, HasRisen, whole_of, IsUnderWhole, IsUnderAt, IsUnderTo, IsUnderCapped, IsSmallLine}
use Rattle.solver.specs.Loads.{IsBelowCrossing, IsBelowWindows, IsBelowEnds}

pub div_le : (q h : ℕ) → 1 ≤ h → h * (q / h) ≤ q
div_le q h some = omega arith

pub div_up : (q h : ℕ) → 0 < h → q ≤ h * ((q + h - 1) / h)
div_up q h some = omega arith

-- of a line that rises to its top at the horizon
pub line_high : (top h last line high : ℕ) → 0 < h → last < h → line ≡ (top * last + h - 1) / h → top ≤ high → line ≤ high
line_high top h last line high some short e le = elim (cases_lt top line) [
  | inr within ↦ omega (arith, within, le)
  | inl more ↦ absurd (omega (arith, div_le (top * last + h - 1) h some, ap (λ (w : ℕ). h * w) e, mul-le-mul_left h more, mul-le-mul_left top short))
]

module _ (c : Curve) (ok : IsCurve c) where
  -- within a horizon the curve is its value
  value_within : (r : ℕ) → r < c.horizon → value_of c r ≡ alpha_of c r
  unfolding alpha_of
  value_within r lt =
      let positive : 0 < c.horizon = ok.horizon_low in
      let none : r / c.horizon ≡ 0 = omega (arith, div_below r c.horizon 1 positive (omega (arith, lt))) in
      let all : r % c.horizon ≡ r = omega (arith, ap (λ (w : ℕ). c.horizon * w) none) in
      omega (arith, ap (λ (w : ℕ). w * value_of c c.horizon) none, ap (value_of c) all)

  pub top_is : alpha_of c c.horizon ≡ value_of c c.horizon
  unfolding alpha_of
  top_is =
      let positive : 0 < c.horizon = ok.horizon_low in
      let one : c.horizon / c.horizon ≡ 1 =
      omega (arith, le-div 1 c.horizon c.horizon positive (omega arith), div_below c.horizon c.horizon 2 positive (omega (arith, positive))) in
      let none : c.horizon % c.horizon ≡ 0 = omega (arith, ap (λ (w : ℕ). c.horizon * w) one) in
      omega (arith, ap (λ (w : ℕ). w * value_of c c.horizon) one, ap (value_of c) none, value_within 0 positive, alpha_zero c ok)

  pub top_high : alpha_of c c.horizon ≤ greatest_value
  unfolding value_of
  top_high = omega (arith, top_is, last_value_bound c.steps 0 c.horizon ok.fit (omega arith))

  whole_and_rest : (y : ℕ) → alpha_of c y ≡ (y / c.horizon) * alpha_of c c.horizon + alpha_of c (y % c.horizon)
  unfolding alpha_of
  whole_and_rest y =
      let positive : 0 < c.horizon = ok.horizon_low in
      let top = top_is in
      let rest = value_within (y % c.horizon) (omega arith) in
      omega (arith, ap (λ (w : ℕ). (y / c.horizon) * w) top, rest)

  -- further on too, since each further horizon rises along the line
  pub curve_line : (lag : ℕ) → IsBehind c c.horizon lag → (y : ℕ) → alpha_of c c.horizon * y ≤ c.horizon * (alpha_of c y + lag)
  curve_line lag behind y =
      let positive : 0 < c.horizon = ok.horizon_low in
      let top = alpha_of c c.horizon in
      let split : y ≡ c.horizon * (y / c.horizon) + y % c.horizon = omega arith in
      let in_horizon : y % c.horizon < c.horizon = omega arith in
      let rest = behind (y % c.horizon) in_horizon in_horizon in
      let whole = ap (λ (w : ℕ). c.horizon * w) (whole_and_rest y) in
      omega (arith, ap (λ (w : ℕ). top * w) split, whole, rest)

  -- on a stair the curve is the furthest below the line at the last length
  pub behind_more : (begun lag last line more : ℕ) (s : Stair) → IsBehind c begun lag → IsStair c s begun → last ≡ min s.until c.horizon - 1 →
      line ≡ (alpha_of c c.horizon * last + c.horizon - 1) / c.horizon → lag ≤ more → line - s.value ≤ more → IsBehind c s.until more
  behind_more begun lag last line more s before stair at e le far r below within = elim (cases_lt r begun) [
    | inl early ↦ omega (arith, before r early within, mul-le-mul_left c.horizon le)
    | inr late ↦
        let positive : 0 < c.horizon = ok.horizon_low in
        let value : alpha_of c r ≡ s.value = stair.flat r (omega (arith, late, stair.begun)) below in
        let short : r ≤ last = omega (arith, at, below, within) in
        let near : line ≤ s.value + more = omega (arith, far) in
        let up : alpha_of c c.horizon * last ≤ c.horizon * line =
        omega (arith, div_up (alpha_of c c.horizon * last) c.horizon positive, ap (λ (w : ℕ). c.horizon * w) e) in
        omega (arith, mul-le-mul_left (alpha_of c c.horizon) short, up, mul-le-mul_left c.horizon near, ap (λ (w : ℕ). c.horizon * w) value)
  ]

module _ (c : Curve) (h top last line : ℕ) (horizon : h ≡ c.horizon) (is_top : top ≡ alpha_of c c.horizon) (e : line ≡ (top * last + h - 1) / h) where
  line_is : line ≡ (alpha_of c c.horizon * last + c.horizon - 1) / c.horizon
  line_is =
      let at_horizon = subst (λ (w : ℕ). line ≡ (top * last + w - 1) / w) horizon e in
      subst (λ (w : ℕ). line ≡ (w * last + c.horizon - 1) / c.horizon) is_top at_horizon

  pub behind_next : IsCurve c → (begun lag more : ℕ) (s : Stair) → IsBehind c begun lag → IsStair c s begun → last ≡ min s.until h - 1 →
      more ≡ max lag (line - s.value) → IsBehind c s.until more
  behind_next ok begun lag more s before stair at greatest =
      behind_more c ok begun lag last line more s before stair (omega (arith, at, horizon)) line_is (omega (arith, greatest)) (omega (arith, greatest))

-- where the curve has been looked at up to its horizon
pub behind_all : (c : Curve) (h begun lag : ℕ) → h ≡ c.horizon → h ≤ begun → IsBehind c begun lag → IsBehind c c.horizon lag
behind_all c h begun lag e past behind r below within = behind r (omega (arith, e, past, within)) within

pub load_high : (t : Task) → IsTask t → t.cost * alpha_of t.curve t.curve.horizon ≤ 1000000000000000
load_high t is = omega (arith, mul-le-mul_left t.cost (top_high t.curve is.curve), mul-le-mul_right greatest_value is.cost_high)

-- a line of a curve, as many times as a job costs, in parts of a tick
pub parts_line : (h cost top y a d rate : ℕ) → 1 ≤ h → rate ≡ cost * top * scale / h → top * y ≤ h * (a + d) → rate * y ≤ (cost * a + cost * d) * scale
parts_line h cost top y a d rate some e line = elim (cases_lt ((cost * a + cost * d) * scale) (rate * y)) [
  | inr le ↦ le
  | inl more ↦
      let under : h * rate ≤ cost * top * scale = omega (arith, div_le (cost * top * scale) h some, ap (λ (w : ℕ). h * w) e) in
      absurd (omega (arith, mul-le-mul_right y under, mul-le-mul_left (cost * scale) line, mul-le-mul_left h more))
]

pub slope_under : (t : Task) → IsTask t → (x lag : ℕ) (line : Line) → line.rate ≡ t.cost * alpha_of t.curve t.curve.horizon * scale / t.curve.horizon →
    IsBehind t.curve t.curve.horizon lag → line.fixed ≡ line.rate * t.jitter →
    line.loss ≡ (t.cost * alpha_of t.curve (x + t.jitter) + t.cost * lag) * scale → IsUnderWhole t x line
slope_under t is x lag line rate behind fixed loss l from to =
    let top = alpha_of t.curve t.curve.horizon in
    let y = l + t.jitter in
    let above = curve_line t.curve is.curve lag behind y in
    let rises = parts_line t.curve.horizon t.cost top y (alpha_of t.curve y) lag line.rate is.curve.horizon_low rate above in
    omega (arith, rises, fixed, loss)

-- a line that does not rise
abbrev pub flat : Line
flat = record { fixed = 0; rate = 0; loss = 0; cut = 4000000000 }

-- what does not fall lies above it
flat_under : (part : ℕ → ℕ → ℕ) (o x : ℕ) → ((l : ℕ) → x ≤ l → part x o ≤ part l o) → IsUnderAt part o x flat
flat_under part o x grows l from to = omega (arith, grows l from)

pub under_none : (part : ℕ → ℕ → ℕ) (x : ℕ) → IsUnderTo part 0 x flat
under_none part x l from to = omega arith

module _ (part : ℕ → ℕ → ℕ) (n x : ℕ) (line more both : Line) (fixed : both.fixed ≡ line.fixed + more.fixed) (rate : both.rate ≡ line.rate + more.rate) where
  under_next : both.loss ≡ line.loss + more.loss → both.cut ≤ line.cut → both.cut ≤ more.cut →
      IsUnderTo part n x line → IsUnderAt part n x more → IsUnderTo part (suc n) x both
  under_next loss short shorter below here l from to =
      let before = below l from (omega (arith, to, short)) in
      let own = here l from (omega (arith, to, shorter)) in
      omega (arith, before, own, fixed, loss, ap (λ (w : ℕ). w * l) rate)

  pub under_more : both.loss ≡ line.loss + more.loss → both.cut ≤ line.cut → both.cut ≤ more.cut →
      IsUnderTo part n x line → IsUnderAt part n x more → IsUnderTo part (n + 1) x both
  under_more loss short shorter below here = rw add-one (under_next loss short shorter below here)

pub under_all : (part : ℕ → ℕ → ℕ) (n all x : ℕ) (line : Line) → n ≡ all → IsUnderTo part n x line → IsUnderTo part all x line
under_all part n all x line e = subst (λ (w : ℕ). IsUnderTo part w x line) e

-- so many ticks to spare, besides the loss
abbrev pub down_of : Line → ℕ → ℕ
down_of line spare = line.loss + spare * scale

-- a supply that has not caught up
pub caught_up : (line : Line) (wanted l now spare climb bound : ℕ) → down_of line spare < line.fixed + wanted * scale → line.rate < climb →
    bound ≡ (line.fixed + wanted * scale - down_of line spare) / (climb - line.rate) → now * scale ≤ climb * l + spare * scale →
    HasRisen line l wanted now → bound ≤ l
caught_up line wanted l now spare climb bound some slow e over risen = elim (cases_lt l bound) [
  | inr le ↦ le
  | inl more ↦
      let d = climb - line.rate in
      let up = line.fixed + wanted * scale - down_of line spare in
      let split : climb ≡ line.rate + d = omega (arith, slow) in
      let under = div_le up d (omega (arith, slow)) in
      absurd (omega (arith, mul-le-mul_left d more, under, ap (λ (w : ℕ). d * w) e, risen, over, ap (λ (w : ℕ). w * l) split, some))
]

pub never_up : (line : Line) (wanted l now spare climb : ℕ) → down_of line spare < line.fixed + wanted * scale → climb ≤ line.rate →
    now * scale ≤ climb * l + spare * scale → HasRisen line l wanted now → ⊥
never_up line wanted l now spare climb some fast over risen = omega (arith, some, risen, over, mul-le-mul_right l fast)

module _ (p : PolicyMeaning) (m : CutMeaning) (sheet : SheetParts) (i : ℕ) where
  -- the delay is the same in every window
  pub window_risen : (sbf : ℕ → ℕ) (x horizon wanted bound : ℕ) (line : Line) → wanted ≡ window_need_of p m sheet i x →
      IsUnderTo (class_part_of p sheet i) (length sheet.tasks) x line →
      IsBelowCrossing sbf line wanted horizon bound → IsBelowWindows p m sbf sheet i x horizon bound
  unfolding window_need_of
  window_risen sbf x horizon wanted bound line e under crossing l from to enough = crossing l to (λ below. omega (arith, under l from below, e, enough))

  pub windows_both : (sbf : ℕ → ℕ) (x horizon low high both : ℕ) → both ≤ max low high → IsBelowWindows p m sbf sheet i x horizon low →
      IsBelowWindows p m sbf sheet i x horizon high → IsBelowWindows p m sbf sheet i x horizon both
  windows_both sbf x horizon low high both le first second l from to enough = omega (arith, le, first l from to enough, second l from to enough)

  -- no window before the next jump is one
  pub windows_skipped : (sbf : ℕ → ℕ) (window next horizon bound k : ℕ) → ((j : ℕ) → j < window → IsWindow p m sbf sheet i j → ⊥) →
      ((j n : ℕ) → j ≤ n → window_need_of p m sheet i j ≤ window_need_of p m sheet i n) →
      ((d : ℕ) → window_need_of p m sheet i window ≤ sbf d → next ≤ d) → bound ≤ horizon + 1 →
      IsBelowWindows p m sbf sheet i window horizon bound → k < max next bound → IsWindow p m sbf sheet i k → ⊥
  windows_skipped sbf window next horizon bound k before grows least high below lt is = elim (cases_lt k window) [
    | inl early ↦ before k early is
    | inr late ↦
        let jump = least k (omega (arith, grows window k late, is.enough)) in
        let load = below k late (omega (arith, jump, lt, high)) is.enough in
        omega (arith, jump, load, lt)
  ]

module _ (p : PolicyMeaning) (sheet : SheetParts) (i o x : ℕ) (t : Task) (e : t ≡ task_at sheet o) where
  pub part_under : (line : Line) → p.class sheet i o ≡ true → IsUnderWhole t x line → IsUnderAt (class_part_of p sheet i) o x line
  part_under line is whole l from to =
      let task = task_at sheet o in
      let under = subst (λ (w : Task). IsUnderWhole w x line) e whole in
      omega (arith, under l from to, ap (λ (b : Bool). cond b (whole_of task x) 0) is, ap (λ (b : Bool). cond b (whole_of task l) 0) is)

  pub part_flat : IsValidSheet sheet → o < length sheet.tasks → IsUnderAt (class_part_of p sheet i) o x flat
  part_flat valid in_range =
      let task = task_at sheet o in
      flat_under (class_part_of p sheet i) o x (λ l h.
      cond_mono (p.class sheet i o) (whole_of task x) (whole_of task l)
      (mul-le-mul_left task.cost (alpha_mono task.curve (valid.each o in_range).curve (x + task.jitter) (l + task.jitter) (omega (arith, h)))))

pub capped_flat : (t : Task) → IsTask t → (cap : Cap) (x : ℕ) → IsUnderCapped t cap x flat
capped_flat t is cap x l from to = omega (arith, mul-le-mul_left t.cost (count_grows t.curve is.curve t.jitter cap x l from))

-- a line up to a window
abbrev pub line_to : Line → ℕ → Line
line_to line k = record { fixed = line.fixed; rate = line.rate; loss = line.loss; cut = k }

-- below the cap all jobs count
pub capped_under : (t : Task) (c : ℤ) (x : ℕ) (line : Line) (k : ℕ) → IsUnderWhole t x line → k ≤ line.cut →
    k + t.jitter ≤ not_below_zero c → IsUnderCapped t (At c) x (line_to line k)
capped_under t c x line k under short within l from to =
    let now : min (l + t.jitter) (not_below_zero c) ≡ l + t.jitter = omega (arith, within, to) in
    let then : min (x + t.jitter) (not_below_zero c) ≡ x + t.jitter = omega (arith, within, to, from) in
    omega (
      arith,
      under l from (omega (arith, to, short)),
      ap (λ (w : ℕ). t.cost * alpha_of t.curve w) now,
      ap (λ (w : ℕ). t.cost * alpha_of t.curve w) then,
    )

pub by_cap : (t : Task) (cap is : Cap) (x : ℕ) (line : Line) → cap ≡ is → IsUnderCapped t is x line → IsUnderCapped t cap x line
by_cap t cap is x line e = subst (λ (w : Cap). IsUnderCapped t w x line) (sym e)

pub other_own : (p : PolicyMeaning) (sheet : SheetParts) (i a o x : ℕ) → o ≡ i → IsUnderAt (other_of p sheet i a) o x flat
other_own p sheet i a o x e l from to =
    let own = eq-eqb o i e in
    let part = λ (w : ℕ). (task_at sheet o).cost * capped_count (task_at sheet o).curve (task_at sheet o).jitter (p.cap sheet i o a) w in
    omega (arith, ap (λ (b : Bool). cond b 0 (part x)) own, ap (λ (b : Bool). cond b 0 (part l)) own)

pub other_under : (p : PolicyMeaning) (sheet : SheetParts) (i a o x : ℕ) (line : Line) (t : Task) (cap : Cap) → o ≢ i → t ≡ task_at sheet o →
    cap ≡ p.cap sheet i o a → IsUnderCapped t cap x line → IsUnderAt (other_of p sheet i a) o x line
other_under p sheet i a o x line t cap ne e is capped l from to =
    let other = ne_eqb o i ne in
    let own : IsUnderCapped (task_at sheet o) cap x line = subst (λ (w : Task). IsUnderCapped w cap x line) e capped in
    let under : IsUnderCapped (task_at sheet o) (p.cap sheet i o a) x line = subst (λ (w : Cap). IsUnderCapped (task_at sheet o) w x line) is own in
    let part = λ (w : ℕ). (task_at sheet o).cost * capped_count (task_at sheet o).curve (task_at sheet o).jitter (p.cap sheet i o a) w in
    omega (arith, under l from to, ap (λ (b : Bool). cond b 0 (part x)) other, ap (λ (b : Bool). cond b 0 (part l)) other)

module _ (p : PolicyMeaning) (m : CutMeaning) (sheet : SheetParts) (i a : ℕ) where
  pub end_risen : (sbf : ℕ → ℕ) (x limit wanted bound : ℕ) (line : Line) → wanted ≡ need_of p m sheet i a x → IsUnderTo (other_of p sheet i a) (length sheet.tasks) x line →
      IsBelowCrossing sbf line wanted limit bound → IsBelowEnds p m sbf sheet i a x limit bound
  unfolding need_of others_of
  end_risen sbf x limit wanted bound line e under crossing l from to enough = crossing l to (λ below. omega (arith, under l from below, e, enough))

  pub ends_both : (sbf : ℕ → ℕ) (x limit low high both : ℕ) → both ≤ max low high → IsBelowEnds p m sbf sheet i a x limit low →
      IsBelowEnds p m sbf sheet i a x limit high → IsBelowEnds p m sbf sheet i a x limit both
  ends_both sbf x limit low high both le first second l from to enough = omega (arith, le, first l from to enough, second l from to enough)

  -- no end before the next jump serves
  pub ends_skipped : (sbf : ℕ → ℕ) (x next limit bound k : ℕ) → HasNoEndBefore p m sbf sheet i a x →
      ((j n : ℕ) → j ≤ n → need_of p m sheet i a j ≤ need_of p m sheet i a n) →
      ((d : ℕ) → need_of p m sheet i a x ≤ sbf d → next ≤ d) → bound ≤ limit + 1 → IsBelowEnds p m sbf sheet i a x limit bound → k < max next bound →
      MeetsEnd p m sbf sheet i a k → ⊥
  ends_skipped sbf x next limit bound k before grows least high below lt is = elim (cases_lt k x) [
    | inl early ↦ before k early is
    | inr late ↦
        let jump = least k (omega (arith, grows x k late, is.enough)) in
        let load = below k late (omega (arith, jump, lt, high)) is.enough in
        omega (arith, jump, load, lt)
  ]

pub small_none : (n : ℕ) → IsSmallLine n flat
small_none n = record { fixed = omega arith; rate = omega arith; loss = omega arith; cut = omega arith }

pub small_both : (n : ℕ) (line more both : Line) → IsSmallLine n line → IsSmallLine 1 more → both.fixed ≡ line.fixed + more.fixed →
    both.rate ≡ line.rate + more.rate → both.loss ≡ line.loss + more.loss → both.cut ≤ line.cut → IsSmallLine (n + 1) both
small_both n line more both small one fixed rate loss cut = record {
  fixed = omega (arith, small.fixed, one.fixed, fixed);
  rate = omega (arith, small.rate, one.rate, rate);
  loss = omega (arith, small.loss, one.loss, loss);
  cut = omega (arith, small.cut, cut);
}

pub small_more : (n k : ℕ) (line : Line) → n ≤ k → IsSmallLine n line → IsSmallLine k line
small_more n k line le is = record { fixed = omega (arith, is.fixed); rate = omega (arith, is.rate); loss = omega (arith, is.loss); cut = is.cut }

pub crossed_never : (line : Line) (wanted horizon spare climb end : ℕ) (sbf : ℕ → ℕ) → end ≤ line.cut + 1 →
    down_of line spare < line.fixed + wanted * scale → climb ≤ line.rate → ((l : ℕ) → sbf l * scale ≤ climb * l + spare * scale) →
    IsBelowCrossing sbf line wanted horizon end
crossed_never line wanted horizon spare climb end sbf short some fast over l h risen = elim (cases_lt line.cut l) [
  | inl past ↦ omega (arith, short)
  | inr at ↦ absurd (never_up line wanted l (sbf l) spare climb some fast (over l) (risen at))
]

pub crossed : (line : Line) (wanted horizon spare climb bound caught : ℕ) (sbf : ℕ → ℕ) → bound ≤ line.cut + 1 → bound ≤ caught →
    down_of line spare < line.fixed + wanted * scale → line.rate < climb →
    caught ≡ (line.fixed + wanted * scale - down_of line spare) / (climb - line.rate) →
    ((l : ℕ) → sbf l * scale ≤ climb * l + spare * scale) → IsBelowCrossing sbf line wanted horizon bound
crossed line wanted horizon spare climb bound caught sbf short le some slow e over l h risen = elim (cases_lt line.cut l) [
  | inl past ↦ omega (arith, short)
  | inr at ↦ omega (arith, le, caught_up line wanted l (sbf l) spare climb caught some slow e (over l) (risen at))
]
