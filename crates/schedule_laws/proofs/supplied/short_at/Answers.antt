use Rattle.std.proofs.Common.{◌≡◌, ℕ, ◌-◌, ◌<◌, Bool, true, false, cond, sym, ◌∙◌, ap, subst, inl, inr, arith, below_more}
use Rattle.std.proofs.lemmas.Bool.{cases_lt, lt-ltb, le-ltb}
use Rattle.run_model.specs.Runs.{tick_at, is_on, ticks_in}
use Rattle.run_model.proofs.ServiceFacts.{ticks_in_none}
use Rattle.schedule_laws.proofs.SupplyFacts.{window_more, short_by, never_short}
use Rattle.schedule_laws.proofs.supplied.short_at.Goals as goal
use Rattle.schedule_laws.proofs.supplied.short_at.Goals.{then-is_on, else-is_on}

pub loop-d-init : goal.loop-d-init
loop-d-init g c = record {
  counted = omega (arith, ticks_in_none is_on c.args.run.now (c.args.u - 0));
  few = omega arith;
  free = λ e below. absurd (omega arith);
}

pub returns-then-supplied-sbf : goal.returns-then-supplied-sbf
returns-then-supplied-sbf g c = sym (short_by (g.S.Supply.sbf c.args.supply.now) c.args.run.now c.args.u c.loop-d.d (omega arith) (omega arith))

pub returns : goal.returns
returns g c =
    let sbf = g.S.Supply.sbf c.args.supply.now in
    let run = c.args.run.now in
    let at_end : c.loop-d.d ≡ c.args.u = omega arith in
    let last : ticks_in is_on run (c.args.u - c.args.u) c.args.u ≡ c.loop-d.supplied = rw at_end at (sym c.loop-d.invariant.counted) in
    elim (cases_lt c.loop-d.supplied c.sbf-2.result) [
      | inl few ↦ lt-ltb _ _ few ∙ sym (short_by sbf run c.args.u c.args.u (omega arith) (omega (arith, last, c.sbf-2.ensures)))
      | inr enough ↦ le-ltb _ _ enough ∙ sym (never_short sbf run c.args.u (λ d h few. elim (cases_lt d c.args.u) [
        | inl l ↦ c.loop-d.invariant.free d (omega arith) few
        | inr l ↦
            let e : d ≡ c.args.u = omega arith in
            let whole = subst (λ w. ticks_in is_on run (c.args.u - w) w < sbf w) e few in
            omega (arith, whole, last, c.sbf-2.ensures)
      ]))
    ]

pub loop-d-preserved : goal.loop-d-preserved
loop-d-preserved g c =
    let longer = window_more is_on c.args.run.now c.args.u c.loop-d.d (omega arith) (omega arith) in
    let last : ticks_in is_on c.args.run.now (c.args.u - c.loop-d.d) c.loop-d.d < g.S.Supply.sbf c.args.supply.now c.loop-d.d → ⊥ = λ short. omega arith in
    elim c.if-is_on.branch [
      | then-is_on w ↦
          let on : is_on (tick_at c.args.run.now (c.args.u - c.loop-d.d - 1)) ≡ true = cc in
          record {
            counted = omega (arith, ap (λ (b : Bool). cond {A = ℕ} b 1 0) on);
            few = omega arith;
            free = below_more _ _ c.loop-d.invariant.free last;
          }
      | else-is_on w ↦
          let off : is_on (tick_at c.args.run.now (c.args.u - c.loop-d.d - 1)) ≡ false = cc in
          record {
            counted = omega (arith, ap (λ (b : Bool). cond {A = ℕ} b 1 0) off);
            few = omega arith;
            free = below_more _ _ c.loop-d.invariant.free last;
          }
    ]
