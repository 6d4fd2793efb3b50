use Rattle.std.proofs.Common.{◌≡◌, ℕ, List, [], ◌∷◌, ◌++◌, length, ◌+◌, ◌-◌, ◌≤◌, ap, subst, sym, ◌∙◌, arith, Ok}
use Rattle.curve.specs.declared.prefix.Step.{Step}
use Rattle.curve.specs.CurveValue.{Curve}
use Rattle.curve.specs.Validity.{IsCurve, prefix_check_of}
use Rattle.curve.proofs.CurveFacts.{curve_passes}
use Rattle.curve_infer.specs.Traces.{IsTrace}
use Rattle.curve_infer.specs.Curves.{Respects, most_of, steps_to, inferred_curve, IsNextRise, IsLeastCurve, KeepsCurves}
use Rattle.curve_infer.proofs.InferFacts.{first_rise, inferred_valid, respected, kept, least, rises_order, steps_go, steps_stay, last_rise}
use Rattle.curve_infer.proofs.inferring.infer.Goals as goal
use Rattle.curve_infer.proofs.inferring.infer.Goals.{then-time-next+in_ok-push, else-time-next}

-- once all times were taken, all steps are there
all_steps : (trace times : List ℕ) → IsTrace trace → (h : ℕ) → 1 ≤ h → h ≤ 1000000000 → (n time : ℕ) (steps : List Step) →
    times ≡ trace → length times ≤ n → IsNextRise times (n + 1) h time → steps ≡ steps_to (most_of times) (time - 1) → steps ≡ steps_to (most_of trace) h
all_steps trace times ok h low high n time steps same all rise is =
    let valid = subst IsTrace (sym same) ok in
    let last = last_rise times valid h low high (n + 1) time (omega (arith, all)) rise in
    let at : time - 1 ≡ h = omega (arith, last) in
    is ∙ ap (steps_to (most_of times)) at ∙ ap (λ (w : List ℕ). steps_to (most_of w) h) same

pub loop-n-init : goal.loop-n-init
loop-n-init c =
    let ok = subst IsTrace (sym c.times-times.ensures.times) c.times-times.ensures.valid in
    record {
      low = omega arith;
      steps = c.new-steps.ensures.items;
      rise = first_rise c.times-times.result.now ok c.args.horizon c.requires.low c.requires.high;
    }

pub loop-n-preserved : goal.loop-n-preserved
loop-n-preserved c =
    let times = c.times-times.result.now in
    let ok = subst IsTrace (sym c.times-times.ensures.times) c.times-times.ensures.valid in
    let h = c.args.horizon in
    let l = c.loop-n in
    let next = c.next_rise-next.result in
    let at : l.n + 2 ≡ l.n + 1 + 1 = omega arith in
    let there : IsNextRise times (l.n + 1 + 1) h next = subst (λ (w : ℕ). IsNextRise times w h next) at c.next_rise-next.ensures in
    let order = rises_order times ok h c.requires.low c.requires.high (l.n + 1) l.time next l.invariant.rise there in
    elim c.if-time-next.branch [
      | then-time-next+in_ok-push w ↦
          let go = steps_go times ok h c.requires.low c.requires.high (l.n + 1) l.time next l.invariant.low l.invariant.rise there w.if-time-next.true in
          rw w.steps-is (record {
            low = omega (arith, order, l.invariant.low);
            steps = w.in_ok-push.ensures.items ∙
                ap (λ (all : List Step). all ++ (record { time = l.time; value = l.n + 1 } ∷ [])) l.invariant.steps ∙ sym go;
            rise = there;
          })
      | else-time-next w ↦
          let stay = steps_stay times ok h c.requires.low c.requires.high (l.n + 1) l.time next l.invariant.rise there
          (λ less. omega (arith, less, w.if-time-next.false)) in
          rw w.steps-is (record { low = omega (arith, order, l.invariant.low); steps = l.invariant.steps ∙ sym stay; rise = there })
    ]

pub unreachable-requires : goal.unreachable-requires
unreachable-requires c =
    let trace = c.args.trace.now in
    let ok = c.times-times.ensures.valid in
    let h = c.args.horizon in
    let same = c.times-times.ensures.times in
    let steps = all_steps trace c.times-times.result.now ok h c.requires.low c.requires.high c.loop-n.n c.loop-n.time
    c.loop-n.steps.items same c.loop-n-test.false c.loop-n.invariant.rise c.loop-n.invariant.steps in
    let valid : IsCurve (record { horizon = h; steps = c.loop-n.steps.items }) =
    subst (λ (all : List Step). IsCurve (record { horizon = h; steps = all })) (sym steps) (inferred_valid trace ok h c.requires.low c.requires.high) in
    let bad = c.in-Err.ensures.valid.1 valid in
    absurd (cc)

pub returns-clause-defined : goal.returns-clause-defined
returns-clause-defined c =
    let trace = c.args.trace.now in
    let ok = c.times-times.ensures.valid in
    let h = c.args.horizon in
    let same = c.times-times.ensures.times in
    let steps = all_steps trace c.times-times.result.now ok h c.requires.low c.requires.high c.loop-n.n c.loop-n.time
    c.loop-n.steps.items same c.loop-n-test.false c.loop-n.invariant.rise c.loop-n.invariant.steps in
    let passes : prefix_check_of h (steps_to (most_of trace) h) ≡ Ok (inferred_curve trace h) =
    curve_passes (inferred_curve trace h) (inferred_valid trace ok h c.requires.low c.requires.high) in
    let checked : Ok c.in-Ok.prefix ≡ prefix_check_of h c.loop-n.steps.items = c.in-Ok.ensures.checked in
    let both : Ok c.in-Ok.prefix ≡ Ok (inferred_curve trace h) = checked ∙ ap (prefix_check_of h) steps ∙ passes in
    cc

pub returns-clause-respected : goal.returns-clause-respected
returns-clause-respected c =
    let ok = c.times-times.ensures.valid in
    subst (λ (curve : Curve). Respects c.args.trace.now curve) (sym (returns-clause-defined c))
    (respected c.args.trace.now ok c.args.horizon c.requires.low c.requires.high)

pub returns-clause-least : goal.returns-clause-least
returns-clause-least c =
    let ok = c.times-times.ensures.valid in
    subst (λ (curve : Curve). IsLeastCurve c.args.trace.now curve) (sym (returns-clause-defined c))
    (least c.args.trace.now ok c.args.horizon c.requires.low c.requires.high)

pub returns-clause-kept : goal.returns-clause-kept
returns-clause-kept c =
    let ok = c.times-times.ensures.valid in
    subst (λ (curve : Curve). KeepsCurves c.args.trace.now curve) (sym (returns-clause-defined c))
    (kept c.args.trace.now ok c.args.horizon c.requires.low c.requires.high)
