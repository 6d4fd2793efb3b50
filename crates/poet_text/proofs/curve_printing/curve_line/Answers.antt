use Rattle.std.proofs.Common.{rules, ◌≡◌, ◌++◌, ◌∙◌, codes, ap, List, ℕ}
use Rattle.poet_text.specs.Printing.{counted}
use Rattle.poet_text.specs.CurvePrinting.{steps_text, curve_line}
use Rattle.poet_text.proofs.WritingFacts.{four_parts}
use Rattle.poet_text.proofs.curve_printing.curve_line.Goals as goal

pub returns : goal.returns
unfolding curve_line
returns c =
    let curve = c.args.curve.now in
    let first : c.push_counted.new.out.items ≡ counted (codes "curve = { horizon = ") curve.horizon = search rules in
    let second : c.extend_from_slice.new.self.items ≡ c.push_counted.new.out.items ++ codes ", steps = [" =
    c.in_ok-extend_from_slice.ensures.items ∙ ap (λ (x : List ℕ). c.push_counted.new.out.items ++ x) c.as_bytes.ensures.value in
    let third : c.push_steps.new.out.items ≡ c.extend_from_slice.new.self.items ++ steps_text curve.steps = search rules in
    let fourth : c.extend_from_slice-2.new.self.items ≡ c.push_steps.new.out.items ++ codes "] }\n" =
    c.in_ok-extend_from_slice-2.ensures.items ∙ ap (λ (x : List ℕ). c.push_steps.new.out.items ++ x) c.as_bytes-2.ensures.value in
    c.new.ensures ∙ four_parts _ _ _ _ _ _ _ _ first second third fourth
