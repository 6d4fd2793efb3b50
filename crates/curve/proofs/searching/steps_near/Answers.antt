use Rattle.std.proofs.Common.{arith}
use Rattle.curve.proofs.CurveFacts.{rises_from_test}
use Rattle.curve.proofs.StairFacts.{split_here}
use Rattle.curve.proofs.searching.steps_near.Goals as goal
use Rattle.curve.proofs.searching.steps_near.Goals.{else-guess-steps-2-via-then-guess-steps-2+else-steps-guess-2, else-guess-steps-2-via-else-guess-steps-2}

pub returns : goal.returns
returns c = split_here c.args.steps.now c.args.t c.args.guess (record { time = 0; value = 0 })
    (rises_from_test 0 0 c.args.steps.now c.requires) c.if-guess-eq0.false c.if-guess-steps.false c.if-steps-guess.false
    (λ some. elim c.else-guess-steps-2.branch [
      | else-guess-steps-2-via-then-guess-steps-2+else-steps-guess-2 w ↦ w.if-steps-guess-2.false
      | else-guess-steps-2-via-else-guess-steps-2 w ↦ absurd (omega (arith, some, w.if-guess-steps-2.false))
    ])
