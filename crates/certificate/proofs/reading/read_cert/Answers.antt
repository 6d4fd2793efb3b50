use Rattle.std.proofs.Common.{◌≡◌, ◌+◌, ◌-◌, ◌++◌, [], List, ℕ, length, take, drop, sym, ap, ◌∙◌, arith, length-drop}
use Rattle.std.proofs.lemmas.List.{take_all, take_rest}
use Rattle.certificate.specs.Parsing.{add_step}
use Rattle.certificate.proofs.FeedFacts.{line_few, line_on}
use Rattle.certificate.proofs.StepFacts.{so_far_next, found_all, add_step-quiet}
use Rattle.certificate.proofs.ReadingFacts.{cert_of_text-reading, refused_all}
use Rattle.certificate.proofs.reading.read_cert.Goals as goal

pub loop-at-preserved : goal.loop-at-preserved
loop-at-preserved c =
    let bs = c.args.bytes.now in
    let i = c.loop-at.at in
    let b = take i bs in
    let rest = take (length bs - i) (drop i bs) in
    let n = c.feed_line-len.result.0 in
    let next : take (i + n) bs ≡ b ++ take n rest = line_on bs i n ∙ ap (λ (t : List ℕ). b ++ take n t) (sym (take_rest bs i)) in
    record {
      within = omega (arith, c.feed_line-len.ensures.first.within, ap length (take_rest bs i), length-drop i bs);
      stands = rw next (c.feed_line-len.ensures.stands b c.loop-at.invariant.stands);
      so_far = so_far_next add_step add_step-quiet [] c.loop-at.entries.items c.add_step.new.entries.items
          c.feed_line-len.result.1 b (take (i + n) bs) (take n rest) next
          (line_few rest n c.feed_line-len.ensures.first) c.in_ok-add_step.ensures c.loop-at.invariant.so_far
          (λ more cert p. c.feed_line-len.ensures.says b more cert c.loop-at.invariant.stands p);
    }

pub returns-then-is_over-clause-found : goal.returns-then-is_over-clause-found
returns-then-is_over-clause-found c =
    let bs = c.args.bytes.now in
    let b = take c.loop-at.at bs in
    let p = (c.is_over.ensures b c.loop-at.invariant.stands).0 c.if-is_over.true in
    rw c.new.ensures (found_all c.version.result c.loop-at.entries.items b bs p.0 (take_all c.loop-at.at bs (omega arith)) p.1
    (c.version.ensures b p.0 c.loop-at.invariant.stands p.1) c.loop-at.invariant.so_far)

pub returns-then-is_over-clause-gives : goal.returns-then-is_over-clause-gives
returns-then-is_over-clause-gives c = cert_of_text-reading _ _ (returns-then-is_over-clause-found c)

pub returns-else-is_over-clause-gives : goal.returns-else-is_over-clause-gives
returns-else-is_over-clause-gives c =
    let bs = c.args.bytes.now in
    let b = take c.loop-at.at bs in
    let stands = c.loop-at.invariant.stands in
    λ no_memory. cert_of_text-reading bs _
    (refused_all b bs c.is_over.result c.line.result (take_all c.loop-at.at bs (omega arith))
    (c.is_over.ensures b stands) c.if-is_over.false (c.line.ensures b stands))
