use Rattle.std.proofs.Common.{◌≡◌, sym, ap, subst, ◌∙◌, arith, Ok}
use Rattle.std.proofs.lemmas.Bool.{both_ways}
use Rattle.poet_io.specs.Texts.{Parses}
use Rattle.poet_io.proofs.TextFacts.{reading_given}
use Rattle.curve_infer.specs.Traces.{IsTrace}
use Rattle.curve_infer.specs.Text.{trace_format}
use Rattle.curve_infer.specs.Parsing.{part_of, trace_of_text}
use Rattle.curve_infer.proofs.ReadOnFacts.{between, on_byte, on_line, on_refusal, on_whole, on_end}
use Rattle.curve_infer.proofs.ReadingFacts.{one_reading_each}
use Rattle.curve_infer.proofs.reading.read_trace.Goals as goal
use Rattle.curve_infer.proofs.reading.read_trace.Goals.{then-byte-eq10+in_ok-take+else-not-branch, else-byte-eq10}
use Rattle.curve_infer.proofs.reading.read_trace.Goals.{else-is_over-via-then-is_over+else-start-bytes, else-is_over-via-else-is_over}

pub returns-then-not-branch-clause-gives : goal.returns-then-not-branch-clause-gives
unfolding trace_of_text
returns-then-not-branch-clause-gives c =
    let l = c.loop-at in
    let bs = c.args.bytes.now in
    λ no_memory. sym l.invariant.rest ∙ on_refusal (part_of l.draft) (part_of c.take.new.self) l.line l.at
    (between l.start l.at bs) bs c.in_ok-take.field-0 c.loop-at-test.true c.if-byte-eq10.true c.in_ok-take.ensures c.if-not-branch.true

pub loop-at-preserved : goal.loop-at-preserved
loop-at-preserved c =
    let l = c.loop-at in
    let bs = c.args.bytes.now in
    elim c.if-byte-eq10.branch [
      | then-byte-eq10+in_ok-take+else-not-branch w ↦ rw (w.draft-is, w.start-is, w.line-is) (record {
        start = omega arith;
        line = omega (arith, l.invariant.line);
        rest = sym (on_line (part_of l.draft) (part_of w.take.new.self) l.line l.at
            (between l.start l.at bs) bs w.in_ok-take.field-0 c.loop-at-test.true w.if-byte-eq10.true w.in_ok-take.ensures
            w.if-not-branch.false) ∙ l.invariant.rest;
      })
      | else-byte-eq10 w ↦ rw (w.draft-is, w.start-is, w.line-is) (record {
        start = omega (arith, l.invariant.start);
        line = omega (arith, l.invariant.line);
        rest = sym (on_byte (part_of l.draft) l.line l.start l.at bs l.invariant.start c.loop-at-test.true w.if-byte-eq10.false) ∙ l.invariant.rest;
      })
    ]

-- the times that were read are a trace's
pub new-requires : goal.new-requires
unfolding trace_of_text
new-requires c =
    let l = c.loop-at in
    let read : trace_of_text c.args.bytes.now ≡ Ok l.draft.times.items = sym l.invariant.rest ∙
    on_whole (part_of l.draft) l.line l.at l.start c.args.bytes.now c.loop-at-test.false c.if-start-bytes.true (c.is_over.ensures.0 c.if-is_over.true) in
    let parses : Parses trace_format c.args.bytes.now l.draft.times.items =
    reading_given trace_format trace_of_text one_reading_each c.args.bytes.now (Ok l.draft.times.items) read in
    subst IsTrace (sym c.into_times.ensures) parses.within

pub returns-then-start-bytes-clause-gives : goal.returns-then-start-bytes-clause-gives
unfolding trace_of_text
returns-then-start-bytes-clause-gives c =
    let l = c.loop-at in
    sym l.invariant.rest ∙ on_whole (part_of l.draft) l.line l.at l.start c.args.bytes.now c.loop-at-test.false
    c.if-start-bytes.true (c.is_over.ensures.0 c.if-is_over.true) ∙ ap Ok (sym (c.new.ensures ∙ c.into_times.ensures))

pub returns-clause-gives : goal.returns-clause-gives
unfolding trace_of_text
returns-clause-gives c =
    let l = c.loop-at in
    λ no_memory. sym l.invariant.rest ∙
    on_end (part_of l.draft) l.line l.at l.start c.args.bytes.now l.invariant.start c.loop-at-test.false
    (omega (arith, l.invariant.start)) (λ over all. elim c.else-is_over.branch [
      | else-is_over-via-then-is_over+else-start-bytes w ↦ absurd (w.if-start-bytes.false all)
      | else-is_over-via-else-is_over w ↦ absurd (both_ways c.is_over.result w.if-is_over.false (c.is_over.ensures.1 over))
    ])

pub returns-then-not-branch-clause-refused : goal.returns-then-not-branch-clause-refused
returns-then-not-branch-clause-refused c =
    λ no_memory. reading_given trace_format trace_of_text one_reading_each c.args.bytes.now _ (returns-then-not-branch-clause-gives c no_memory)

pub returns-then-start-bytes-clause-found : goal.returns-then-start-bytes-clause-found
returns-then-start-bytes-clause-found c = reading_given trace_format trace_of_text one_reading_each c.args.bytes.now _ (returns-then-start-bytes-clause-gives c)

pub returns-clause-refused : goal.returns-clause-refused
returns-clause-refused c = λ no_memory. reading_given trace_format trace_of_text one_reading_each c.args.bytes.now _ (returns-clause-gives c no_memory)
