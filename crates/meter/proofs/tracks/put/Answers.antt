use Rattle.std.proofs.Common.{◌≡◌, arith}
use Rattle.task_sheet.specs.Sheets.{task_at}
use Rattle.meter.specs.Places.{place_of, asked_of}
use Rattle.meter.proofs.PlaceFacts.{small, sum_high, asked_le, sum_put}
use Rattle.meter.proofs.tracks.put.Goals as goal

pub part-from-requires-clause-small : goal.part-from-requires-clause-small
part-from-requires-clause-small g c =
    small (task_at c.args.sheet.now c.args.o) (c.len-valid.ensures.valid.each c.args.o c.requires.o)
    (place_of c.args.places.now c.args.o) (c.requires.near.each c.args.o c.requires.o)

pub overflow_add-whole : goal.overflow_add-whole
overflow_add-whole g c = omega (
  arith,
  c.part-to.ensures.bound,
  c.requires.sum,
  sum_high g.P.Policy.meaning c.args.sheet.now c.len-valid.ensures.valid c.args.i c.args.places.now c.requires.near,
)

pub overflow_sub-whole : goal.overflow_sub-whole
overflow_sub-whole g c =
    let was : c.part-from.result ≡ asked_of g.P.Policy.meaning c.args.sheet.now c.args.i c.args.places.now c.args.o = c.part-from.ensures.exact in
    omega (arith, was, c.requires.sum, asked_le g.P.Policy.meaning c.args.sheet.now c.args.i c.args.places.now c.args.o c.requires.o)

pub returns-clause-sum : goal.returns-clause-sum
returns-clause-sum g c =
    let p = g.P.Policy.meaning in
    let sheet = c.args.sheet.now in
    let was : c.part-from.result ≡ asked_of p sheet c.args.i c.args.places.now c.args.o = c.part-from.ensures.exact in
    omega (
      arith,
      was,
      c.part-to.ensures.exact,
      c.requires.sum,
      asked_le p sheet c.args.i c.args.places.now c.args.o c.requires.o,
      sum_put p sheet c.args.i c.args.places.now c.requires.near c.args.o c.requires.o c.args.place,
    )
