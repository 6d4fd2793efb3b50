use Rattle.std.proofs.Common.{rules, arith, length, take, ◌+◌, ◌≡◌, ◌++◌}
use Rattle.std.proofs.lemmas.List.{length-append, length-take-le}
use Rattle.poet_io.proofs.Eating.{ate_more}
use Rattle.poet_io.proofs.Logging.{read_took}
use Rattle.poet_io.proofs.Reading.{so_far_more}
use Rattle.poet_io.proofs.Pouring.{poured_nothing}
use Rattle.poet_io.proofs.eater.pour.Goals as goal

pub returns-in_err-open-clause-poured : goal.returns-in_err-open-clause-poured
returns-in_err-open-clause-poured g c =
    poured_nothing g.E.Eater.stands c.args.eater.now c.args.name.now c.args.limit _ _ _ _ _ _ _ _
    (search rules) c.in_err-open.ensures.logged (record { cause = c.in_err-open.ensures.cause.cause; closed = c.in_err-open.ensures.opened })

pub loop-count-preserved : goal.loop-count-preserved
loop-count-preserved g c =
    let inv = c.loop-count.invariant in
    let piece = take c.in_ok-n.n c.read.new.buf in
    let more : length piece ≡ c.in_ok-n.n = length-take-le c.in_ok-n.n c.read.new.buf c.in_ok-n.ensures.took.few in
    record {
      bytes = inv.bytes ++ piece;
      count = omega (arith, inv.count, more, length-append inv.bytes piece);
      within = search rules;
      files = search rules;
      is_open = search rules;
      faults = search rules;
      read = read_took _ _ _ _ _ _ _ inv.read c.in_ok-n.ensures.took.few c.if-n-eq0.false c.in_ok-n.ensures.logged;
      so_far = so_far_more _ _ _ _ _ _ _ inv.so_far c.in_ok-n.ensures.took.moved;
      eaten = ate_more _ _ _ _ _ _ inv.eaten c.eat.ensures;
    }
