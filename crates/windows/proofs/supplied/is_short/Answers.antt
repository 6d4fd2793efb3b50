use Rattle.std.proofs.Common.{◌≡◌, true, false, sym, ◌∙◌, inl, inr, arith}
use Rattle.std.proofs.lemmas.Bool.{cases_Bool, both_ways, not_from_true}
use Rattle.run_model.specs.Runs.{tick_at, is_on}
use Rattle.supply.specs.Promises.{sbf_of}
use Rattle.supply.specs.Lawful.{stated_starts, stated_grows}
use Rattle.windows.proofs.TickCounts.{are_promised, on_fine, off_fine, off_short}
use Rattle.windows.proofs.supplied.is_short.Goals as goal

pub off_allowed_by-requires-clause-counts : goal.off_allowed_by-requires-clause-counts
off_allowed_by-requires-clause-counts c =
    let sheet = c.args.sheet.now in
    let valid = c.len-valid.ensures.valid in
    are_promised (sbf_of sheet.supply) (stated_starts sheet valid)
    (λ d. stated_grows sheet d valid) c.args.run.now c.args.counts.now c.args.t c.requires.counts c.requires.free (omega arith)

pub returns-then-not-is_on : goal.returns-then-not-is_on
returns-then-not-is_on c =
    let sheet = c.args.sheet.now in
    let valid = c.len-valid.ensures.valid in
    let starts = stated_starts sheet valid in
    let off : is_on (tick_at c.args.run.now c.args.t) ≡ false = cc in
    elim (cases_Bool c.off_allowed_by.result) [
      | inl may ↦
          let fine = off_fine (sbf_of sheet.supply) starts (λ d. stated_grows sheet d valid) c.args.run.now c.args.counts.now
          c.args.t c.requires.counts (c.off_allowed_by.ensures.0 may) c.requires.tick off in
          cc
      | inr not_may ↦
          let short = off_short (sbf_of sheet.supply) starts (λ d. stated_grows sheet d valid) c.args.run.now c.args.counts.now c.args.t c.requires.counts
          (λ may. both_ways c.off_allowed_by.result not_may (c.off_allowed_by.ensures.1 may)) c.requires.tick off in
          cc
    ]

pub returns-else-not-is_on : goal.returns-else-not-is_on
returns-else-not-is_on c =
    let sheet = c.args.sheet.now in
    let valid = c.len-valid.ensures.valid in
    let starts = stated_starts sheet valid in
    let on : is_on (tick_at c.args.run.now c.args.t) ≡ true = cc in
    let past = are_promised (sbf_of sheet.supply) starts (λ d. stated_grows sheet d valid) c.args.run.now c.args.counts.now
    c.args.t c.requires.counts c.requires.free (omega arith) in
    not_from_true c.is_on.result c.if-not-is_on.false ∙
    sym (on_fine (sbf_of sheet.supply) starts (λ d. stated_grows sheet d valid) c.args.run.now c.args.counts.now c.args.t
    c.requires.counts past c.requires.tick on)
