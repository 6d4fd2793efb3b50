use Rattle.std.proofs.Common.{◌≡◌, ◌<◌, ◌∙◌, get_or, length, length-set, sym, arith}
use Rattle.std.proofs.lemmas.List.Elements.{All-set}
use Rattle.certificate.specs.declared.cert.Version.TheVariants.{Two}
use Rattle.certificate.specs.Text.{IsEntry, HasTermsOf}
use Rattle.conditions.specs.Filled.{entry_with, terms_of_points}
use Rattle.conditions.proofs.FilledFacts.{entries_more, entries_left}
use Rattle.conditions.proofs.filling.fill_entries.Goals as goal

pub loop-i-preserved : goal.loop-i-preserved
loop-i-preserved g c =
    let p = g.P.Policy.meaning in
    let m = g.M.Preemption.cuts in
    let sheet = c.args.sheet.now in
    let old = c.args.entries.now in
    let now = c.loop-i.entries in
    let i = c.loop-i.i in
    let e = c.fill_entry.new.entry in
    let x = c.index-entries-i.result in
    let inv = c.loop-i.invariant in
    let here : i < length old = omega (arith, c.loop-i-test.true, c.len-i-end.ensures.len, c.requires.tasks) in
    let is : e ≡ entry_with (get_or now i x) (terms_of_points p m sheet i (get_or now i x).points) = c.fill_entry.ensures.exact in
    record {
      count = length-set now i e ∙ inv.count;
      done = entries_more p m sheet old now i (inv.count ∙ sym c.requires.tasks) inv.done x e inv.left here is;
      left = entries_left old now i e inv.left;
      fits = All-set IsEntry now i e c.fill_entry.ensures.fits inv.fits;
      room = All-set (HasTermsOf Two) now i e c.fill_entry.ensures.filled inv.room;
    }
