use Rattle.std.proofs.Common.{◌≡◌, ◌∙◌, List, All, length, sym, ap, subst}
use Rattle.certificate.specs.declared.cert.Entry.{Entry}
use Rattle.certificate.specs.declared.cert.Version.TheVariants.{Two}
use Rattle.certificate.specs.Text.{HasTermsOf}
use Rattle.conditions.specs.Filled.{entries_with_terms}
use Rattle.conditions.proofs.FilledFacts.{refilled, filled_count, cert_filled, filled_within}
use Rattle.conditions.proofs.filling.fill_terms.Goals as goal

pub returns-clause-fits : goal.returns-clause-fits
returns-clause-fits g c =
    let p = g.P.Policy.meaning in
    let m = g.M.Preemption.cuts in
    let sheet = c.args.sheet.now in
    let cert = c.args.cert.now in
    let now = c.fill_entries.new.entries in
    let exact : now ≡ entries_with_terms p m sheet 0 cert.entries = c.fill_entries.ensures.exact ∙ ap (entries_with_terms p m sheet 0) c.as_mut_slice.ensures.value in
    let same = refilled cert.entries now (ap length exact ∙ filled_count p m sheet 0 cert.entries) in
    filled_within p m sheet cert _ c.requires.fits (cert_filled p m sheet cert.version cert.entries _ c.requires.version (same ∙ exact))
    (subst (λ (l : List Entry). All (HasTermsOf Two) l) (sym same) c.fill_entries.ensures.filled)
