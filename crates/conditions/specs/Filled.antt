-- A certificate with the terms of its points written out, and without them.
use Rattle.std.specs.Prelude.{◌≡◌, ℕ, suc, Bool, List, [], ◌∷◌, length, map, replicate}
use Rattle.task_sheet.specs.SheetParts.{SheetParts}
use Rattle.policy.specs.PolicyMeaning.{PolicyMeaning}
use Rattle.preemption.specs.CutMeaning.{CutMeaning}
use Rattle.certificate.specs.declared.cert.Version.TheVariants.{One, Two}
use Rattle.certificate.specs.declared.cert.Point.{Point}
use Rattle.certificate.specs.declared.cert.Terms.{Terms}
use Rattle.certificate.specs.declared.cert.Entry.{Entry}
use Rattle.certificate.specs.declared.cert.Cert.{Cert}
use Rattle.conditions.specs.PointTerms.{terms_of}
use Rattle.conditions.specs.Conditions.{failed_of}

-- the entry with these terms
abbrev pub entry_with : Entry → List Terms → Entry
entry_with e terms = record { window = e.window; bound = e.bound; points = e.points; terms = terms }

-- the terms of these points of task i
abbrev pub terms_of_points : PolicyMeaning → CutMeaning → SheetParts → ℕ → List Point → List Terms
terms_of_points p m sheet i points = map (λ q. terms_of p m sheet i q.offset q.end) points

-- these entries, the first of which is that of task i, each with the terms of its points
abbrev pub entries_with_terms : PolicyMeaning → CutMeaning → SheetParts → ℕ → List Entry → List Entry
entries_with_terms p m sheet i [] = []
entries_with_terms p m sheet i (e ∷ es) =
    entry_with e (terms_of_points p m sheet i e.points) ∷ entries_with_terms p m sheet (suc i) es

-- the certificate in the second version, with the terms of each point
abbrev pub with_terms : PolicyMeaning → CutMeaning → SheetParts → Cert → Cert
with_terms p m sheet cert = record { version = Two; entries = entries_with_terms p m sheet 0 cert.entries }

-- the certificate in the first version
abbrev pub without_terms : Cert → Cert
without_terms cert = record { version = One; entries = map (λ e. entry_with e []) cert.entries }

-- the certificate in the second version, with terms of 0 at each point
unfoldable pub no_terms : Terms
no_terms = record { blocking = 0; own = 0; others = 0; need = 0 }

abbrev pub entries_with_room : List Entry → List Entry
entries_with_room es = map (λ e. entry_with e (replicate (length e.points) no_terms)) es

abbrev pub with_room : Cert → Cert
with_room cert = record { version = Two; entries = entries_with_room cert.entries }

-- the same condition fails of a certificate with its terms and of it without them, at the same place, and their bounds are the same
pub record FailsAlike (p : PolicyMeaning) (m : CutMeaning) (sbf : ℕ → ℕ) (sheet : SheetParts) (cert : Cert) : Type 0 where
  pub failed : (deadlines : Bool) → failed_of p m sbf sheet deadlines (with_terms p m sheet cert) ≡ failed_of p m sbf sheet deadlines (without_terms cert)
  pub bounds : map (λ e. e.bound) (with_terms p m sheet cert).entries ≡ map (λ e. e.bound) (without_terms cert).entries

-- so it is of every certificate, and terms that are written out again are the same
pub record TermsChangeNothing (p : PolicyMeaning) (m : CutMeaning) (sbf : ℕ → ℕ) : Type 0 where
  pub alike : (sheet : SheetParts) (cert : Cert) → FailsAlike p m sbf sheet cert
  pub again : (sheet : SheetParts) (cert : Cert) → with_terms p m sheet (with_terms p m sheet cert) ≡ with_terms p m sheet cert
  pub room : (sheet : SheetParts) (cert : Cert) → with_terms p m sheet (with_room cert) ≡ with_terms p m sheet cert
