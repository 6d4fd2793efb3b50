-- Any bytes have one reading.
use Rattle.std.proofs.Common.{◌≡◌, ℕ, Bool, false, IsTrue, ◌↔◌, List, [], refl, sym, ap, subst, ◌∙◌, Result, Ok}
use Rattle.std.proofs.lemmas.Bool.{both_ways}
use Rattle.poet_io.specs.declared.text_refusal.TextRefusal.{TextRefusal}
use Rattle.poet_io.specs.Texts.{Parses, IsRefusedLine, IsRefusedAt, IsReading, HaveOneReading}
use Rattle.poet_io.proofs.TextFacts.{one_reading, reading_is}
use Rattle.certificate.specs.Text.{IsWithinGrammar, text_of, cert_format}
use Rattle.certificate.specs.Steps.{steps_of}
use Rattle.certificate.specs.Parsing.{cert_of_text, entries_of}
use Rattle.certificate.specs.Machine.{after_bytes, beginning, is_over_at, start, walk}
use Rattle.certificate.specs.declared.cert.Entry.{Entry}
use Rattle.certificate.specs.declared.cert.Cert.{Cert}
use Rattle.certificate.specs.declared.cert.Version.{Version}
use Rattle.certificate.specs.declared.step.LineStep.{LineStep}
use Rattle.certificate.proofs.FieldFacts.{cases}
use Rattle.certificate.proofs.WalkFacts.{text_walk}
use Rattle.certificate.proofs.ProgressFacts.{parses_from_over, over_from_parses, over_test, line_is, version_is}
use Rattle.certificate.proofs.StepFacts.{entries_of-steps, one_parse}

-- the entries that the lines make are those of the certificate whose text the bytes are
parsed : (b : List ℕ) (c : Cert) → Parses cert_format b c →
    Parses cert_format b (record { version = (after_bytes beginning b).place.version; entries = entries_of (walk [] start b).0 })
parsed b c h =
    let steps : (walk [] start b).0 ≡ steps_of c = ap (λ (t : List ℕ). (walk [] start t).0) h.text ∙
    ap (λ (r : List LineStep × _). r.0) (text_walk c h.within) in
    let entries : c.entries ≡ entries_of (walk [] start b).0 = sym (ap entries_of steps ∙ entries_of-steps c h.within) in
    let version : c.version ≡ (after_bytes beginning b).place.version = sym (version_is b c h) in
    subst (λ (v : Version). Parses cert_format b (record { version = v; entries = entries_of (walk [] start b).0 })) version
    (subst (λ (es : List Entry). Parses cert_format b (record { version = c.version; entries = es })) entries h)

pub reading_exists : (b : List ℕ) → IsReading cert_format b (cert_of_text b)
unfolding cert_of_text
reading_exists b = cases (is_over_at (after_bytes beginning b).place.expected)
    (λ over.
    let p = parses_from_over b (over_test (after_bytes beginning b).place.expected over) in
    rw over (parsed b p.0 p.1))
    (λ over. rw over (record { none = λ c h. absurd (let yes_over = ap is_over_at (over_from_parses b c h) in cc); line = line_is b }))

pub one_reading_each : HaveOneReading cert_format cert_of_text
one_reading_each = record { exists = reading_exists; single = one_reading cert_format one_parse }

-- a reading of the bytes is what `cert_of_text` gives
pub cert_of_text-reading : (b : List ℕ) (r : Result Cert TextRefusal) → IsReading cert_format b r → cert_of_text b ≡ r
cert_of_text-reading = reading_is cert_format cert_of_text one_reading_each

-- the bytes that were all fed, and are no certificate's text
pub refused_all : (b bytes : List ℕ) (over : Bool) (n : ℕ) → b ≡ bytes → (IsTrue over ↔ ((c : Cert) × Parses cert_format b c)) → over ≡ false →
    IsRefusedLine cert_format b n → IsRefusedAt cert_format bytes n
refused_all b bytes over n e h not_over line = subst (λ (t : List ℕ). IsRefusedAt cert_format t n) e
    (record { none = λ c p. absurd (both_ways over not_over (h.1 (c, p))); line = line })

-- what is written is read as it was
pub cert_of_text-text_of : (c : Cert) → IsWithinGrammar c → cert_of_text (text_of c) ≡ Ok c
cert_of_text-text_of c h = cert_of_text-reading (text_of c) (Ok c) (record { within = h; text = refl })
