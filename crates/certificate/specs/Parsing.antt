-- The certificate that lines make, and the reading of any bytes.
use Rattle.std.specs.Prelude.{ℕ, List, [], ◌∷◌, ◌++◌, Option, Some, None, fold, if◌then◌else◌, Result, Ok, Err}
use Rattle.certificate.specs.declared.cert.Entry.{Entry}
use Rattle.certificate.specs.declared.cert.Cert.{Cert}
use Rattle.certificate.specs.declared.cert.Terms.{Terms}
use Rattle.poet_io.specs.declared.text_refusal.TextRefusal.{TextRefusal}
use Rattle.poet_io.specs.declared.text_refusal.TextRefusal.TheVariants.{Line}
use Rattle.certificate.specs.declared.step.LineStep.{LineStep}
use Rattle.certificate.specs.Text.{PointLine, point_of, point_line}
use Rattle.certificate.specs.declared.step.LineStep.TheVariants as says
use Rattle.certificate.specs.Machine.{walk, start, after_bytes, beginning, is_over_at}

-- with the terms of one point more, where it has some
abbrev pub with_terms : List Terms → Option Terms → List Terms
with_terms ts None = ts
with_terms ts (Some t) = ts ++ t ∷ []

-- the entry with one point more
abbrev pub with_point : Entry → PointLine → Entry
with_point e l = record { window = e.window; bound = e.bound; points = e.points ++ l.point ∷ []; terms = with_terms e.terms l.terms }

-- the last entry has one point more
abbrev pub add_point : List Entry → PointLine → List Entry
add_point [] l = []
add_point (e ∷ []) l = with_point e l ∷ []
add_point (e ∷ (f ∷ es)) l = e ∷ add_point (f ∷ es) l

-- the entries after one more line
abbrev pub add_step : List Entry → LineStep → List Entry
add_step es (says.Entry i w r k) = es ++ (record { window = w; bound = r; points = []; terms = [] }) ∷ []
add_step es (says.Point a x terms) = add_point es (point_line (point_of a x) terms)
add_step es _ = es

-- the entries that lines make
abbrev pub entries_of : List LineStep → List Entry
entries_of steps = fold add_step [] steps

-- what reading the bytes gives
unfoldable pub cert_of_text : List ℕ → Result Cert TextRefusal
cert_of_text bytes =
    let l = after_bytes beginning bytes in
    if is_over_at l.place.expected then Ok (record { version = l.place.version; entries = entries_of (walk [] start bytes).0 }) else Err (Line l.line)
