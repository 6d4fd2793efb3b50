-- How long the text of a certificate is.
use Rattle.std.proofs.Common.{◌≡◌, ℕ, suc, ◌+◌, ◌*◌, ◌≤◌, List, [], ◌∷◌, ◌++◌, None, length, ap, subst, arith}
use Rattle.std.specs.Prelude.{decimal, All}
use Rattle.std.specs.List.{flat_map, sum_by}
use Rattle.std.proofs.lemmas.Fmt.{length-decimal-le}
use Rattle.std.proofs.lemmas.List.{length-append, nil_from_length}
use Rattle.std.proofs.lemmas.List.Elements.{All-head, All-tail}
use Rattle.std.proofs.lemmas.List.Sums.{sum_by-cons}
use Rattle.certificate.specs.declared.cert.Entry.{Entry}
use Rattle.certificate.specs.declared.cert.Point.{Point}
use Rattle.certificate.specs.declared.cert.Cert.{Cert}
use Rattle.certificate.specs.declared.cert.Version.{Version}
use Rattle.certificate.specs.declared.cert.Version.TheVariants.{One}
use Rattle.certificate.specs.declared.cert.Terms.{Terms}
use Rattle.certificate.specs.Text.{point_line, lines_of, point_text, points_text, entry_line, head_of, entries_text, text_of, IsPoint, IsEntry}
use Rattle.certificate.specs.Text.{HasTermsOf, IsWithinGrammar}

decimal_short : (n : ℕ) → n ≤ 1000000000 → length (decimal n) ≤ 10
decimal_short n h = length-decimal-le 10 n (omega arith) (omega arith) (omega arith)

-- the line of a point in the first version
abbrev plain_text : Point → List ℕ
plain_text q = point_text (point_line q None)

point_short : (q : Point) → IsPoint q → length (plain_text q) ≤ 24
point_short q p = simp length-append (omega (arith, decimal_short q.offset p.offset, decimal_short q.end p.end))

points_short : (points : List Point) → All IsPoint points → length (flat_map point_text (lines_of points [])) ≤ 24 * length points
points_short [] each = omega arith
points_short (q ∷ points) each =
    let here = point_short q (All-head IsPoint q points each) in
    let rest = points_short points (All-tail IsPoint q points each) in
    omega (arith, length-append (plain_text q) (flat_map point_text (lines_of points [])), here, rest)

entry_points : (e : Entry) → HasTermsOf One e → All IsPoint e.points → length (points_text e) ≤ 24 * length e.points
entry_points e plain each =
    let empty : e.terms ≡ [] = nil_from_length e.terms plain.count in
    omega (arith, points_short e.points each, ap (λ (ts : List Terms). length (flat_map point_text (lines_of e.points ts))) empty)

line_short : (i : ℕ) (e : Entry) → i ≤ 1000000000 → IsEntry e → length (entry_line i e) ≤ 49
line_short i e h p =
    simp length-append (omega (
      arith,
      decimal_short i h,
      decimal_short e.window p.window,
      decimal_short e.bound p.bound,
      decimal_short (length e.points) (omega (arith, p.few)),
    ))

entries_short : (i : ℕ) (es : List Entry) → i + length es ≤ 1000000000 → All IsEntry es → All (HasTermsOf One) es →
    length (entries_text i es) ≤ 49 * length es + 24 * sum_by (λ e. length e.points) es
entries_short i [] h each plain = omega arith
entries_short i (e ∷ es) h each plain =
    let one : IsEntry e = All-head IsEntry e es each in
    let here = line_short i e (omega arith) one in
    let points = entry_points e (All-head (HasTermsOf One) e es plain) one.points in
    let rest = entries_short (suc i) es (omega arith) (All-tail IsEntry e es each) (All-tail (HasTermsOf One) e es plain) in
    omega (
      arith,
      sum_by-cons (λ (x : Entry). length x.points) e es,
      length-append (entry_line i e) (points_text e ++ entries_text (suc i) es),
      length-append (points_text e) (entries_text (suc i) es),
      here,
      points,
      rest,
    )

-- with up to 1,000,000 points the text of the first version is within the limit of its file
pub text_short : (cert : Cert) → cert.version ≡ One → IsWithinGrammar cert →
    sum_by (λ e. length e.points) cert.entries ≤ 1000000 → length (text_of cert) ≤ 67108864
text_short cert first within few =
    let plain : All (HasTermsOf One) cert.entries = subst (λ (v : Version). All (HasTermsOf v) cert.entries) first within.terms in
    let entries = entries_short 0 cert.entries (omega (arith, within.few)) within.entries plain in
    let head = ap (λ (v : Version). length (head_of v)) first in
    simp length-append (omega (arith, entries, head, decimal_short (length cert.entries) (omega (arith, within.few)), within.few, few))
