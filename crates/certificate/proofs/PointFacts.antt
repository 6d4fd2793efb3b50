-- The lines of an entry's points, with their terms.
use Rattle.std.proofs.Common.{◌≡◌, suc, List, [], ◌∷◌, ◌++◌, length, map, Option, Some, None, refl, sym, ap, ◌∙◌, arith, All}
use Rattle.std.proofs.lemmas.List.{nil_from_length}
use Rattle.std.proofs.lemmas.List.Elements.{All-nil, All-cons, All-head, All-tail}
use Rattle.certificate.specs.Text.{PointLine, point_line, lines_of, terms_count, IsPoint, IsTerms}
use Rattle.certificate.specs.Parsing.{with_terms}
use Rattle.certificate.specs.FirstLines.{HasTerms, IsLineOf}
use Rattle.certificate.specs.declared.cert.Version.{Version}
use Rattle.certificate.specs.declared.cert.Version.TheVariants.{One, Two}
use Rattle.certificate.specs.declared.cert.Point.{Point}
use Rattle.certificate.specs.declared.cert.Terms.{Terms}

pub lines_count : (ps : List Point) (ts : List Terms) → length (lines_of ps ts) ≡ length ps
lines_count [] ts = refl
lines_count (p ∷ ps) [] = ap suc (lines_count ps [])
lines_count (p ∷ ps) (t ∷ ts) = ap suc (lines_count ps ts)

pub each_line : (v : Version) (ps : List Point) (ts : List Terms) → length ts ≡ terms_count v (length ps) → All IsPoint ps →
    All IsTerms ts → All (IsLineOf v) (lines_of ps ts)
each_line v [] ts count points terms = All-nil (IsLineOf v)
each_line One (p ∷ ps) [] count points terms =
    All-cons (IsLineOf One) (point_line p None) (lines_of ps []) (record { point = All-head IsPoint p ps points; terms = tt })
    (each_line One ps [] refl (All-tail IsPoint p ps points) terms)
each_line Two (p ∷ ps) [] count points terms = absurd (omega arith)
each_line One (p ∷ ps) (t ∷ ts) count points terms = absurd (omega arith)
each_line Two (p ∷ ps) (t ∷ ts) count points terms =
    All-cons (IsLineOf Two) (point_line p (Some t)) (lines_of ps ts) (record { point = All-head IsPoint p ps points; terms = All-head IsTerms t ts terms })
    (each_line Two ps ts (omega arith) (All-tail IsPoint p ps points) (All-tail IsTerms t ts terms))

-- the terms that lines say
abbrev pub terms_in : List PointLine → List Terms
terms_in [] = []
terms_in (l ∷ ls) = with_terms [] l.terms ++ terms_in ls

abbrev pub points_in : List PointLine → List Point
points_in ls = map (λ (l : PointLine). l.point) ls

pub lines_points : (ps : List Point) (ts : List Terms) → points_in (lines_of ps ts) ≡ ps
lines_points [] ts = refl
lines_points (p ∷ ps) [] = ap (λ (l : List Point). p ∷ l) (lines_points ps [])
lines_points (p ∷ ps) (t ∷ ts) = ap (λ (l : List Point). p ∷ l) (lines_points ps ts)

pub lines_terms : (v : Version) (ps : List Point) (ts : List Terms) → length ts ≡ terms_count v (length ps) → terms_in (lines_of ps ts) ≡ ts
lines_terms v [] [] count = refl
lines_terms One [] (t ∷ ts) count = absurd (omega arith)
lines_terms Two [] (t ∷ ts) count = absurd (omega arith)
lines_terms One (p ∷ ps) [] count = lines_terms One ps [] refl
lines_terms Two (p ∷ ps) [] count = absurd (omega arith)
lines_terms One (p ∷ ps) (t ∷ ts) count = absurd (omega arith)
lines_terms Two (p ∷ ps) (t ∷ ts) count = ap (λ (l : List Terms). t ∷ l) (lines_terms Two ps ts (omega arith))

-- lines of one version are those of their points and terms
pub record AreLines (v : Version) (ls : List PointLine) : Type 0 where
  pub count : length (terms_in ls) ≡ terms_count v (length (points_in ls))
  pub points : All IsPoint (points_in ls)
  pub terms : All IsTerms (terms_in ls)
  pub same : lines_of (points_in ls) (terms_in ls) ≡ ls

-- behind a line without terms no line has any
none_more : (p : Point) (ls : List PointLine) → length (terms_in ls) ≡ 0 → lines_of (points_in ls) (terms_in ls) ≡ ls
    → lines_of (p ∷ points_in ls) (terms_in ls) ≡ point_line p None ∷ ls
none_more p ls none same =
    let empty : terms_in ls ≡ [] = nil_from_length (terms_in ls) none in
    ap (lines_of (p ∷ points_in ls)) empty ∙ ap (λ (l : List PointLine). point_line p None ∷ l) (ap (lines_of (points_in ls)) (sym empty) ∙ same)

one_more : (v : Version) (p : Point) (terms : Option Terms) (ls : List PointLine) → IsPoint p → HasTerms v terms → AreLines v ls →
    AreLines v (point_line p terms ∷ ls)
one_more One p None ls point has h = record {
  count = h.count;
  points = All-cons IsPoint p (points_in ls) point h.points;
  terms = h.terms;
  same = none_more p ls h.count h.same;
}
one_more One p (Some t) ls point has h = absurd has
one_more Two p None ls point has h = absurd has
one_more Two p (Some t) ls point has h = record {
  count = ap suc h.count;
  points = All-cons IsPoint p (points_in ls) point h.points;
  terms = All-cons IsTerms t (terms_in ls) has h.terms;
  same = ap (λ (l : List PointLine). point_line p (Some t) ∷ l) h.same;
}

pub are_lines : (v : Version) (ls : List PointLine) → All (IsLineOf v) ls → AreLines v ls
are_lines One [] h = record { count = refl; points = All-nil IsPoint; terms = All-nil IsTerms; same = refl }
are_lines Two [] h = record { count = refl; points = All-nil IsPoint; terms = All-nil IsTerms; same = refl }
are_lines v (l ∷ ls) h = one_more v l.point l.terms ls (All-head (IsLineOf v) l ls h).point (All-head (IsLineOf v) l ls h).terms
    (are_lines v ls (All-tail (IsLineOf v) l ls h))
