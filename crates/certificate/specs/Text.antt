-- The one text of each certificate.
use Rattle.std.specs.Prelude.{◌≡◌, ℕ, suc, ◌^◌, ◌≤◌, List, [], ◌∷◌, ◌++◌, Option, Some, None, length, codes, decimal, All}
use Rattle.std.specs.List.{flat_map}
use Rattle.lists.specs.Limits.{greatest_number, most_points, most_tasks}
use Rattle.poet_io.specs.Texts.{Format}
use Rattle.certificate.specs.declared.cert.Version.{Version}
use Rattle.certificate.specs.declared.cert.Version.TheVariants.{One, Two}
use Rattle.certificate.specs.declared.cert.Entry.{Entry}
use Rattle.certificate.specs.declared.cert.Cert.{Cert}
use Rattle.certificate.specs.declared.cert.Point.{Point}
use Rattle.certificate.specs.declared.cert.Terms.{Terms}

abbrev pub point_of : ℕ → ℕ → Point
point_of offset end = record { offset = offset; end = end }

-- what the line of a point says: the point, and in the second version its terms
pub record PointLine : Type 0 where
  pub point : Point
  pub terms : Option Terms

abbrev pub point_line : Point → Option Terms → PointLine
point_line p terms = record { point = p; terms = terms }

-- what the lines of these points say: the first terms are those of the first point, and so on
abbrev pub lines_of : List Point → List Terms → List PointLine
lines_of [] ts = []
lines_of (p ∷ ps) [] = point_line p None ∷ lines_of ps []
lines_of (p ∷ ps) (t ∷ ts) = point_line p (Some t) ∷ lines_of ps ts

-- the terms in the line of a point, with a space before each: BLOCKING OWN OTHERS NEED
abbrev pub terms_text : Option Terms → List ℕ
terms_text None = []
terms_text (Some t) =
    codes " " ++ (decimal t.blocking ++ (codes " " ++ (decimal t.own ++ (codes " " ++ (decimal t.others ++ (codes " " ++ decimal t.need))))))

-- the line of a point: p OFFSET END, and its terms where it has some
abbrev pub point_text : PointLine → List ℕ
point_text l = codes "p " ++ (decimal l.point.offset ++ (codes " " ++ (decimal l.point.end ++ (terms_text l.terms ++ codes "\n"))))

-- the first line of the i-th entry: task I WINDOW BOUND COUNT
abbrev pub entry_line : ℕ → Entry → List ℕ
entry_line i e =
    codes "task " ++ (decimal i ++
    (codes " " ++ (decimal e.window ++ (codes " " ++ (decimal e.bound ++ (codes " " ++ (decimal (length e.points) ++ codes "\n")))))))

-- the lines of the points of an entry
abbrev pub points_text : Entry → List ℕ
points_text e = flat_map point_text (lines_of e.points e.terms)

-- the lines of these entries, the first of which is the i-th of the certificate
abbrev pub entries_text : ℕ → List Entry → List ℕ
entries_text i [] = []
entries_text i (e ∷ es) = entry_line i e ++ (points_text e ++ entries_text (suc i) es)

-- the first line
abbrev pub head_of : Version → List ℕ
head_of One = codes "poet-cert 1\n"
head_of Two = codes "poet-cert 2\n"

-- the text of a certificate, spelled
abbrev pub text_of : Cert → List ℕ
text_of c =
    head_of c.version ++ (codes "tasks " ++ (decimal (length c.entries) ++ (codes "\n" ++ (entries_text 0 c.entries ++ codes "end\n"))))

-- a point's numbers are in range
pub record IsPoint (p : Point) : Type 0 where
  pub offset : p.offset ≤ greatest_number
  pub end : p.end ≤ greatest_number

-- an entry's numbers are in range, and it has 1 to most_points points
pub record IsEntry (e : Entry) : Type 0 where
  pub window : e.window ≤ greatest_number
  pub bound : e.bound ≤ greatest_number
  pub some : 1 ≤ length e.points
  pub few : length e.points ≤ most_points
  pub points : All IsPoint e.points

-- the greatest term
abbrev pub greatest_term : ℕ
greatest_term = 10 ^ 28

-- a point's terms are in range
pub record IsTerms (t : Terms) : Type 0 where
  pub blocking : t.blocking ≤ greatest_term
  pub own : t.own ≤ greatest_term
  pub others : t.others ≤ greatest_term
  pub need : t.need ≤ greatest_term

-- how many terms n points have: the second version says those of each, the first none
abbrev pub terms_count : Version → ℕ → ℕ
terms_count One n = 0
terms_count Two n = n

-- an entry's terms are those of its version, and in range
pub record HasTermsOf (version : Version) (e : Entry) : Type 0 where
  pub count : length e.terms ≡ terms_count version (length e.points)
  pub each : All IsTerms e.terms

-- the certificate has 1 to most_tasks entries, each within the grammar, with the terms of its version
pub record IsWithinGrammar (c : Cert) : Type 0 where
  pub some : 1 ≤ length c.entries
  pub few : length c.entries ≤ most_tasks
  pub entries : All IsEntry c.entries
  pub terms : All (HasTermsOf c.version) c.entries

-- the format of certificates: each that is within the grammar has its one text
abbrev pub cert_format : Format Cert
cert_format = record { is_within = IsWithinGrammar; is_text_of = λ bytes c. bytes ≡ text_of c }
