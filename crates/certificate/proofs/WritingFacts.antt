-- Writing: one more point, and one more entry; and how long the text is.
use Rattle.std.proofs.Common.{◌≡◌, ℕ, suc, zero, ◌+◌, ◌<◌, ◌≤◌, List, [], ◌∷◌, ◌++◌, Option, Some, None, length, get_or, take, drop, drop-cons}
use Rattle.std.proofs.Common.{add-one, slice_get, decimal, refl, sym, ap, ◌∙◌, arith, append_assoc, length-append}
use Rattle.std.specs.List.{flat_map}
use Rattle.std.proofs.lemmas.List.{append-nil, take_more, take_all, flat_map_more}
use Rattle.std.proofs.lemmas.Option.{slice_get_read, slice_get_past}
use Rattle.certificate.specs.Text.{PointLine, point_line, lines_of, terms_text, point_text, points_text, entry_line, entries_text, head_of, text_of}
use Rattle.certificate.specs.declared.cert.Version.{Version}
use Rattle.certificate.specs.declared.cert.Version.TheVariants.{One, Two}
use Rattle.certificate.specs.declared.cert.Entry.{Entry}
use Rattle.certificate.specs.declared.cert.Cert.{Cert}
use Rattle.certificate.specs.declared.cert.Point.{Point}
use Rattle.certificate.specs.declared.cert.Terms.{Terms}
use Rattle.certificate.proofs.PointFacts.{lines_count}

pub terms_there : (ts : List Terms) (i : ℕ) (t : Terms) (old new : List ℕ) → i < length ts → t ≡ get_or ts i t →
    new ≡ old ++ terms_text (Some t) → new ≡ old ++ terms_text (slice_get ts i)
terms_there ts i t old new h e is = is ∙ ap (λ (o : Option Terms). old ++ terms_text o) (sym (slice_get_read ts (length ts) i t refl h e))

pub terms_past : (ts : List Terms) (i : ℕ) (old : List ℕ) → length ts ≤ i → old ≡ old ++ terms_text (slice_get ts i)
terms_past ts i old h = sym (ap (λ (o : Option Terms). old ++ terms_text o) (slice_get_past ts i h) ∙ append-nil old)

pub length_there : (ts : List Terms) (i : ℕ) (t : Terms) (n : ℕ) → i < length ts → t ≡ get_or ts i t →
    n ≡ length (terms_text (Some t)) → n ≡ length (terms_text (slice_get ts i))
length_there ts i t n h e is = is ∙ ap (λ (o : Option Terms). length (terms_text o)) (sym (slice_get_read ts (length ts) i t refl h e))

pub length_past : (ts : List Terms) (i : ℕ) → length ts ≤ i → 0 ≡ length (terms_text (slice_get ts i))
length_past ts i h = sym (ap (λ (o : Option Terms). length (terms_text o)) (slice_get_past ts i h))

line_at : (ps : List Point) (ts : List Terms) (i : ℕ) (p : Point) (d : PointLine) → i < length ps → p ≡ get_or ps i p →
    get_or (lines_of ps ts) i d ≡ point_line p (slice_get ts i)
line_at [] ts i p d h e = absurd (omega arith)
line_at (q ∷ ps) [] zero p d h e = ap (λ (x : Point). point_line x None) (sym e)
line_at (q ∷ ps) [] (suc i) p d h e = line_at ps [] i p d (omega arith) e
line_at (q ∷ ps) (t ∷ ts) zero p d h e = ap (λ (x : Point). point_line x (Some t)) (sym e)
line_at (q ∷ ps) (t ∷ ts) (suc i) p d h e = line_at ps ts i p d (omega arith) e

pub points_pushed : (ps : List Point) (ts : List Terms) (i : ℕ) (p : Point) (old out more : List ℕ) → i < length ps →
    p ≡ get_or ps i p → out ≡ old ++ flat_map point_text (take i (lines_of ps ts))
    → more ≡ out ++ point_text (point_line p (slice_get ts i)) → more ≡ old ++ flat_map point_text (take (i + 1) (lines_of ps ts))
points_pushed ps ts i p old out more h e so_far new =
    let ls = lines_of ps ts in
    let l = point_line p (slice_get ts i) in
    new ∙ ap (λ (t : List ℕ). t ++ point_text l) so_far ∙ flat_map_more point_text old (take i ls) l
    ∙ ap (λ (x : PointLine). old ++ flat_map point_text (take i ls ++ x ∷ [])) (sym (line_at ps ts i p l h e))
    ∙ ap (λ (t : List PointLine). old ++ flat_map point_text t) (sym (take_more ls i l (omega (arith, h, lines_count ps ts))))

pub points_length : (ps : List Point) (ts : List Terms) (i : ℕ) (p : Point) → i < length ps → p ≡ get_or ps i p
    → length (flat_map point_text (take (i + 1) (lines_of ps ts))) ≡ length
    (flat_map point_text (take i (lines_of ps ts))) + length (point_text (point_line p (slice_get ts i)))
points_length ps ts i p h e =
    let out = flat_map point_text (take i (lines_of ps ts)) in
    let line = point_text (point_line p (slice_get ts i)) in
    ap length (sym (points_pushed ps ts i p [] out (out ++ line) h e refl refl)) ∙ length-append out line

pub points_measured : (ps : List Point) (ts : List Terms) (i : ℕ) (p : Point) (n k m : ℕ) → i < length ps → p ≡ get_or ps i p →
    n ≡ length (flat_map point_text (take i (lines_of ps ts)))
    → k ≡ length (point_text (point_line p (slice_get ts i))) → m ≡ n + k → m ≡ length (flat_map point_text (take (i + 1) (lines_of ps ts)))
points_measured ps ts i p n k m h e before here sum = omega (arith, points_length ps ts i p h e, before, here, sum)

pub all_lines : (ps : List Point) (ts : List Terms) (i : ℕ) → length ps ≤ i → take i (lines_of ps ts) ≡ lines_of ps ts
all_lines ps ts i h = take_all i (lines_of ps ts) (omega (arith, h, lines_count ps ts))

-- the text of the entries from the i-th on
entries_text-from : (es : List Entry) (i : ℕ) (e : Entry) → i < length es → e ≡ get_or es i e →
    entries_text i (drop i es) ≡ entry_line i e ++ (points_text e ++ entries_text (i + 1) (drop (i + 1) es))
entries_text-from es i e h is = rw add-one (ap (entries_text i) (drop-cons es i e h ∙ ap (λ (f : Entry). f ∷ drop (suc i) es) (sym is)))

pub entries_text-push : (es : List Entry) (i : ℕ) (e : Entry) (out more whole : List ℕ) → i < length es → e ≡ get_or es i e →
    more ≡ out ++ (entry_line i e ++ points_text e)
    → out ++ entries_text i (drop i es) ≡ whole → more ++ entries_text (i + 1) (drop (i + 1) es) ≡ whole
entries_text-push es i e out more whole h is new so_far =
    ap (λ (l : List ℕ). l ++ entries_text (i + 1) (drop (i + 1) es)) new ∙ append_assoc out (entry_line i e ++ points_text e)
    (entries_text (i + 1) (drop (i + 1) es))
    ∙ ap (λ (l : List ℕ). out ++ l) (append_assoc (entry_line i e) (points_text e) (entries_text (i + 1) (drop (i + 1) es)) ∙
    sym (entries_text-from es i e h is)) ∙ so_far

pub entries_length : (es : List Entry) (i : ℕ) (e : Entry) → i < length es → e ≡ get_or es i e
    → length (entries_text i (drop i es)) ≡ length (entry_line i e) + (length (points_text e) + length (entries_text (i + 1) (drop (i + 1) es)))
entries_length es i e h is =
    let others = entries_text (i + 1) (drop (i + 1) es) in
    ap length (entries_text-from es i e h is) ∙ omega (arith, length-append (entry_line i e) (points_text e ++ others), length-append (points_text e) others)

head_length : (v : Version) → length (head_of v) ≡ 12
head_length One = refl
head_length Two = refl

pub text_length : (c : Cert) → length (text_of c) ≡ 23 + length (decimal (length c.entries)) + length (entries_text 0 c.entries)
text_length c = simp length-append (omega (arith, head_length c.version))
