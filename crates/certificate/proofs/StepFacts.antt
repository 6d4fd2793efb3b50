-- What is made of the lines said so far.
use Rattle.std.proofs.Common.{◌≡◌, ℕ, zero, suc, ◌+◌, ◌≤◌, ◌==◌, cond, List, [], ◌∷◌, ◌++◌, length, get_or, take, map, Option, Some, None, All, fold}
use Rattle.std.proofs.Common.{slice_index_or, slice_set, if◌then◌else◌, refl, sym, ap, subst, ◌∙◌, inl, inr, arith, append_assoc}
use Rattle.std.proofs.lemmas.List.{append-nil, take_more, take_all, get_or_past}
use Rattle.std.proofs.lemmas.List.Sums.{fold_push, fold-append}
use Rattle.std.proofs.lemmas.Bool.{cases_Bool, cases_lt}
use Rattle.std.proofs.lemmas.List.Elements.{All-head, All-tail}
use Rattle.poet_io.specs.Texts.{Parses, newlines}
use Rattle.certificate.specs.Text.{PointLine, lines_of, cert_format, HasTermsOf, IsWithinGrammar}
use Rattle.certificate.specs.Steps.{steps_of, entries_steps, point_step}
use Rattle.certificate.specs.Parsing.{with_terms, with_point, add_point, add_step, entries_of}
use Rattle.certificate.specs.declared.cert.Version.{Version}
use Rattle.certificate.specs.declared.cert.Terms.{Terms}
use Rattle.certificate.specs.declared.place.Place.{Place}
use Rattle.certificate.proofs.PointFacts.{points_in, terms_in, lines_points, lines_terms}
use Rattle.certificate.specs.Machine.{start, walk}
use Rattle.certificate.specs.declared.cert.Entry.{Entry}
use Rattle.certificate.specs.declared.cert.Point.{Point}
use Rattle.certificate.specs.declared.cert.Cert.{Cert}
use Rattle.certificate.specs.declared.step.LineStep.{LineStep}
use Rattle.certificate.specs.declared.step.LineStep.TheVariants as says
use Rattle.certificate.proofs.WalkFacts.{text_walk}
use Rattle.certificate.proofs.ProgressFacts.{said_count}
use Rattle.certificate.proofs.FeedFacts.{newlines_append}
use Rattle.certificate.proofs.FieldFacts.{eq_from_test, ne_from_test}

-- a fold over the lines said so far, one line on
module _ {S : Type 0} (F : S → LineStep → S) (quiet : (s : S) → F s says.More ≡ s) where
  fold_more : (a : S) (ss : List LineStep) (n : ℕ) → fold F a (take (n + 1) ss) ≡ F (fold F a (take n ss)) (get_or ss n says.More)
  fold_more a ss n = elim (cases_lt n (length ss)) [
    | inl h ↦ ap (fold F a) (take_more ss n says.More h) ∙ fold_push F a (take n ss) (get_or ss n says.More)
    | inr h ↦ ap (fold F a) (take_all (n + 1) ss (omega arith) ∙ sym (take_all n ss h)) ∙
        sym (ap (λ (s : LineStep). F (fold F a (take n ss)) s) (get_or_past ss n says.More h) ∙ quiet (fold F a (take n ss)))
  ]

  fold_line : (a : S) (ss : List LineStep) (b xs : List ℕ) (s : LineStep) → newlines xs ≤ 1 →
      s ≡ cond (newlines xs == 1) (slice_index_or ss (newlines b) says.More) says.More
      → fold F a (take (newlines (b ++ xs)) ss) ≡ F (fold F a (take (newlines b) ss)) s
  fold_line a ss b xs s few e = elim (cases_Bool (newlines xs == 1)) [
    | inl is_one ↦
        let count : newlines (b ++ xs) ≡ newlines b + 1 = newlines_append b xs ∙ ap (λ (n : ℕ). newlines b + n) (eq_from_test (newlines xs) 1 is_one) in
        ap (λ (n : ℕ). fold F a (take n ss)) count ∙ fold_more a ss (newlines b) ∙ ap (F (fold F a (take (newlines b) ss))) (sym (rw is_one at e))
    | inr not_so ↦
        let count : newlines (b ++ xs) ≡ newlines b = newlines_append b xs ∙ omega (arith, few, ne_from_test (newlines xs) 1 not_so) in
        ap (λ (n : ℕ). fold F a (take n ss)) count ∙ sym (ap (F (fold F a (take (newlines b) ss))) (rw not_so at e) ∙ quiet (fold F a (take (newlines b) ss)))
  ]

  -- What is kept is the fold of the lines so far, of each certificate whose text begins so. This takes it one line on.
  pub so_far_next : (a old new : S) (s : LineStep) (b next xs : List ℕ) → next ≡ b ++ xs → newlines xs ≤ 1 → new ≡ F old s
      → ((more : List ℕ) (c : Cert) → Parses cert_format (b ++ more) c → old ≡ fold F a (take (newlines b) (steps_of c)))
      → ((more : List ℕ) (c : Cert) → Parses cert_format (b ++ (xs ++ more)) c →
      s ≡ (if newlines xs == 1 then slice_index_or (steps_of c) (newlines b) says.More else says.More))
      → (more : List ℕ) (c : Cert) → Parses cert_format (next ++ more) c → new ≡ fold F a (take (newlines next) (steps_of c))
  so_far_next a old new s b next xs e few step before says more c parses =
      let p : Parses cert_format (b ++ (xs ++ more)) c =
      subst (λ (t : List ℕ). Parses cert_format t c) (ap (λ (l : List ℕ). l ++ more) e ∙ append_assoc b xs more) parses in
      step ∙ ap (λ (o : S). F o s) (before (xs ++ more) c p) ∙ sym (fold_line a (steps_of c) b xs s few (says more c p)) ∙
      ap (λ (t : List ℕ). fold F a (take (newlines t) (steps_of c))) (sym e)

-- at the end of a certificate's text all its lines were said
pub all_said : (b : List ℕ) (c : Cert) → Parses cert_format b c → length (steps_of c) ≡ newlines b
all_said b c h = ap (λ (r : _). length r.0) (sym (text_walk c h.within)) ∙
    ap (λ (t : List ℕ). length (walk [] start t).0) (sym h.text) ∙ said_count [] b [] start refl

-- the lines of a certificate make its entries
pub add_point-last : (front : List Entry) (e : Entry) (l : PointLine) → add_point (front ++ e ∷ []) l ≡ front ++ with_point e l ∷ []
add_point-last [] e l = refl
add_point-last (f ∷ []) e l = refl
add_point-last (f ∷ (g ∷ front)) e l = ap (λ (es : List Entry). f ∷ es) (add_point-last (g ∷ front) e l)

-- the last entry is the one with the greatest number
pub add_point-there : (es : List Entry) (none e : Entry) (k : ℕ) (l : PointLine) → k + 1 ≡ length es → e ≡ with_point (slice_index_or es k none) l →
    slice_set es k e ≡ add_point es l
add_point-there [] none e k l last is = absurd (omega (arith, last))
add_point-there (f ∷ []) none e zero l last is = ap (λ (x : Entry). x ∷ []) is
add_point-there (f ∷ []) none e (suc k) l last is = absurd (omega (arith, last))
add_point-there (f ∷ (g ∷ es)) none e zero l last is = absurd (omega (arith, last))
add_point-there (f ∷ (g ∷ es)) none e (suc k) l last is =
    ap (λ (xs : List Entry). f ∷ xs) (add_point-there (g ∷ es) none e k l (omega (arith, last)) is)

abbrev entry_of : ℕ → ℕ → List Point → List Terms → Entry
entry_of w r ps ts = record { window = w; bound = r; points = ps; terms = ts }

-- the entry with the points of these lines, and their terms
abbrev pub with_lines : Entry → List PointLine → Entry
with_lines e ls = record { window = e.window; bound = e.bound; points = e.points ++ points_in ls; terms = e.terms ++ terms_in ls }

with_terms-append : (ts us : List Terms) (t : Option Terms) → with_terms ts t ++ us ≡ ts ++ (with_terms [] t ++ us)
with_terms-append ts us None = refl
with_terms-append ts us (Some t) = append_assoc ts (t ∷ []) us

-- an entry is known by its points and terms, where the rest stays
same_entry : (w r : ℕ) (ps qs : List Point) (ts us : List Terms) → ps ≡ qs → ts ≡ us
    → entry_of w r ps ts ≡ entry_of w r qs us
same_entry w r ps qs ts us p t = ap (λ (l : List Point). entry_of w r l ts) p ∙ ap (entry_of w r qs) t

points_built : (ls : List PointLine) (front : List Entry) (e : Entry) → fold add_step (front ++ e ∷ []) (map point_step ls) ≡ front ++ with_lines e ls ∷ []
points_built [] front e = ap (λ (f : Entry). front ++ f ∷ [])
    (same_entry e.window e.bound e.points (e.points ++ []) e.terms (e.terms ++ []) (sym (append-nil e.points)) (sym (append-nil e.terms)))
points_built (l ∷ ls) front e =
    ap (λ (es : List Entry). fold add_step es (map point_step ls)) (add_point-last front e l) ∙ points_built ls front (with_point e l)
    ∙ ap (λ (f : Entry). front ++ f ∷ [])
    (same_entry e.window e.bound ((e.points ++ l.point ∷ []) ++ points_in ls) (e.points ++ points_in (l ∷ ls))
    (with_terms e.terms l.terms ++ terms_in ls) (e.terms ++ terms_in (l ∷ ls))
    (append_assoc e.points (l.point ∷ []) (points_in ls)) (with_terms-append e.terms (terms_in ls) l.terms))

entries_built : (v : Version) (es front : List Entry) (i : ℕ) → All (HasTermsOf v) es → fold add_step front (entries_steps i es) ≡ front ++ es
entries_built v [] front i h = sym (append-nil front)
entries_built v (e ∷ es) front i h =
    let empty : Entry = record { window = e.window; bound = e.bound; points = []; terms = [] } in
    let ls = lines_of e.points e.terms in
    fold-append add_step (front ++ empty ∷ []) (map point_step ls) (entries_steps (suc i) es)
    ∙ ap (λ (l : List Entry). fold add_step l (entries_steps (suc i) es)) (points_built ls front empty)
    ∙ ap (λ (f : Entry). fold add_step (front ++ f ∷ []) (entries_steps (suc i) es))
    (same_entry e.window e.bound (points_in ls) e.points (terms_in ls) e.terms (lines_points e.points e.terms)
    (lines_terms v e.points e.terms (All-head (HasTermsOf v) e es h).count))
    ∙ entries_built v es (front ++ e ∷ []) (suc i) (All-tail (HasTermsOf v) e es h) ∙ append_assoc front (e ∷ []) es

pub entries_of-steps : (c : Cert) → IsWithinGrammar c → entries_of (steps_of c) ≡ c.entries
entries_of-steps c h = fold_push add_step [] (entries_steps 0 c.entries) says.End ∙ entries_built c.version c.entries [] 0 h.terms

-- no bytes are the text of two certificates
pub one_parse : (b : List ℕ) (c d : Cert) → Parses cert_format b c → Parses cert_format b d → c ≡ d
one_parse b c d h k =
    let same = sym (text_walk c h.within) ∙ ap (λ (t : List ℕ). walk [] start t) (sym h.text ∙ k.text) ∙ text_walk d k.within in
    let entries : c.entries ≡ d.entries = sym (entries_of-steps c h.within) ∙
    ap (λ (r : List LineStep × Place). entries_of r.0) same ∙ entries_of-steps d k.within in
    let version : c.version ≡ d.version = ap (λ (r : List LineStep × Place). r.1.version) same in
    ap (λ (es : List Entry). record { version = c.version; entries = es }) entries ∙ ap (λ (v : Version). record { version = v; entries = d.entries }) version

-- Reading: the entries are those of each certificate whose lines were said.
pub found_all : (version : Version) (entries : List Entry) (b bytes : List ℕ) (c : Cert) → b ≡ bytes → Parses cert_format b c → version ≡ c.version
    → ((more : List ℕ) (d : Cert) → Parses cert_format (b ++ more) d → entries ≡ entries_of (take (newlines b) (steps_of d))) →
    Parses cert_format bytes (record { version = version; entries = entries })
found_all version entries b bytes c e h same_version so_far =
    let same : entries ≡ c.entries = so_far [] c (subst (λ (t : List ℕ). Parses cert_format t c) (sym (append-nil b)) h) ∙
    ap entries_of (take_all (newlines b) (steps_of c) (omega (arith, all_said b c h))) ∙ entries_of-steps c h.within in
    let is : c ≡ record { version = version; entries = entries } =
    ap (λ (es : List Entry). record { version = c.version; entries = es }) (sym same) ∙
    ap (λ (v : Version). record { version = v; entries = entries }) (sym same_version) in
    subst (λ (t : List ℕ). Parses cert_format t (record { version = version; entries = entries })) e (subst (Parses cert_format b) is h)

pub add_step-quiet : (es : List Entry) → add_step es says.More ≡ es
add_step-quiet es = refl
