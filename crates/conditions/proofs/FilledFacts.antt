-- Certificates with the terms of their points, and without them.
use Rattle.std.proofs.Common.{◌≡◌, ◌∙◌, ℕ, zero, suc, ◌+◌, ◌<◌, ◌≤◌, ◌==◌, ◌&&◌, nat_lt, Bool, Option, Some, None, List, [], ◌∷◌, ◌++◌}
use Rattle.std.proofs.Common.{length, get_or, set, take, drop, map, replicate, All, refl, sym, ap, subst, arith}
use Rattle.std.proofs.lemmas.List.{length-map, length-replicate, length-take-le, take_more, take_more_set, take_all, drop_more, drop-set-lt, take_at, map-append}
use Rattle.std.proofs.lemmas.Grind.{drop_more_same}
use Rattle.std.specs.List.{refill}
use Rattle.std.proofs.lemmas.List.Elements.{All-nil, All-cons, All-head, All-tail, All-append, All-replicate}
use Rattle.lists.specs.Firsts.{first_of, must, first_below}
use Rattle.task_sheet.specs.SheetParts.{SheetParts}
use Rattle.policy.specs.PolicyMeaning.{PolicyMeaning}
use Rattle.preemption.specs.CutMeaning.{CutMeaning}
use Rattle.certificate.specs.declared.cert.Version.{Version}
use Rattle.certificate.specs.declared.cert.Version.TheVariants.{Two}
use Rattle.certificate.specs.declared.cert.Cert.{Cert}
use Rattle.certificate.specs.declared.cert.Entry.{Entry}
use Rattle.certificate.specs.declared.cert.Point.{Point}
use Rattle.certificate.specs.declared.cert.Terms.{Terms}
use Rattle.certificate.specs.Text.{lines_of, IsEntry, IsTerms, HasTermsOf, IsWithinGrammar}
use Rattle.conditions.specs.declared.failed.Cond.TheVariants.{K1, K4, K6, K7, K8, K10}
use Rattle.conditions.specs.declared.failed.Failed.{Failed}
use Rattle.conditions.specs.PointTerms.{terms_of}
use Rattle.conditions.specs.Conditions.{no_entry, entry_at, of_cert, of_point, comes_next, ends_within, meets_end, rest_within, gap_failed_of}
use Rattle.conditions.specs.Conditions.{point_failed_of, points_failed_of, entry_failed_of, named, task_failed_of, tasks_failed_of, failed_of}
use Rattle.conditions.specs.Filled.{entry_with, terms_of_points, entries_with_terms, with_terms, without_terms, with_room, no_terms, TermsChangeNothing}
use Rattle.conditions.proofs.MeetFacts.{terms_same}

-- failures that are the same below n have the same first one
first_same : {F : Type 0} (f g : ℕ → Option F) (n : ℕ) → ((k : ℕ) → f k ≡ g k) → first_below f n ≡ first_below g n
first_same f g zero same = refl
first_same f g (suc n) same = rw (first_same f g n same, same n) refl

plain_at : (es : List Entry) (k : ℕ) → get_or (map (λ (e : Entry). entry_with e []) es) k no_entry ≡ entry_with (get_or es k no_entry) []
unfolding no_entry
plain_at [] k = refl
plain_at (e ∷ es) zero = refl
plain_at (e ∷ es) (suc k) = plain_at es k

same_bounds : (p : PolicyMeaning) (m : CutMeaning) (sheet : SheetParts) (i : ℕ) (es : List Entry) →
    map (λ (e : Entry). e.bound) (entries_with_terms p m sheet i es) ≡ map (λ (e : Entry). e.bound) (map (λ (e : Entry). entry_with e []) es)
same_bounds p m sheet i [] = refl
same_bounds p m sheet i (e ∷ es) = ap (λ (l : List ℕ). e.bound ∷ l) (same_bounds p m sheet (suc i) es)

abbrev cert_of : Version → List Entry → Cert
cert_of version entries = record { version = version; entries = entries }

-- whatever terms it says, it is an entry
pub still_entry : (e : Entry) (ts : List Terms) → IsEntry e → IsEntry (entry_with e ts)
still_entry e ts fits = record { window = fits.window; bound = fits.bound; some = fits.some; few = fits.few; points = fits.points }

module _ (p : PolicyMeaning) (m : CutMeaning) (sheet : SheetParts) where
  abbrev filled : ℕ → Entry → Entry
  filled i e = entry_with e (terms_of_points p m sheet i e.points)

  pub filled_count : (i : ℕ) (es : List Entry) → length (entries_with_terms p m sheet i es) ≡ length es
  filled_count i [] = refl
  filled_count i (e ∷ es) = ap suc (filled_count (suc i) es)

  filled_at : (es : List Entry) (i k : ℕ) → get_or (entries_with_terms p m sheet i es) k no_entry ≡ filled (i + k) (get_or es k no_entry)
  unfolding no_entry
  filled_at [] i k = refl
  filled_at (e ∷ es) i zero =
      let is : i ≡ i + 0 = omega arith in
      ap (λ (n : ℕ). filled n e) is
  filled_at (e ∷ es) i (suc k) =
      let is : suc i + k ≡ i + suc k = omega arith in
      filled_at es (suc i) k ∙ ap (λ (n : ℕ). filled n (get_or es k no_entry)) is

  -- whatever terms the entries say
  filled_anew : (said : Entry → List Terms) (i : ℕ) (es : List Entry) →
      entries_with_terms p m sheet i (map (λ (e : Entry). entry_with e (said e)) es) ≡ entries_with_terms p m sheet i es
  filled_anew said i [] = refl
  filled_anew said i (e ∷ es) = ap (λ (l : List Entry). filled i e ∷ l) (filled_anew said (suc i) es)

  filled_twice : (i : ℕ) (es : List Entry) → entries_with_terms p m sheet i (entries_with_terms p m sheet i es) ≡ entries_with_terms p m sheet i es
  filled_twice i [] = refl
  filled_twice i (e ∷ es) = ap (λ (l : List Entry). filled i e ∷ l) (filled_twice (suc i) es)

  pub filled_more : (i : ℕ) (es : List Entry) (e : Entry) →
      entries_with_terms p m sheet i (es ++ e ∷ []) ≡ entries_with_terms p m sheet i es ++ filled (i + length es) e ∷ []
  filled_more i [] e =
      let is : i ≡ i + 0 = omega arith in
      ap (λ (n : ℕ). filled n e ∷ []) is
  filled_more i (x ∷ es) e =
      let is : suc i + length es ≡ i + suc (length es) = omega arith in
      ap (λ (l : List Entry). filled i x ∷ l)
      (filled_more (suc i) es e ∙ ap (λ (n : ℕ). entries_with_terms p m sheet (suc i) es ++ filled n e ∷ []) is)

  pub filled_entries : (i : ℕ) (es : List Entry) → All IsEntry es → All IsEntry (entries_with_terms p m sheet i es)
  filled_entries i [] each = All-nil IsEntry
  filled_entries i (e ∷ es) each = All-cons IsEntry (filled i e) (entries_with_terms p m sheet (suc i) es)
      (still_entry e (terms_of_points p m sheet i e.points) (All-head IsEntry e es each))
      (filled_entries (suc i) es (All-tail IsEntry e es each))

  pub cert_filled : (version : Version) (es now : List Entry) → version ≡ Two → now ≡ entries_with_terms p m sheet 0 es →
      cert_of version now ≡ with_terms p m sheet (cert_of version es)
  cert_filled version es now second is = rw (second, is) refl

  pub filled_within : (cert c : Cert) → IsWithinGrammar cert → c ≡ with_terms p m sheet cert → All (HasTermsOf Two) c.entries → IsWithinGrammar c
  filled_within cert c fits is terms =
      let entries : c.entries ≡ entries_with_terms p m sheet 0 cert.entries = ap (λ (d : Cert). d.entries) is in
      let count : length c.entries ≡ length cert.entries = ap length entries ∙ filled_count 0 cert.entries in
      record {
        some = omega (arith, fits.some, count);
        few = omega (arith, fits.few, count);
        entries = subst (λ (l : List Entry). All IsEntry l) (sym entries) (filled_entries 0 cert.entries fits.entries);
        terms = subst (λ (v : Version). All (HasTermsOf v) c.entries) (sym (ap (λ (d : Cert). d.version) is)) terms;
      }

  module _ (sbf : ℕ → ℕ) (i window bound : ℕ) where
    point_alike : (before : Option ℕ) (a x : ℕ) →
        point_failed_of p m sbf sheet i window bound before a x (Some (terms_of p m sheet i a x))
        ≡ point_failed_of p m sbf sheet i window bound before a x None
    point_alike before a x = ap (λ (told : Bool).
        first_of (must (comes_next before a && nat_lt a window) (of_point i a K4))
        (first_of (gap_failed_of p sheet i before a)
        (first_of (must (ends_within sheet i a x bound) (of_point i a K6))
        (first_of (must (meets_end p m sbf sheet i a x) (of_point i a K7))
        (first_of (must (rest_within p m sbf sheet i a x bound) (of_point i a K8))
        (must told (of_point i a K10))))))) (terms_same (terms_of p m sheet i a x))

    points_alike : (before : Option ℕ) (qs : List Point) →
        points_failed_of p m sbf sheet i window bound before (lines_of qs (terms_of_points p m sheet i qs))
        ≡ points_failed_of p m sbf sheet i window bound before (lines_of qs [])
    points_alike before [] = refl
    points_alike before (q ∷ qs) =
        ap (λ (f : Option Failed). first_of f (points_failed_of p m sbf sheet i window bound (Some q.offset) (lines_of qs (terms_of_points p m sheet i qs))))
        (point_alike before q.offset q.end)
        ∙ ap (first_of (point_failed_of p m sbf sheet i window bound before q.offset q.end None)) (points_alike (Some q.offset) qs)

  module _ (sbf : ℕ → ℕ) (deadlines : Bool) where
    task_alike : (i : ℕ) (e : Entry) →
        task_failed_of p m sbf sheet deadlines i (filled i e) ≡ task_failed_of p m sbf sheet deadlines i (entry_with e [])
    unfolding task_failed_of
    task_alike i e = ap (first_of (named i (entry_failed_of p m sbf sheet deadlines i e.window e.bound))) (points_alike sbf i e.window e.bound None e.points)

    entry_alike : (cert : Cert) (k : ℕ) → task_failed_of p m sbf sheet deadlines k (entry_at (with_terms p m sheet cert) k)
        ≡ task_failed_of p m sbf sheet deadlines k (entry_at (without_terms cert) k)
    entry_alike cert k =
        let is : 0 + k ≡ k = omega arith in
        ap (task_failed_of p m sbf sheet deadlines k) (filled_at cert.entries 0 k ∙ ap (λ (n : ℕ). filled n (entry_at cert k)) is)
        ∙ task_alike k (entry_at cert k)
        ∙ ap (task_failed_of p m sbf sheet deadlines k) (sym (plain_at cert.entries k))

    failed_alike : (cert : Cert) → failed_of p m sbf sheet deadlines (with_terms p m sheet cert) ≡ failed_of p m sbf sheet deadlines (without_terms cert)
    unfolding failed_of
    failed_alike cert =
        let tasks = first_same (λ k. task_failed_of p m sbf sheet deadlines k (entry_at (with_terms p m sheet cert) k))
        (λ k. task_failed_of p m sbf sheet deadlines k (entry_at (without_terms cert) k)) (length sheet.tasks) (entry_alike cert) in
        let count : length (with_terms p m sheet cert).entries ≡ length (without_terms cert).entries =
        filled_count 0 cert.entries ∙ sym (length-map cert.entries (λ (e : Entry). entry_with e [])) in
        ap (λ (n : ℕ). first_of (must (n == length sheet.tasks) (of_cert K1))
        (tasks_failed_of p m sbf sheet deadlines (with_terms p m sheet cert) (length sheet.tasks))) count
        ∙ ap (first_of (must (length (without_terms cert).entries == length sheet.tasks) (of_cert K1))) tasks

room_same : (p : PolicyMeaning) (m : CutMeaning) (sheet : SheetParts) (cert : Cert) → with_terms p m sheet (with_room cert) ≡ with_terms p m sheet cert
room_same p m sheet cert =
    ap (λ (es : List Entry). cert_of Two es) (filled_anew p m sheet (λ (e : Entry). replicate (length e.points) no_terms) 0 cert.entries)

pub change_nothing : (p : PolicyMeaning) (m : CutMeaning) (sbf : ℕ → ℕ) → TermsChangeNothing p m sbf
change_nothing p m sbf = record {
  alike = λ sheet cert. record {
    failed = λ deadlines. failed_alike p m sheet sbf deadlines cert;
    bounds = same_bounds p m sheet 0 cert.entries;
  };
  again = λ sheet cert. ap (λ (es : List Entry). cert_of Two es) (filled_twice p m sheet 0 cert.entries);
  room = λ sheet cert. room_same p m sheet cert;
}

-- an entry that got its room
abbrev roomy : Entry → Entry
roomy e = entry_with e (replicate (length e.points) no_terms)

room_terms : (e : Entry) → HasTermsOf Two (roomy e)
unfolding no_terms
room_terms e = record {
  count = length-replicate (length e.points) no_terms;
  each = All-replicate IsTerms (length e.points) no_terms (record { blocking = omega arith; own = omega arith; others = omega arith; need = omega arith });
}

room_entries : (es : List Entry) → All IsEntry es → All IsEntry (map roomy es)
room_entries [] each = All-nil IsEntry
room_entries (e ∷ es) each = All-cons IsEntry (roomy e) (map roomy es)
    (still_entry e (replicate (length e.points) no_terms) (All-head IsEntry e es each)) (room_entries es (All-tail IsEntry e es each))

room_all_terms : (es : List Entry) → All (HasTermsOf Two) (map roomy es)
room_all_terms [] = All-nil (HasTermsOf Two)
room_all_terms (e ∷ es) = All-cons (HasTermsOf Two) (roomy e) (map roomy es) (room_terms e) (room_all_terms es)

-- a certificate that got its room is within the grammar
pub room_within : (cert : Cert) → IsWithinGrammar cert → IsWithinGrammar (with_room cert)
room_within cert fits = record {
  some = omega (arith, fits.some, length-map cert.entries roomy);
  few = omega (arith, fits.few, length-map cert.entries roomy);
  entries = room_entries cert.entries fits.entries;
  terms = room_all_terms cert.entries;
}

pub room_made : (cert : Cert) (es : List Entry) → IsWithinGrammar cert → es ≡ map roomy cert.entries → IsWithinGrammar (cert_of Two es)
room_made cert es fits is = subst (λ (l : List Entry). IsWithinGrammar (cert_of Two l)) (sym is) (room_within cert fits)

-- the certificate that got its room has as many entries, and is of the second version
pub room_count : (cert c : Cert) (n : ℕ) → c ≡ with_room cert → length cert.entries ≡ n → length c.entries ≡ n
room_count cert c n is count = ap (λ (d : Cert). length d.entries) is ∙ length-map cert.entries roomy ∙ count

pub room_version : (cert c : Cert) → c ≡ with_room cert → c.version ≡ Two
room_version cert c is = ap (λ (d : Cert). d.version) is

pub room_filled : (p : PolicyMeaning) (m : CutMeaning) (sheet : SheetParts) (cert c d : Cert) →
    c ≡ with_room cert → d ≡ with_terms p m sheet c → d ≡ with_terms p m sheet cert
room_filled p m sheet cert c d room is = is ∙ ap (with_terms p m sheet) room ∙ room_same p m sheet cert

-- a slice that is given back to a list of its length is the list
pub refilled : {X : Type 0} (xs ws : List X) → length ws ≡ length xs → refill (length xs) xs ws ≡ ws
refilled xs ws e = take_at ws (drop (length ws) xs) (length xs) e

module _ (p : PolicyMeaning) (m : CutMeaning) (sheet : SheetParts) (i : ℕ) where
  -- one more point has its terms
  pub points_more : (points : List Point) (now : List Terms) (k : ℕ) (q : Point) (t : Terms) → k < length points → length now ≡ length points →
      q ≡ get_or points k q → t ≡ terms_of p m sheet i q.offset q.end → take k now ≡ terms_of_points p m sheet i (take k points) →
      take (k + 1) (set now k t) ≡ terms_of_points p m sheet i (take (k + 1) points)
  points_more points now k q t here count listed is done =
      let f = λ (r : Point). terms_of p m sheet i r.offset r.end in
      let before = take k points in
      take_more_set now k t (omega (arith, here, count))
      ∙ ap (λ (l : List Terms). l ++ t ∷ []) done
      ∙ ap (λ (x : Terms). terms_of_points p m sheet i before ++ x ∷ []) is
      ∙ sym (map-append f before (q ∷ []))
      ∙ ap (λ (r : Point). terms_of_points p m sheet i (before ++ r ∷ [])) listed
      ∙ sym (ap (terms_of_points p m sheet i) (take_more points k q here))

  pub small_more : (now : List Terms) (k : ℕ) (t : Terms) → k < length now → IsTerms t → All IsTerms (take k now) → All IsTerms (take (k + 1) (set now k t))
  small_more now k t here fits before =
      subst (λ (l : List Terms). All IsTerms l) (sym (take_more_set now k t here))
      (All-append IsTerms (take k now) (t ∷ []) before (All-cons IsTerms t [] fits (All-nil IsTerms)))

  pub points_done : (points : List Point) (now : List Terms) (k : ℕ) → length now ≡ length points → length points ≤ k →
      take k now ≡ terms_of_points p m sheet i (take k points) → now ≡ terms_of_points p m sheet i points
  points_done points now k count past done =
      sym (take_all k now (omega (arith, count, past))) ∙ done ∙ ap (terms_of_points p m sheet i) (take_all k points past)

  pub small_done : (now : List Terms) (k : ℕ) → length now ≤ k → All IsTerms (take k now) → All IsTerms now
  small_done now k past small = subst (λ (l : List Terms). All IsTerms l) (take_all k now past) small

  -- an entry whose points have their terms
  pub entry_filled : (e : Entry) (ts : List Terms) → ts ≡ terms_of_points p m sheet i e.points → All IsTerms ts → HasTermsOf Two (entry_with e ts)
  entry_filled e ts is small = record {
    count = ap length is ∙ length-map e.points (λ (q : Point). terms_of p m sheet i q.offset q.end);
    each = small;
  }

module _ (p : PolicyMeaning) (m : CutMeaning) (sheet : SheetParts) (old now : List Entry) (k : ℕ) (count : length now ≡ length old)
    (done : take k now ≡ entries_with_terms p m sheet 0 (take k old)) where
  -- one more entry has its terms
  pub entries_more : (d e : Entry) → drop k now ≡ drop k old → k < length old →
      e ≡ entry_with (get_or now k d) (terms_of_points p m sheet k (get_or now k d).points) →
      take (k + 1) (set now k e) ≡ entries_with_terms p m sheet 0 (take (k + 1) old)
  entries_more d e left here is =
      let there : k < length now = omega (arith, here, count) in
      let one = drop_more now k d there in
      let two = drop_more old k d here in
      let same : get_or now k d ≡ get_or old k d = cc in
      let place : k ≡ 0 + length (take k old) = omega (arith, length-take-le k old (omega arith)) in
      let before = entries_with_terms p m sheet 0 (take k old) in
      take_more_set now k e there
      ∙ ap (λ (l : List Entry). l ++ e ∷ []) done
      ∙ ap (λ (x : Entry). before ++ x ∷ []) (is ∙ ap (filled p m sheet k) same ∙ ap (λ (n : ℕ). filled p m sheet n (get_or old k d)) place)
      ∙ sym (filled_more p m sheet 0 (take k old) (get_or old k d))
      ∙ sym (ap (entries_with_terms p m sheet 0) (take_more old k d here))

  pub entries_done : length old ≤ k → now ≡ entries_with_terms p m sheet 0 old
  entries_done past =
      sym (take_all k now (omega (arith, past, count))) ∙ done ∙ ap (entries_with_terms p m sheet 0) (take_all k old past)

pub entries_left : (old now : List Entry) (k : ℕ) (e : Entry) → drop k now ≡ drop k old → drop (k + 1) (set now k e) ≡ drop (k + 1) old
entries_left old now k e left = drop-set-lt (k + 1) now k e (omega arith) ∙ drop_more_same now old k left
