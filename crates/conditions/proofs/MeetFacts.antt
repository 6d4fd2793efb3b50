use Rattle.std.proofs.Common.{◌≡◌, ◌∙◌, ℕ, ◌-◌, ◌==◌, ◌&&◌, nat_le, nat_lt, Bool, true, false, Option, Some, None, List, [], ◌∷◌, length, refl, ap, arith}
use Rattle.std.proofs.lemmas.Bool.{and_parts, and_from, eqb-true, eq-eqb, leb-true, le-leb, ltb-true, lt-ltb}
use Rattle.std.proofs.lemmas.List.Elements.{All-nil, All-cons, All-head, All-tail}
use Rattle.lists.proofs.FirstFacts.{must_holds, must_from, first_parts, first_from, none_below, none_from}
use Rattle.task_sheet.specs.SheetParts.{SheetParts}
use Rattle.policy.specs.PolicyMeaning.{PolicyMeaning}
use Rattle.preemption.specs.CutMeaning.{CutMeaning}
use Rattle.demand.specs.Demand.{window_need_of}
use Rattle.search_space.proofs.PointFacts.{same_means, same_true}
use Rattle.certificate.specs.declared.cert.Entry.{Entry}
use Rattle.certificate.specs.declared.cert.Cert.{Cert}
use Rattle.certificate.specs.declared.cert.Point.{Point}
use Rattle.certificate.specs.declared.cert.Terms.{Terms}
use Rattle.certificate.specs.Text.{PointLine, point_line, lines_of}
use Rattle.demand.specs.Meeting.{IsWindow, MeetsEnd, MeetsBound, ComesNext, KeepsGap, PointMeets, PointsMeet}
use Rattle.conditions.specs.declared.failed.Cond.{Cond}
use Rattle.conditions.specs.Conditions.{entry_at, is_window, is_in_time, comes_next, ends_within, meets_end, rest_within, gap_failed_of}
use Rattle.conditions.specs.PointTerms.{terms_of, are_same, tells_terms, TellsTerms}
use Rattle.conditions.specs.Conditions.{point_failed_of, points_failed_of, named, task_failed_of, failed_of}
use Rattle.conditions.specs.Meets.{IsInTime, pairs_of, LinesTell, TaskMeets, CertMeets}

pub pairs_count : (points : List Point) → length (pairs_of points) ≡ length points
pairs_count [] = refl
pairs_count (q ∷ points) = omega (arith, pairs_count points)

abbrev terms_from : ℕ → ℕ → ℕ → ℕ → Terms
terms_from b o h n = record { blocking = b; own = o; others = h; need = n }

terms_equal : (b o h n c q k m : ℕ) → b ≡ c → o ≡ q → h ≡ k → n ≡ m → terms_from b o h n ≡ terms_from c q k m
terms_equal b o h n c q k m e f g d = rw (e, f, g, d) refl

-- terms that pass the test are the same
same_terms : (t u : Terms) → are_same t u ≡ true → t ≡ u
same_terms t u h =
    let one = and_parts (t.blocking == u.blocking) (t.own == u.own && (t.others == u.others && t.need == u.need)) h in
    let two = and_parts (t.own == u.own) (t.others == u.others && t.need == u.need) one.1 in
    let three = and_parts (t.others == u.others) (t.need == u.need) two.1 in
    terms_equal t.blocking t.own t.others t.need u.blocking u.own u.others u.need (eqb-true _ _ one.0) (eqb-true _ _ two.0) (eqb-true _ _ three.0) (eqb-true _ _ three.1)

-- terms are the same as themselves
pub terms_same : (t : Terms) → are_same t t ≡ true
terms_same t =
    and_from (t.blocking == t.blocking) (t.own == t.own && (t.others == t.others && t.need == t.need)) (eq-eqb t.blocking t.blocking refl)
    (and_from (t.own == t.own) (t.others == t.others && t.need == t.need) (eq-eqb t.own t.own refl)
    (and_from (t.others == t.others) (t.need == t.need) (eq-eqb t.others t.others refl) (eq-eqb t.need t.need refl)))

module _ (p : PolicyMeaning) (m : CutMeaning) (sbf : ℕ → ℕ) (sheet : SheetParts) (i : ℕ) where
  pub gap_means : (before : Option ℕ) (q : ℕ) → gap_failed_of p sheet i before q ≡ None → KeepsGap p sheet i before q
  gap_means None q h = tt
  gap_means (Some before) q h = same_means p sheet i before (q - 1) (must_holds _ _ h)

  pub gap_none : (before : Option ℕ) (q : ℕ) → KeepsGap p sheet i before q → gap_failed_of p sheet i before q ≡ None
  gap_none None q h = refl
  gap_none (Some before) q h = must_from _ _ (same_true p sheet i before (q - 1) h)

  next_means : (before : Option ℕ) (a : ℕ) → comes_next before a ≡ true → ComesNext before a
  next_means None a h = eqb-true a 0 h
  next_means (Some before) a h = ltb-true before a h

  next_true : (before : Option ℕ) (a : ℕ) → ComesNext before a → comes_next before a ≡ true
  next_true None a h = eq-eqb a 0 h
  next_true (Some before) a h = lt-ltb before a h

  pub window_means : (window : ℕ) → is_window p m sbf sheet i window ≡ true → IsWindow p m sbf sheet i window
  window_means window h =
      let parts = and_parts (nat_le 1 window) (nat_le (window_need_of p m sheet i window) (sbf window)) h in
      record { positive = leb-true _ _ parts.0; enough = leb-true _ _ parts.1 }

  pub window_true : (window : ℕ) → IsWindow p m sbf sheet i window → is_window p m sbf sheet i window ≡ true
  window_true window meets = and_from (nat_le 1 window) (nat_le (window_need_of p m sheet i window) (sbf window))
      (le-leb _ _ meets.positive) (le-leb _ _ meets.enough)

  pub end_means : (a x : ℕ) → meets_end p m sbf sheet i a x ≡ true → MeetsEnd p m sbf sheet i a x
  end_means a x h = record { enough = leb-true _ _ h }

  pub end_true : (a x : ℕ) → MeetsEnd p m sbf sheet i a x → meets_end p m sbf sheet i a x ≡ true
  end_true a x meets = le-leb _ _ meets.enough

  pub bound_means : (a x bound : ℕ) → ends_within sheet i a x bound ≡ true → rest_within p m sbf sheet i a x bound ≡ true → MeetsBound p m sbf sheet i a x bound
  bound_means a x bound end rest = record { end = leb-true _ _ end; enough = leb-true _ _ rest }

  told_means : (a x : ℕ) (told : Option Terms) → tells_terms p m sheet i a x told ≡ true → TellsTerms p m sheet i a x told
  told_means a x None h = tt
  told_means a x (Some told) h = same_terms told (terms_of p m sheet i a x) h

  told_true : (a x : ℕ) (told : Option Terms) → TellsTerms p m sheet i a x told → tells_terms p m sheet i a x told ≡ true
  told_true a x None h = refl
  told_true a x (Some told) h = ap (λ (t : Terms). are_same t (terms_of p m sheet i a x)) h ∙ terms_same (terms_of p m sheet i a x)

  pub point_means : (window bound : ℕ) (before : Option ℕ) (a x : ℕ) (told : Option Terms) →
      point_failed_of p m sbf sheet i window bound before a x told ≡ None →
      PointMeets p m sbf sheet i window bound before a x × TellsTerms p m sheet i a x told
  point_means window bound before a x told h =
      let one = first_parts _ _ h in
      let two = first_parts _ _ one.1 in
      let three = first_parts _ _ two.1 in
      let four = first_parts _ _ three.1 in
      let five = first_parts _ _ four.1 in
      let listed = and_parts (comes_next before a) (nat_lt a window) (must_holds _ _ one.0) in (
        record {
          next = next_means before a listed.0;
          below = ltb-true a window listed.1;
          gap = gap_means before a two.0;
          end = end_means a x (must_holds _ _ four.0);
          within = bound_means a x bound (must_holds _ _ three.0) (must_holds _ _ five.0);
        },
        told_means a x told (must_holds _ _ five.1),
      )

  pub point_none : (window bound : ℕ) (before : Option ℕ) (a x : ℕ) (told : Option Terms) → PointMeets p m sbf sheet i window bound before a x →
      TellsTerms p m sheet i a x told → point_failed_of p m sbf sheet i window bound before a x told ≡ None
  point_none window bound before a x told meets tells =
      first_from _ _ (must_from _ _ (and_from (comes_next before a) (nat_lt a window) (next_true before a meets.next) (lt-ltb a window meets.below)))
      (first_from _ _ (gap_none before a meets.gap)
      (first_from _ _ (must_from _ _ (le-leb _ _ meets.within.end))
      (first_from _ _ (must_from _ _ (end_true a x meets.end))
      (first_from _ _ (must_from _ _ (le-leb _ _ meets.within.enough)) (must_from _ _ (told_true a x told tells))))))

  abbrev Tells : PointLine → Type 0
  Tells l = TellsTerms p m sheet i l.point.offset l.point.end l.terms

  pub points_mean : (window bound : ℕ) (before : Option ℕ) (qs : List Point) (ts : List Terms) →
      points_failed_of p m sbf sheet i window bound before (lines_of qs ts) ≡ None →
      PointsMeet p m sbf sheet i window bound before (pairs_of qs) × LinesTell p m sheet i (lines_of qs ts)
  points_mean window bound before [] ts h = (gap_means before window h, All-nil Tells)
  points_mean window bound before (q ∷ qs) [] h =
      let parts = first_parts _ _ h in
      let here = point_means window bound before q.offset q.end None parts.0 in
      let later = points_mean window bound (Some q.offset) qs [] parts.1 in
      ((here.0, later.0), All-cons Tells (point_line q None) (lines_of qs []) here.1 later.1)
  points_mean window bound before (q ∷ qs) (t ∷ ts) h =
      let parts = first_parts _ _ h in
      let here = point_means window bound before q.offset q.end (Some t) parts.0 in
      let later = points_mean window bound (Some q.offset) qs ts parts.1 in
      ((here.0, later.0), All-cons Tells (point_line q (Some t)) (lines_of qs ts) here.1 later.1)

  pub points_none : (window bound : ℕ) (before : Option ℕ) (qs : List Point) (ts : List Terms) →
      PointsMeet p m sbf sheet i window bound before (pairs_of qs) → LinesTell p m sheet i (lines_of qs ts) →
      points_failed_of p m sbf sheet i window bound before (lines_of qs ts) ≡ None
  points_none window bound before [] ts meet tell = gap_none before window meet
  points_none window bound before (q ∷ qs) [] meet tell =
      first_from _ _ (point_none window bound before q.offset q.end None meet.0 (All-head Tells (point_line q None) (lines_of qs []) tell))
      (points_none window bound (Some q.offset) qs [] meet.1 (All-tail Tells (point_line q None) (lines_of qs []) tell))
  points_none window bound before (q ∷ qs) (t ∷ ts) meet tell =
      first_from _ _ (point_none window bound before q.offset q.end (Some t) meet.0 (All-head Tells (point_line q (Some t)) (lines_of qs ts) tell))
      (points_none window bound (Some q.offset) qs ts meet.1 (All-tail Tells (point_line q (Some t)) (lines_of qs ts) tell))

  -- no line that tells no terms tells wrong ones
  pub none_told : (qs : List Point) → LinesTell p m sheet i (lines_of qs [])
  none_told [] = All-nil Tells
  none_told (q ∷ qs) = All-cons Tells (point_line q None) (lines_of qs []) tt (none_told qs)

  time_means : (deadlines : Bool) (bound : ℕ) → is_in_time sheet deadlines i bound ≡ true → IsInTime sheet deadlines i bound
  time_means true bound h = leb-true _ _ h
  time_means false bound h = tt

  time_true : (deadlines : Bool) (bound : ℕ) → IsInTime sheet deadlines i bound → is_in_time sheet deadlines i bound ≡ true
  time_true true bound h = le-leb _ _ h
  time_true false bound h = refl

  named_none : (cond : Option Cond) → named i cond ≡ None → cond ≡ None
  named_none None h = refl
  named_none (Some cond) h = cc

  pub task_means : (deadlines : Bool) (e : Entry) → task_failed_of p m sbf sheet deadlines i e ≡ None → TaskMeets p m sbf sheet deadlines i e
  unfolding task_failed_of
  task_means deadlines e h =
      let parts = first_parts _ _ h in
      let whole = first_parts _ _ (named_none _ parts.0) in
      let later = first_parts _ _ whole.1 in
      let points = points_mean e.window e.bound None e.points e.terms parts.1 in
      record {
        covers = leb-true _ _ (must_holds _ _ whole.0);
        window = window_means e.window (must_holds _ _ later.0);
        in_time = time_means deadlines e.bound (must_holds _ _ later.1);
        points = points.0;
        terms = points.1;
      }

  pub task_none : (deadlines : Bool) (e : Entry) → TaskMeets p m sbf sheet deadlines i e → task_failed_of p m sbf sheet deadlines i e ≡ None
  unfolding task_failed_of
  task_none deadlines e meets =
      let later = first_from _ _ (must_from _ _ (window_true e.window meets.window)) (must_from _ _ (time_true deadlines e.bound meets.in_time)) in
      first_from _ _ (ap (named i) (first_from _ _ (must_from _ _ (le-leb _ _ meets.covers)) later))
      (points_none e.window e.bound None e.points e.terms meets.points meets.terms)

pub cert_means : (p : PolicyMeaning) (m : CutMeaning) (sbf : ℕ → ℕ) (sheet : SheetParts) (deadlines : Bool) (cert : Cert) →
    failed_of p m sbf sheet deadlines cert ≡ None → CertMeets p m sbf sheet deadlines cert
unfolding failed_of
cert_means p m sbf sheet deadlines cert h =
    let parts = first_parts _ _ h in
    record {
      count = eqb-true _ _ (must_holds _ _ parts.0);
      tasks = λ i l. task_means p m sbf sheet i deadlines (entry_at cert i)
          (none_below (λ k. task_failed_of p m sbf sheet deadlines k (entry_at cert k)) (length sheet.tasks) i parts.1 l);
    }

pub cert_none : (p : PolicyMeaning) (m : CutMeaning) (sbf : ℕ → ℕ) (sheet : SheetParts) (deadlines : Bool) (cert : Cert) →
    CertMeets p m sbf sheet deadlines cert → failed_of p m sbf sheet deadlines cert ≡ None
unfolding failed_of
cert_none p m sbf sheet deadlines cert meets =
    first_from _ _ (must_from _ _ (eq-eqb _ _ meets.count))
    (none_from (λ k. task_failed_of p m sbf sheet deadlines k (entry_at cert k)) (length sheet.tasks)
    (λ i l. task_none p m sbf sheet i deadlines (entry_at cert i) (meets.tasks i l)))
