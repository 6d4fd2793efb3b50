-- There is one answer at most, whatever the sheet.
use Rattle.std.proofs.Common.{◌≡◌, ℕ, zero, suc, ◌<◌, ◌≤◌, List, [], ◌∷◌, map, length, Result, Ok, Err, refl, ap, sym, ◌∙◌, subst, arith, inl, inr}
use Rattle.std.specs.List.{AllByRecursion}
use Rattle.std.proofs.lemmas.Bool.{cases_lt, cases_order}
use Rattle.std.proofs.lemmas.List.{ext_get_or, length-map}
use Rattle.lists.specs.Limits.{most_points}
use Rattle.lists.specs.Searches.{IsLeast}
use Rattle.task_sheet.specs.SheetParts.{SheetParts}
use Rattle.policy.specs.PolicyMeaning.{PolicyMeaning}
use Rattle.preemption.specs.CutMeaning.{CutMeaning}
use Rattle.certificate.specs.declared.cert.Entry.{Entry}
use Rattle.certificate.specs.declared.cert.Version.{Version}
use Rattle.certificate.specs.declared.cert.Terms.{Terms}
use Rattle.certificate.specs.declared.cert.Point.{Point}
use Rattle.certificate.specs.Text.{point_of}
use Rattle.certificate.specs.declared.cert.Cert.{Cert}
use Rattle.demand.specs.Meeting.{MeetsEnd}
use Rattle.conditions.specs.Conditions.{no_entry}
use Rattle.solver.specs.declared.analysis.AnalyseRefusal.{AnalyseRefusal}
use Rattle.solver.specs.declared.analysis.AnalyseRefusal.TheVariants.{NoBound, Points, Memory}
use Rattle.solver.specs.declared.analysis.Part.{Part}
use Rattle.solver.specs.declared.analysis.Part.TheVariants.{Window, Bound}
use Rattle.solver.specs.Points.{points_below}
use Rattle.solver.specs.Best.{IsBestEntry, MeetsEach, nth_entry, AreBest, points_to, IsBest, HaveEntries, HasNoWindow, HasLateBound, HasNoBound, HasManyPoints}
use Rattle.solver.specs.Answer.{IsAnswer}
use Rattle.solver.proofs.Unique.{same_least}

abbrev entry_of : ℕ → ℕ → List Point → List Terms → Entry
entry_of window bound points terms = record { window = window; bound = bound; points = points; terms = terms }

abbrev refused_by : ℕ → Part → Result Cert AnalyseRefusal
refused_by i part = Err (NoBound i part)

abbrev cert_of : Version → List Entry → Cert
cert_of version entries = record { version = version; entries = entries }

cert_same : (v w : Version) (es fs : List Entry) → v ≡ w → es ≡ fs → cert_of v es ≡ cert_of w fs
cert_same v w es fs e f = rw (e, f) refl

entry_same : (w v b c : ℕ) (qs rs : List Point) (ts us : List Terms) → w ≡ v → b ≡ c → qs ≡ rs → ts ≡ us → entry_of w b qs ts ≡ entry_of v c rs us
entry_same w v b c qs rs ts us e f g h = rw (e, f, g, h) refl

point_same : (a b x y : ℕ) → a ≡ b → x ≡ y → point_of a x ≡ point_of b y
point_same a b x y e f = rw (e, f) refl

module _ (p : PolicyMeaning) (m : CutMeaning) (sbf : ℕ → ℕ) (sheet : SheetParts) where
  same_points : (i : ℕ) (qs rs : List Point) → map (λ q. q.offset) qs ≡ map (λ q. q.offset) rs →
      AllByRecursion (λ q. IsLeast (MeetsEnd p m sbf sheet i q.offset) q.end) qs → AllByRecursion (λ q. IsLeast (MeetsEnd p m sbf sheet i q.offset) q.end) rs →
      qs ≡ rs
  same_points i [] [] e a b = refl
  same_points i [] (r ∷ rs) e a b = cc
  same_points i (q ∷ qs) [] e a b = cc
  same_points i (q ∷ qs) (r ∷ rs) e a b =
      let offset : q.offset ≡ r.offset = cc in
      let rest : map (λ s. s.offset) qs ≡ map (λ s. s.offset) rs = cc in
      let end : q.end ≡ r.end = same_least (MeetsEnd p m sbf sheet i q.offset) q.end r.end a.0
      (subst (λ k. IsLeast (MeetsEnd p m sbf sheet i k) r.end) (sym offset) b.0) in
      let first : q ≡ r = point_same q.offset r.offset q.end r.end offset end in
      let others : qs ≡ rs = same_points i qs rs rest a.1 b.1 in
      cc

  -- a task has one best entry
  pub same_entry : (i : ℕ) (e f : Entry) → IsBestEntry p m sbf sheet i e → IsBestEntry p m sbf sheet i f → e ≡ f
  same_entry i e f a b =
      let window : e.window ≡ f.window = same_least _ _ _ a.window b.window in
      let points : e.points ≡ f.points = same_points i e.points f.points (a.offsets ∙ ap (points_below p sheet i) window ∙ sym b.offsets) a.ends b.ends in
      let bound : e.bound ≡ f.bound = same_least (MeetsEach p m sbf sheet i e.points) e.bound f.bound a.bound
      (subst (λ qs. IsLeast (MeetsEach p m sbf sheet i qs) f.bound) (sym points) b.bound) in
      entry_same e.window f.window e.bound f.bound e.points f.points e.terms f.terms window bound points (a.plain ∙ sym b.plain)

points_rise : (entries : List Entry) (n m : ℕ) → n ≤ m → points_to entries n ≤ points_to entries m
points_rise entries n zero le = let e : n ≡ 0 = omega arith in omega (arith, ap (points_to entries) e)
points_rise entries n (suc m) le = elim (cases_lt m n) [
  | inl c ↦ let e : n ≡ suc m = omega arith in omega (arith, ap (points_to entries) e)
  | inr c ↦ omega (arith, points_rise entries n m c)
]

module _ (p : PolicyMeaning) (m : CutMeaning) (sbf : ℕ → ℕ) (sheet : SheetParts) (horizon : ℕ) where
  same_nth : (es fs : List Entry) (k : ℕ) → AreBest p m sbf sheet horizon es → AreBest p m sbf sheet horizon fs → k < length es →
      k < length fs → nth_entry es k ≡ nth_entry fs k
  same_nth es fs k a b l r = same_entry p m sbf sheet k (nth_entry es k) (nth_entry fs k) (a k l).best (b k r).best

  same_entries : (es fs : List Entry) → AreBest p m sbf sheet horizon es → AreBest p m sbf sheet horizon fs → length es ≡ length fs → es ≡ fs
  same_entries es fs a b e = ext_get_or no_entry es fs e (λ k l. same_nth es fs k a b l (omega (arith, e)))

  same_count : (es fs : List Entry) (n : ℕ) → AreBest p m sbf sheet horizon es → AreBest p m sbf sheet horizon fs →
      n ≤ length es → n ≤ length fs → points_to es n ≡ points_to fs n
  same_count es fs zero a b l r = refl
  same_count es fs (suc n) a b l r =
      omega (arith, same_count es fs n a b (omega arith) (omega arith), ap (λ (e : Entry). length e.points) (same_nth es fs n a b (omega arith) (omega arith)))

  -- the best entries of the first i tasks, with no more points than are allowed
  record HaveFirst (i : ℕ) (entries : List Entry) : Type 0 where
    pub count : length entries ≡ i
    pub best : AreBest p m sbf sheet horizon entries
    pub few : points_to entries i ≤ most_points

  -- no such entries go on past task i
  abbrev Stops : ℕ → Type 0
  Stops i = (j : ℕ) (entries : List Entry) → HaveFirst j entries → i < j → ⊥

  first_of_before : (i : ℕ) (entries : List Entry) → HaveEntries p m sbf sheet horizon i entries → HaveFirst i entries
  first_of_before i entries h = record { count = h.count; best = h.best; few = h.few }

  first_of_best : (cert : Cert) → IsBest p m sbf sheet horizon cert → HaveFirst (length sheet.tasks) cert.entries
  first_of_best cert h = record { count = h.count; best = h.best; few = h.few }

  no_window_stops : (i : ℕ) → HasNoWindow p m sbf sheet horizon i → Stops i
  no_window_stops i h j entries have lt =
      let own = have.best i (omega (arith, have.count)) in
      h.none (nth_entry entries i).window own.window own.best.window.holds

  late_stops : (i : ℕ) → HasLateBound p m sbf sheet horizon i → Stops i
  late_stops i h j entries have lt =
      let own = have.best i (omega (arith, have.count)) in
      let e : nth_entry entries i ≡ h.entry = same_entry p m sbf sheet i (nth_entry entries i) h.entry own.best h.best in
      omega (arith, own.bound, h.late, ap (λ (x : Entry). x.bound) e)

  no_bound_stops : (i : ℕ) (part : Part) → HasNoBound p m sbf sheet horizon i part → Stops i
  no_bound_stops i Window h = no_window_stops i h
  no_bound_stops i Bound h = late_stops i h

  many_stops : (i : ℕ) → HasManyPoints p m sbf sheet horizon i → Stops i
  many_stops i h j entries have lt =
      let own = have.best i (omega (arith, have.count)) in
      let e : Entry = nth_entry entries i in
      let window : e.window ≡ h.window = same_least _ _ _ own.best.window h.least in
      let points : length e.points ≡ length (points_below p sheet i h.window) =
      omega (arith, ap length own.best.offsets, length-map e.points (λ (q : Point). q.offset), ap (λ (w : ℕ). length (points_below p sheet i w)) window) in
      omega (
        arith,
        points,
        h.many,
        have.few,
        points_rise entries (suc i) j lt,
        same_count entries h.entries i have.best h.before.best (omega (arith, have.count)) (omega (arith, h.before.count)),
      )

  -- the tasks before one that has no bound have their entries
  firsts : (i : ℕ) (part : Part) → HasNoBound p m sbf sheet horizon i part → (entries : List Entry) × HaveEntries p m sbf sheet horizon i entries
  firsts i Window h = h.before
  firsts i Bound h = (h.entries, h.before)

  same_place : (i j : ℕ) (es fs : List Entry) → HaveEntries p m sbf sheet horizon i es → HaveEntries p m sbf sheet horizon j fs → Stops i → Stops j → i ≡ j
  same_place i j es fs a b stop_i stop_j = elim (cases_order i j) [
    | inl e ↦ e
    | inr (inl l) ↦ absurd (stop_i j fs (first_of_before j fs b) l)
    | inr (inr l) ↦ absurd (stop_j i es (first_of_before i es a) l)
  ]

  no_bound_place : (i j : ℕ) (a_part b_part : Part) → HasNoBound p m sbf sheet horizon i a_part → HasNoBound p m sbf sheet horizon j b_part → i ≡ j
  no_bound_place i j a_part b_part a b =
      let before = firsts i a_part a in
      let other = firsts j b_part b in
      same_place i j before.0 other.0 before.1 other.1 (no_bound_stops i a_part a) (no_bound_stops j b_part b)

  many_place : (i j : ℕ) → HasManyPoints p m sbf sheet horizon i → HasManyPoints p m sbf sheet horizon j → i ≡ j
  many_place i j a b = same_place i j a.entries b.entries a.before b.before (many_stops i a) (many_stops j b)

  -- a task that has a window has a window
  window_or_not : (i : ℕ) → HasNoWindow p m sbf sheet horizon i → HasLateBound p m sbf sheet horizon i → ⊥
  window_or_not i a b = a.none b.entry.window b.within b.best.window.holds

  same_part : (i : ℕ) (a_part b_part : Part) → HasNoBound p m sbf sheet horizon i a_part → HasNoBound p m sbf sheet horizon i b_part → a_part ≡ b_part
  same_part i Window Window a b = refl
  same_part i Window Bound a b = absurd (window_or_not i a b)
  same_part i Bound Window a b = absurd (window_or_not i b a)
  same_part i Bound Bound a b = refl

  no_bound_same : (i j : ℕ) (a_part b_part : Part) → HasNoBound p m sbf sheet horizon i a_part →
      HasNoBound p m sbf sheet horizon j b_part → refused_by i a_part ≡ refused_by j b_part
  no_bound_same i j a_part b_part a b =
      let e : i ≡ j = no_bound_place i j a_part b_part a b in
      let part : a_part ≡ b_part = same_part i a_part b_part a (subst (λ k. HasNoBound p m sbf sheet horizon k b_part) (sym e) b) in
      rw (e, part) refl

  -- a task with too many points has a window, and they are too many whatever its bound
  many_or_not : (i : ℕ) (part : Part) → HasNoBound p m sbf sheet horizon i part → HasManyPoints p m sbf sheet horizon i → ⊥
  many_or_not i Window a b = a.none b.window b.within b.least.holds
  many_or_not i Bound a b =
      let window : a.entry.window ≡ b.window = same_least _ _ _ a.best.window b.least in
      let points : length a.entry.points ≡ length (points_below p sheet i b.window) =
      omega (
        arith,
        ap length a.best.offsets,
        length-map a.entry.points (λ (q : Point). q.offset),
        ap (λ (w : ℕ). length (points_below p sheet i w)) window,
      ) in
      omega (
        arith,
        points,
        a.few,
        b.many,
        same_count a.entries b.entries i a.before.best b.before.best
            (omega (arith, a.before.count)) (omega (arith, b.before.count)),
      )

  one_cause : (i j : ℕ) (part : Part) → HasNoBound p m sbf sheet horizon i part → HasManyPoints p m sbf sheet horizon j → ⊥
  one_cause i j part a b =
      let before = firsts i part a in
      let e : j ≡ i = sym (same_place i j before.0 b.entries before.1 b.before (no_bound_stops i part a) (many_stops j b)) in
      many_or_not i part a (subst (λ k. HasManyPoints p m sbf sheet horizon k) e b)

  best_has_bounds : (cert : Cert) (i : ℕ) (part : Part) → IsBest p m sbf sheet horizon cert → HasNoBound p m sbf sheet horizon i part → ⊥
  best_has_bounds cert i part a b = no_bound_stops i part b (length sheet.tasks) cert.entries (first_of_best cert a) (firsts i part b).1.task

  best_has_few : (cert : Cert) (i : ℕ) → IsBest p m sbf sheet horizon cert → HasManyPoints p m sbf sheet horizon i → ⊥
  best_has_few cert i a b = many_stops i b (length sheet.tasks) cert.entries (first_of_best cert a) b.before.task

  same_best : (c d : Cert) → IsBest p m sbf sheet horizon c → IsBest p m sbf sheet horizon d → c ≡ d
  same_best c d a b = cert_same c.version d.version c.entries d.entries (a.version ∙ sym b.version)
      (same_entries c.entries d.entries a.best b.best (omega (arith, a.count, b.count)))

  pub answers_same : (r s : Result Cert AnalyseRefusal) → IsAnswer p m sbf sheet horizon r → IsAnswer p m sbf sheet horizon s → r ≡ s
  answers_same (Ok c) (Ok d) a b = ap (λ (x : Cert). Ok x) (same_best c d a b)
  answers_same (Ok c) (Err (NoBound i part)) a b = absurd (best_has_bounds c i part a b)
  answers_same (Ok c) (Err (Points i)) a b = absurd (best_has_few c i a b)
  answers_same (Ok c) (Err Memory) a b = absurd b
  answers_same (Err (NoBound i part)) (Ok d) a b = absurd (best_has_bounds d i part b a)
  answers_same (Err (NoBound i part)) (Err (NoBound j other)) a b = no_bound_same i j part other a b
  answers_same (Err (NoBound i part)) (Err (Points j)) a b = absurd (one_cause i j part a b)
  answers_same (Err (NoBound i part)) (Err Memory) a b = absurd b
  answers_same (Err (Points i)) (Ok d) a b = absurd (best_has_few d i b a)
  answers_same (Err (Points i)) (Err (NoBound j part)) a b = absurd (one_cause j i part b a)
  answers_same (Err (Points i)) (Err (Points j)) a b = ap (λ (k : ℕ). Err (Points k)) (many_place i j a b)
  answers_same (Err (Points i)) (Err Memory) a b = absurd b
  answers_same (Err Memory) s a b = absurd a
