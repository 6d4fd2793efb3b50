use Rattle.std.proofs.Common.{◌≡◌, ℕ, zero, suc, ◌+◌, ◌-◌, ◌<◌, ◌≤◌, List, [], ◌∷◌, ◌++◌, length, ap, sym, ◌∙◌, subst, refl, add-one, arith, inl, inr}
use Rattle.std.proofs.Common.{length-append}
use Rattle.std.proofs.lemmas.Bool.{cases_lt}
use Rattle.std.proofs.lemmas.List.{length-map}
use Rattle.std.proofs.Math.ListN.{get_or-append}
use Rattle.std.proofs.Math.Seq.{get_or-append_seam}
use Rattle.lists.specs.Limits.{most_points}
use Rattle.task_sheet.specs.SheetParts.{SheetParts}
use Rattle.policy.specs.PolicyMeaning.{PolicyMeaning}
use Rattle.preemption.specs.CutMeaning.{CutMeaning}
use Rattle.certificate.specs.declared.cert.Version.TheVariants.{One}
use Rattle.certificate.specs.declared.cert.Entry.{Entry}
use Rattle.certificate.specs.declared.cert.Point.{Point}
use Rattle.solver.specs.Points.{points_below}
use Rattle.solver.specs.Best.{IsBestUpTo, nth_entry, AreBest, points_to, HaveEntries, IsBest}

-- the entries of the first i tasks, and how many points may follow
pub record EntriesSoFar (p : PolicyMeaning) (m : CutMeaning) (sbf : ℕ → ℕ) (sheet : SheetParts) (horizon i room : ℕ) (entries : List Entry) : Type 0 where
  pub count : length entries ≡ i
  pub best : AreBest p m sbf sheet horizon entries
  pub room_left : points_to entries i + room ≡ most_points

entry_before : (entries : List Entry) (e : Entry) (k : ℕ) → k < length entries → nth_entry (entries ++ e ∷ []) k ≡ nth_entry entries k
entry_before entries e k l = get_or-append entries (e ∷ []) _ k l

entry_last : (entries : List Entry) (e : Entry) → nth_entry (entries ++ e ∷ []) (length entries) ≡ e
entry_last entries e = get_or-append_seam entries e [] _

-- the points of the entries before the last
pub points_before : (entries : List Entry) (e : Entry) (n : ℕ) → n ≤ length entries → points_to (entries ++ e ∷ []) n ≡ points_to entries n
points_before entries e zero l = refl
points_before entries e (suc n) l =
    omega (arith, points_before entries e n (omega arith), ap (λ (x : Entry). length x.points) (entry_before entries e n (omega arith)))

-- an entry has no more points than all up to it
pub points_one : (entries : List Entry) (n i : ℕ) → i < n → length (nth_entry entries i).points ≤ points_to entries n
points_one entries zero i l = absurd (omega arith)
points_one entries (suc n) i l = elim (cases_lt i n) [
  | inl c ↦ omega (arith, points_one entries n i c)
  | inr c ↦
      let e : i ≡ n = omega arith in
      omega (arith, ap (λ (k : ℕ). length (nth_entry entries k).points) e)
]

module _ (p : PolicyMeaning) (m : CutMeaning) (sbf : ℕ → ℕ) (sheet : SheetParts) (horizon : ℕ) where
  pub entries_none : EntriesSoFar p m sbf sheet horizon 0 most_points []
  entries_none = record { count = refl; best = λ i l. absurd (omega arith); room_left = refl }

  pub entries_more : (i room count : ℕ) (entries : List Entry) (e : Entry) → EntriesSoFar p m sbf sheet horizon i room entries →
      IsBestUpTo p m sbf sheet horizon i e →
      count ≡ length (points_below p sheet i e.window) → count ≤ room → EntriesSoFar p m sbf sheet horizon (i + 1) (room - count) (entries ++ e ∷ [])
  entries_more i room count entries e so_far best counted le =
      let own : length e.points ≡ count = omega (arith, counted, ap length best.best.offsets, length-map e.points (λ (q : Point). q.offset)) in
      record {
        count = omega (arith, length-append entries (e ∷ []), so_far.count);
        best = λ k l. elim (cases_lt k (length entries)) [
          | inl c ↦ subst (λ x. IsBestUpTo p m sbf sheet horizon k x) (sym (entry_before entries e k c)) (so_far.best k c)
          | inr c ↦
              let here : length entries ≡ k = omega (arith, length-append entries (e ∷ [])) in
              let now : e ≡ nth_entry (entries ++ e ∷ []) k = sym (entry_last entries e) ∙ ap (nth_entry (entries ++ e ∷ [])) here in
              let task : i ≡ k = omega (arith, so_far.count) in
              subst (λ x. IsBestUpTo p m sbf sheet horizon k x) now (subst (λ n. IsBestUpTo p m sbf sheet horizon n e) task best)
        ];
        room_left =
            rw (add-one i)
            (omega (
              arith,
              so_far.room_left,
              points_before entries e i (omega (arith, so_far.count)),
              ap (λ (x : Entry). length x.points) (entry_last entries e),
              ap (λ (n : ℕ). length (nth_entry (entries ++ e ∷ []) n).points) so_far.count,
            ));
      }

  pub entries_counted : (i room count : ℕ) (entries : List Entry) (e : Entry) →
      EntriesSoFar p m sbf sheet horizon i room entries → IsBestUpTo p m sbf sheet horizon i e →
      count ≡ length e.points → count ≤ room → EntriesSoFar p m sbf sheet horizon (i + 1) (room - count) (entries ++ e ∷ [])
  entries_counted i room count entries e so_far best counted le =
      entries_more i room count entries e so_far best (omega (arith, counted, ap length best.best.offsets, length-map e.points (λ (q : Point). q.offset))) le

  pub have_entries : (i room : ℕ) (entries : List Entry) → i < length sheet.tasks →
      EntriesSoFar p m sbf sheet horizon i room entries → HaveEntries p m sbf sheet horizon i entries
  have_entries i room entries l so_far = record { task = l; count = so_far.count; best = so_far.best; few = omega (arith, so_far.room_left) }

  pub all_entries : (n room : ℕ) (entries : List Entry) → n ≡ length sheet.tasks →
      EntriesSoFar p m sbf sheet horizon n room entries → IsBest p m sbf sheet horizon (record { version = One; entries = entries })
  all_entries n room entries e so_far = record {
    version = refl;
    count = omega (arith, e, so_far.count);
    best = so_far.best;
    few =
        omega (arith, so_far.room_left, ap (points_to entries) e);
  }
