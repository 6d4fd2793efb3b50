-- Policies that say the same have the same conditions.
use Rattle.std.proofs.Common.{◌≡◌, ℕ, zero, suc, ◌-◌, ◌<◌, ◌&&◌, nat_le, nat_lt, Bool, Option, Some, None, List, [], ◌∷◌, length, refl, ap, arith}
use Rattle.lists.specs.Firsts.{first_of, must, first_below}
use Rattle.task_sheet.specs.declared.tasks.PolicyKind.{PolicyKind}
use Rattle.task_sheet.specs.SheetParts.{SheetParts}
use Rattle.policy.specs.PolicyMeaning.{PolicyMeaning}
use Rattle.preemption.specs.CutMeaning.{CutMeaning}
use Rattle.certificate.specs.declared.cert.Entry.{Entry}
use Rattle.certificate.specs.declared.cert.Cert.{Cert}
use Rattle.certificate.specs.declared.cert.Terms.{Terms}
use Rattle.certificate.specs.Text.{PointLine, lines_of}
use Rattle.conditions.specs.PointTerms.{tells_terms}
use Rattle.demand.specs.Demand.{need_of, rest_of, window_need_of}
use Rattle.conditions.specs.Conditions.{entry_at, is_window, meets_end, rest_within, entry_failed_of, gap_failed_of, point_failed_of}
use Rattle.conditions.specs.Conditions.{points_failed_of, task_failed_of, tasks_failed_of, failed_of}
use Rattle.policy_pairs.proofs.Alike.{twin, IsAlike, others_same, blocking_same, own_same, need_same, window_need_same, at_same}

first_same : {F : Type 0} (f g : ℕ → Option F) (n : ℕ) → ((k : ℕ) → k < n → f k ≡ g k) → first_below f n ≡ first_below g n
first_same f g zero same = refl
first_same f g (suc n) same = rw (first_same f g n (λ k b. same k (omega arith)), same n (omega arith)) refl

module _ (p q : PolicyMeaning) (m : CutMeaning) (sbf : ℕ → ℕ) (s : SheetParts) (k : PolicyKind) (same : IsAlike p q s (twin s k)) where
  module _ (i : ℕ) (here : i < length s.tasks) where
    pub is_window_same : (window : ℕ) → is_window p m sbf s i window ≡ is_window q m sbf (twin s k) i window
    is_window_same window = rw (window_need_same p q m s k same i here window) refl

    pub meets_end_same : (a x : ℕ) → meets_end p m sbf s i a x ≡ meets_end q m sbf (twin s k) i a x
    meets_end_same a x = rw (need_same p q m s k same i here a x) refl

    pub rest_within_same : (a x bound : ℕ) → rest_within p m sbf s i a x bound ≡ rest_within q m sbf (twin s k) i a x bound
    rest_within_same a x bound = rw (need_same p q m s k same i here a x) refl

    entry_same : (deadlines : Bool) (window bound : ℕ) →
        entry_failed_of p m sbf s deadlines i window bound ≡ entry_failed_of q m sbf (twin s k) deadlines i window bound
    entry_same deadlines window bound = rw (is_window_same window) refl

    gap_same : (before : Option ℕ) (a : ℕ) → gap_failed_of p s i before a ≡ gap_failed_of q (twin s k) i before a
    gap_same None a = refl
    gap_same (Some before) a = rw (at_same p q m s k same i here before (a - 1)) refl

    told_same : (a x : ℕ) (told : Option Terms) → tells_terms p m s i a x told ≡ tells_terms q m (twin s k) i a x told
    told_same a x None = refl
    told_same a x (Some told) =
        rw (
          blocking_same p q m s k same i here a,
          own_same p q m s k same i here a,
          others_same p q m s k same i here a x,
          need_same p q m s k same i here a x,
        ) refl

    point_same : (window bound : ℕ) (before : Option ℕ) (a x : ℕ) (told : Option Terms) →
        point_failed_of p m sbf s i window bound before a x told ≡ point_failed_of q m sbf (twin s k) i window bound before a x told
    point_same window bound before a x told =
        rw (gap_same before a, meets_end_same a x, rest_within_same a x bound, told_same a x told) refl

    points_failed_same : (window bound : ℕ) (before : Option ℕ) (lines : List PointLine) →
        points_failed_of p m sbf s i window bound before lines ≡ points_failed_of q m sbf (twin s k) i window bound before lines
    points_failed_same window bound before [] = gap_same before window
    points_failed_same window bound before (l ∷ ls) =
        rw (point_same window bound before l.point.offset l.point.end l.terms, points_failed_same window bound (Some l.point.offset) ls) refl

    task_same : (deadlines : Bool) (e : Entry) → task_failed_of p m sbf s deadlines i e ≡ task_failed_of q m sbf (twin s k) deadlines i e
    unfolding task_failed_of
    task_same deadlines e =
        rw (entry_same deadlines e.window e.bound, points_failed_same e.window e.bound None (lines_of e.points e.terms)) refl

  pub failed_same : (deadlines : Bool) (cert : Cert) → failed_of p m sbf s deadlines cert ≡ failed_of q m sbf (twin s k) deadlines cert
  unfolding failed_of
  failed_same deadlines cert =
      let each = first_same (λ i. task_failed_of p m sbf s deadlines i (entry_at cert i))
      (λ i. task_failed_of q m sbf (twin s k) deadlines i (entry_at cert i)) (length s.tasks)
      (λ i here. task_same i here deadlines (entry_at cert i)) in
      rw each refl
