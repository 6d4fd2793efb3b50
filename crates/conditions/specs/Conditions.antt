-- The conditions of a certificate, and the first that fails.
use Rattle.std.specs.Prelude.{ℕ, ◌+◌, ◌-◌, ◌==◌, ◌&&◌, Bool, true, false, nat_le, nat_lt, Option, Some, None, List, [], ◌∷◌, length, slice_index_or}
use Rattle.lists.specs.Firsts.{first_of, must, first_below}
use Rattle.task_sheet.specs.SheetParts.{SheetParts}
use Rattle.task_sheet.specs.Sheets.{task_at}
use Rattle.policy.specs.PolicyMeaning.{PolicyMeaning}
use Rattle.preemption.specs.CutMeaning.{CutMeaning}
use Rattle.demand.specs.Demand.{rest_of, need_of, window_need_of}
use Rattle.search_space.specs.Points.{same_at}
use Rattle.certificate.specs.declared.cert.Entry.{Entry}
use Rattle.certificate.specs.declared.cert.Cert.{Cert}
use Rattle.certificate.specs.declared.cert.Terms.{Terms}
use Rattle.certificate.specs.Text.{PointLine, lines_of}
use Rattle.conditions.specs.PointTerms.{tells_terms}
use Rattle.conditions.specs.declared.failed.Cond.{Cond}
use Rattle.conditions.specs.declared.failed.Cond.TheVariants.{K1, K2, K3, K4, K5, K6, K7, K8, K9, K10}
use Rattle.conditions.specs.declared.failed.Failed.{Failed}

-- what stands past the last entry
unfoldable pub no_entry : Entry
no_entry = record { window = 0; bound = 0; points = []; terms = [] }

abbrev pub entry_at : Cert → ℕ → Entry
entry_at cert i = slice_index_or cert.entries i no_entry

-- a failure of the whole certificate
abbrev pub of_cert : Cond → Failed
of_cert cond = record { cond = cond; task = None; point = None }

-- a failure of task i
abbrev pub of_task : ℕ → Cond → Failed
of_task i cond = record { cond = cond; task = Some i; point = None }

-- a failure of task i at offset a
abbrev pub of_point : ℕ → ℕ → Cond → Failed
of_point i a cond = record { cond = cond; task = Some i; point = Some a }

-- K2: the bound covers the jitter
abbrev pub covers_jitter : SheetParts → ℕ → ℕ → Bool
covers_jitter sheet i bound = nat_le (task_at sheet i).jitter bound

-- K3: the window is not 0, and its supply covers the demand of the class
abbrev pub is_window : PolicyMeaning → CutMeaning → (ℕ → ℕ) → SheetParts → ℕ → ℕ → Bool
is_window p m sbf sheet i window = nat_le 1 window && nat_le (window_need_of p m sheet i window) (sbf window)

-- K9: where deadlines are judged, the bound is at most the deadline
abbrev pub is_in_time : SheetParts → Bool → ℕ → ℕ → Bool
is_in_time sheet false i bound = true
is_in_time sheet true i bound = nat_le bound (task_at sheet i).deadline

-- K4, without the window: the first offset is 0, and each other is greater than the one before
abbrev pub comes_next : Option ℕ → ℕ → Bool
comes_next None a = a == 0
comes_next (Some before) a = nat_lt before a

-- K2, K3 and K9
abbrev pub entry_failed_of : PolicyMeaning → CutMeaning → (ℕ → ℕ) → SheetParts → Bool → ℕ → ℕ → ℕ → Option Cond
entry_failed_of p m sbf sheet deadlines i window bound =
    first_of (must (covers_jitter sheet i bound) K2)
    (first_of (must (is_window p m sbf sheet i window) K3)
    (must (is_in_time sheet deadlines i bound) K9))

-- K6: the end lies within the bound, which counts from the arrival
abbrev pub ends_within : SheetParts → ℕ → ℕ → ℕ → ℕ → Bool
ends_within sheet i a x bound = nat_le (x + (task_at sheet i).jitter) (a + bound)

-- K7: the supply up to the end covers the demand
abbrev pub meets_end : PolicyMeaning → CutMeaning → (ℕ → ℕ) → SheetParts → ℕ → ℕ → ℕ → Bool
meets_end p m sbf sheet i a x = nat_le (need_of p m sheet i a x) (sbf x)

-- K8: the supply up to the bound covers the demand and the rest of the job
abbrev pub rest_within : PolicyMeaning → CutMeaning → (ℕ → ℕ) → SheetParts → ℕ → ℕ → ℕ → ℕ → Bool
rest_within p m sbf sheet i a x bound = nat_le (need_of p m sheet i a x + rest_of m sheet i) (sbf (a + bound - (task_at sheet i).jitter))

-- K5: no number tells the offset before and the last one before q apart
abbrev pub gap_failed_of : PolicyMeaning → SheetParts → ℕ → Option ℕ → ℕ → Option Failed
gap_failed_of p sheet i None q = None
gap_failed_of p sheet i (Some before) q = must (same_at p sheet i before (q - 1)) (of_point i before K5)

-- K4, K5 for the gap from the offset before, K6, K7, K8 and K10 at the point (a, x), whose terms are told or not
abbrev pub point_failed_of : PolicyMeaning → CutMeaning → (ℕ → ℕ) → SheetParts → ℕ → ℕ → ℕ → Option ℕ → ℕ → ℕ → Option Terms → Option Failed
point_failed_of p m sbf sheet i window bound before a x told =
    first_of (must (comes_next before a && nat_lt a window) (of_point i a K4))
    (first_of (gap_failed_of p sheet i before a)
    (first_of (must (ends_within sheet i a x bound) (of_point i a K6))
    (first_of (must (meets_end p m sbf sheet i a x) (of_point i a K7))
    (first_of (must (rest_within p m sbf sheet i a x bound) (of_point i a K8))
    (must (tells_terms p m sheet i a x told) (of_point i a K10))))))

-- the points that follow the offset before, each as its line tells it, and the gap from the last of them to the window's end
abbrev pub points_failed_of : PolicyMeaning → CutMeaning → (ℕ → ℕ) → SheetParts → ℕ → ℕ → ℕ → Option ℕ → List PointLine → Option Failed
points_failed_of p m sbf sheet i window bound before [] = gap_failed_of p sheet i before window
points_failed_of p m sbf sheet i window bound before (l ∷ ls) =
    first_of (point_failed_of p m sbf sheet i window bound before l.point.offset l.point.end l.terms)
    (points_failed_of p m sbf sheet i window bound (Some l.point.offset) ls)

-- a condition of the entry as a whole, with its task
abbrev pub named : ℕ → Option Cond → Option Failed
named i None = None
named i (Some cond) = Some (of_task i cond)

-- task i and its entry
unfoldable pub task_failed_of : PolicyMeaning → CutMeaning → (ℕ → ℕ) → SheetParts → Bool → ℕ → Entry → Option Failed
task_failed_of p m sbf sheet deadlines i e =
    first_of (named i (entry_failed_of p m sbf sheet deadlines i e.window e.bound))
    (points_failed_of p m sbf sheet i e.window e.bound None (lines_of e.points e.terms))

-- the first n tasks and their entries
abbrev pub tasks_failed_of : PolicyMeaning → CutMeaning → (ℕ → ℕ) → SheetParts → Bool → Cert → ℕ → Option Failed
tasks_failed_of p m sbf sheet deadlines cert n = first_below (λ i. task_failed_of p m sbf sheet deadlines i (entry_at cert i)) n

-- the first condition that fails of a certificate: K1, then those of the tasks in their order
unfoldable pub failed_of : PolicyMeaning → CutMeaning → (ℕ → ℕ) → SheetParts → Bool → Cert → Option Failed
failed_of p m sbf sheet deadlines cert =
    first_of (must (length cert.entries == length sheet.tasks) (of_cert K1)) (tasks_failed_of p m sbf sheet deadlines cert (length sheet.tasks))
