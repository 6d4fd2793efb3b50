-- The best certificate as a function.
use Rattle.std.specs.Prelude.{◌≡◌, ℕ, zero, suc, ◌+◌, nat_le, ◌&&◌, Bool, true, cond, Option, Some, None, List, [], ◌∷◌, ◌++◌, map, length, Result, Ok, Err}
use Rattle.lists.specs.Limits.{most_points}
use Rattle.lists.specs.Firsts.{first_of}
use Rattle.task_sheet.specs.SheetParts.{SheetParts}
use Rattle.task_sheet.specs.Sheets.{task_at}
use Rattle.policy.specs.PolicyMeaning.{PolicyMeaning}
use Rattle.preemption.specs.CutMeaning.{CutMeaning}
use Rattle.certificate.specs.declared.cert.Version.TheVariants.{One}
use Rattle.certificate.specs.declared.cert.Entry.{Entry}
use Rattle.certificate.specs.declared.cert.Point.{Point}
use Rattle.certificate.specs.Text.{point_of}
use Rattle.certificate.specs.declared.cert.Cert.{Cert}
use Rattle.conditions.specs.Conditions.{covers_jitter, is_window, ends_within, meets_end, rest_within}
use Rattle.solver.specs.Points.{points_below}
use Rattle.solver.specs.Best.{points_to}
use Rattle.solver.specs.declared.analysis.AnalyseRefusal.{AnalyseRefusal}
use Rattle.solver.specs.declared.analysis.AnalyseRefusal.TheVariants.{NoBound, Points, Memory}
use Rattle.solver.specs.declared.analysis.Part.TheVariants.{Window, Bound}

-- the least number up to a limit that passes a test
unfoldable pub least_to : (ℕ → Bool) → ℕ → Option ℕ
least_to test zero = cond (test 0) (Some 0) None
least_to test (suc n) = first_of (least_to test n) (cond (test (suc n)) (Some (suc n)) None)

abbrev pub or_zero : Option ℕ → ℕ
or_zero None = 0
or_zero (Some n) = n

-- K6 and K8 at every point
abbrev pub meets_each : PolicyMeaning → CutMeaning → (ℕ → ℕ) → SheetParts → ℕ → List Point → ℕ → Bool
meets_each p m sbf sheet i [] bound = true
meets_each p m sbf sheet i (q ∷ qs) bound =
    (ends_within sheet i q.offset q.end bound && rest_within p m sbf sheet i q.offset q.end bound) && meets_each p m sbf sheet i qs bound

-- K2, and K6 and K8 at every point
abbrev pub meets_bound : PolicyMeaning → CutMeaning → (ℕ → ℕ) → SheetParts → ℕ → List Point → ℕ → Bool
meets_bound p m sbf sheet i points bound = covers_jitter sheet i bound && meets_each p m sbf sheet i points bound

-- the points below a window with their least ends
unfoldable pub best_points : PolicyMeaning → CutMeaning → (ℕ → ℕ) → SheetParts → ℕ → ℕ → List Point
best_points p m sbf sheet i window = map (λ a. point_of a (or_zero (least_to (meets_end p m sbf sheet i a) window))) (points_below p sheet i window)

-- the entry with this window, those points, and the least bound for them, which is at most the window and the jitter
unfoldable pub best_of_window : PolicyMeaning → CutMeaning → (ℕ → ℕ) → SheetParts → ℕ → ℕ → Entry
best_of_window p m sbf sheet i window =
    let points = best_points p m sbf sheet i window in
    record { window = window; bound = or_zero (least_to (meets_bound p m sbf sheet i points) (window + (task_at sheet i).jitter)); points = points; terms = [] }

-- the entries with that of task i, where its bound is up to the horizon
abbrev pub bounded_entry : ℕ → ℕ → List Entry → Entry → Result (List Entry) AnalyseRefusal
bounded_entry horizon i entries e = cond (nat_le e.bound horizon) (Ok (entries ++ e ∷ [])) (Err (NoBound i Bound))

-- the entries before task i, with that of i for its window; or why there is none
abbrev pub with_entry : PolicyMeaning → CutMeaning → (ℕ → ℕ) → SheetParts → ℕ → ℕ → List Entry → Option ℕ → Result (List Entry) AnalyseRefusal
with_entry p m sbf sheet horizon i entries None = Err (NoBound i Window)
with_entry p m sbf sheet horizon i entries (Some window) =
    cond (nat_le (points_to entries i + length (points_below p sheet i window)) most_points)
    (bounded_entry horizon i entries (best_of_window p m sbf sheet i window)) (Err (Points i))

abbrev pub next_entries : PolicyMeaning → CutMeaning → (ℕ → ℕ) → SheetParts → ℕ → ℕ → Result (List Entry) AnalyseRefusal → Result (List Entry) AnalyseRefusal
next_entries p m sbf sheet horizon i (Err e) = Err e
next_entries p m sbf sheet horizon i (Ok entries) = with_entry p m sbf sheet horizon i entries (least_to (is_window p m sbf sheet i) horizon)

-- the best entries of the first n tasks, or why there is none for one of them
unfoldable pub first_entries : PolicyMeaning → CutMeaning → (ℕ → ℕ) → SheetParts → ℕ → ℕ → Result (List Entry) AnalyseRefusal
first_entries p m sbf sheet horizon zero = Ok []
first_entries p m sbf sheet horizon (suc n) = next_entries p m sbf sheet horizon n (first_entries p m sbf sheet horizon n)

abbrev pub as_cert : Result (List Entry) AnalyseRefusal → Result Cert AnalyseRefusal
as_cert (Ok entries) = Ok (record { version = One; entries = entries })
as_cert (Err e) = Err e

-- the best certificate up to the horizon, or why there is none
unfoldable pub best_of : PolicyMeaning → CutMeaning → (ℕ → ℕ) → SheetParts → ℕ → Result Cert AnalyseRefusal
best_of p m sbf sheet horizon = as_cert (first_entries p m sbf sheet horizon (length sheet.tasks))

-- the answer is the best certificate or why there is none, unless memory ran out
abbrev pub IsBestAnswer : PolicyMeaning → CutMeaning → (ℕ → ℕ) → SheetParts → ℕ → Result Cert AnalyseRefusal → Type 0
IsBestAnswer p m sbf sheet horizon (Ok cert) = best_of p m sbf sheet horizon ≡ Ok cert
IsBestAnswer p m sbf sheet horizon (Err (NoBound i part)) = best_of p m sbf sheet horizon ≡ Err (NoBound i part)
IsBestAnswer p m sbf sheet horizon (Err (Points i)) = best_of p m sbf sheet horizon ≡ Err (Points i)
IsBestAnswer p m sbf sheet horizon (Err Memory) = Unit {0}
