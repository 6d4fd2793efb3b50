-- The best certificate, and why there is none.
use Rattle.std.specs.Prelude.{◌≡◌, ℕ, zero, suc, ◌+◌, ◌<◌, ◌≤◌, false, None, List, [], map, length, All, slice_index_or}
use Rattle.std.specs.List.{AllByRecursion}
use Rattle.lists.specs.Limits.{most_points}
use Rattle.lists.specs.Searches.{IsLeast}
use Rattle.task_sheet.specs.SheetParts.{SheetParts}
use Rattle.policy.specs.PolicyMeaning.{PolicyMeaning}
use Rattle.preemption.specs.CutMeaning.{CutMeaning}
use Rattle.certificate.specs.declared.cert.Version.TheVariants.{One}
use Rattle.certificate.specs.declared.cert.Entry.{Entry}
use Rattle.certificate.specs.declared.cert.Point.{Point}
use Rattle.certificate.specs.declared.cert.Cert.{Cert}
use Rattle.demand.specs.Meeting.{CoversJitter, IsWindow, MeetsEnd, MeetsBound}
use Rattle.conditions.specs.Conditions.{no_entry, entry_at, failed_of}
use Rattle.solver.specs.Points.{points_below}
use Rattle.solver.specs.declared.analysis.AnalyseRefusal.{AnalyseRefusal}
use Rattle.solver.specs.declared.analysis.AnalyseRefusal.TheVariants.{NoBound, Points, Memory}
use Rattle.solver.specs.declared.analysis.Part.{Part}
use Rattle.solver.specs.declared.analysis.Part.TheVariants.{Window, Bound}

-- the bound meets K2, and K6 and K8 at every point
pub record MeetsEach (p : PolicyMeaning) (m : CutMeaning) (sbf : ℕ → ℕ) (sheet : SheetParts) (i : ℕ) (points : List Point) (bound : ℕ) : Type 0 where
  pub covers : CoversJitter sheet i bound
  pub each : AllByRecursion (λ q. MeetsBound p m sbf sheet i q.offset q.end bound) points

-- the best entry of task i: its window is the least that meets K3, its offsets are the points below it,
-- each end is the least that meets K7, and the bound the least that meets K2, and K6 and K8 at every point; it says
-- no terms
pub record IsBestEntry (p : PolicyMeaning) (m : CutMeaning) (sbf : ℕ → ℕ) (sheet : SheetParts) (i : ℕ) (e : Entry) : Type 0 where
  pub window : IsLeast (IsWindow p m sbf sheet i) e.window
  pub offsets : map (λ q. q.offset) e.points ≡ points_below p sheet i e.window
  pub ends : AllByRecursion (λ q. IsLeast (MeetsEnd p m sbf sheet i q.offset) q.end) e.points
  pub bound : IsLeast (MeetsEach p m sbf sheet i e.points) e.bound
  pub plain : e.terms ≡ []

abbrev pub nth_entry : List Entry → ℕ → Entry
nth_entry entries i = slice_index_or entries i no_entry

-- the best entry of task i, with its window and its bound up to the horizon
pub record IsBestUpTo (p : PolicyMeaning) (m : CutMeaning) (sbf : ℕ → ℕ) (sheet : SheetParts) (horizon i : ℕ) (e : Entry) : Type 0 where
  pub window : e.window ≤ horizon
  pub bound : e.bound ≤ horizon
  pub best : IsBestEntry p m sbf sheet i e

-- the entries are the best of the first tasks, with windows and bounds up to the horizon
abbrev pub AreBest : PolicyMeaning → CutMeaning → (ℕ → ℕ) → SheetParts → ℕ → List Entry → Type 0
AreBest p m sbf sheet horizon entries = (i : ℕ) → i < length entries → IsBestUpTo p m sbf sheet horizon i (nth_entry entries i)

-- how many points the first n entries have
abbrev pub points_to : List Entry → ℕ → ℕ
points_to entries zero = 0
points_to entries (suc n) = points_to entries n + length (nth_entry entries n).points

-- the best certificate up to the horizon, in the first version
pub record IsBest (p : PolicyMeaning) (m : CutMeaning) (sbf : ℕ → ℕ) (sheet : SheetParts) (horizon : ℕ) (cert : Cert) : Type 0 where
  pub version : cert.version ≡ One
  pub count : length cert.entries ≡ length sheet.tasks
  pub best : AreBest p m sbf sheet horizon cert.entries
  pub few : points_to cert.entries (length sheet.tasks) ≤ most_points

-- the tasks before i have their best entries, and no more points than are allowed
pub record HaveEntries (p : PolicyMeaning) (m : CutMeaning) (sbf : ℕ → ℕ) (sheet : SheetParts) (horizon i : ℕ) (entries : List Entry) : Type 0 where
  pub task : i < length sheet.tasks
  pub count : length entries ≡ i
  pub best : AreBest p m sbf sheet horizon entries
  pub few : points_to entries i ≤ most_points

-- each task before i has its entry, and no window of i up to the horizon meets K3
pub record HasNoWindow (p : PolicyMeaning) (m : CutMeaning) (sbf : ℕ → ℕ) (sheet : SheetParts) (horizon i : ℕ) : Type 0 where
  pub before : (entries : List Entry) × HaveEntries p m sbf sheet horizon i entries
  pub none : (window : ℕ) → window ≤ horizon → IsWindow p m sbf sheet i window → ⊥

-- each task before i has its entry and i a window, with whose points there are more than are allowed
pub record HasManyPoints (p : PolicyMeaning) (m : CutMeaning) (sbf : ℕ → ℕ) (sheet : SheetParts) (horizon i : ℕ) : Type 0 where
  pub entries : List Entry
  pub before : HaveEntries p m sbf sheet horizon i entries
  pub window : ℕ
  pub within : window ≤ horizon
  pub least : IsLeast (IsWindow p m sbf sheet i) window
  pub many : most_points < points_to entries i + length (points_below p sheet i window)

-- each task before i has its entry and i a window, with whose points there are no more than are allowed, and
-- the least bound for them is above the horizon
pub record HasLateBound (p : PolicyMeaning) (m : CutMeaning) (sbf : ℕ → ℕ) (sheet : SheetParts) (horizon i : ℕ) : Type 0 where
  pub entries : List Entry
  pub before : HaveEntries p m sbf sheet horizon i entries
  pub entry : Entry
  pub best : IsBestEntry p m sbf sheet i entry
  pub within : entry.window ≤ horizon
  pub few : points_to entries i + length entry.points ≤ most_points
  pub late : horizon < entry.bound

-- task i has no bound, for want of this part
abbrev pub HasNoBound : PolicyMeaning → CutMeaning → (ℕ → ℕ) → SheetParts → ℕ → ℕ → Part → Type 0
HasNoBound p m sbf sheet horizon i Window = HasNoWindow p m sbf sheet horizon i
HasNoBound p m sbf sheet horizon i Bound = HasLateBound p m sbf sheet horizon i

-- why there is no answer
abbrev pub HasCause : PolicyMeaning → CutMeaning → (ℕ → ℕ) → SheetParts → ℕ → AnalyseRefusal → Type 0
HasCause p m sbf sheet horizon (NoBound i part) = HasNoBound p m sbf sheet horizon i part
HasCause p m sbf sheet horizon (Points i) = HasManyPoints p m sbf sheet horizon i
HasCause p m sbf sheet horizon Memory = Unit {0}

-- the numbers of an entry are at most the horizon
pub record IsEntryUpTo (horizon : ℕ) (e : Entry) : Type 0 where
  pub window : e.window ≤ horizon
  pub bound : e.bound ≤ horizon
  pub points : All (λ q. (q.offset ≤ horizon) × (q.end ≤ horizon)) e.points

-- the numbers of a certificate are at most the horizon
abbrev pub IsUpTo : ℕ → Cert → Type 0
IsUpTo horizon cert = All (IsEntryUpTo horizon) cert.entries

-- each entry has at least one point: an entry with none has its bound judged nowhere
abbrev pub HavePoints : Cert → Type 0
HavePoints cert = All (λ e. 1 ≤ length e.points) cert.entries

-- no certificate with a point in each entry that meets the conditions has a smaller window or bound
abbrev pub NoneSmaller : PolicyMeaning → CutMeaning → (ℕ → ℕ) → SheetParts → Cert → Type 0
NoneSmaller p m sbf sheet cert =
    (other : Cert) → HavePoints other → failed_of p m sbf sheet false other ≡ None → (i : ℕ) → i < length sheet.tasks →
    ((entry_at cert i).window ≤ (entry_at other i).window) × ((entry_at cert i).bound ≤ (entry_at other i).bound)

-- a window is judged in every entry, a bound at the points alone
abbrev pub IsJudged : Part → Cert → Type 0
IsJudged Window cert = Unit {0}
IsJudged Bound cert = HavePoints cert

-- no certificate with numbers up to the horizon, in which this part is judged, meets the conditions
abbrev pub NoneMeets : PolicyMeaning → CutMeaning → (ℕ → ℕ) → SheetParts → ℕ → Part → Type 0
NoneMeets p m sbf sheet horizon part = (other : Cert) → IsJudged part other → IsUpTo horizon other → failed_of p m sbf sheet false other ≡ None → ⊥

-- so it is where there is no bound
abbrev pub NoneWhereNoBound : PolicyMeaning → CutMeaning → (ℕ → ℕ) → SheetParts → ℕ → AnalyseRefusal → Type 0
NoneWhereNoBound p m sbf sheet horizon (NoBound i part) = NoneMeets p m sbf sheet horizon part
NoneWhereNoBound p m sbf sheet horizon (Points i) = Unit {0}
NoneWhereNoBound p m sbf sheet horizon Memory = Unit {0}
