use Rattle.std.specs.Prelude.{◌≡◌, ℕ, ◌<◌, ◌≤◌, ◌↔◌, Bool, true, false, None, List, map, length, All}
use Rattle.task_sheet.specs.SheetParts.{SheetParts}
use Rattle.task_sheet.specs.Sheets.{task_at}
use Rattle.policy.specs.PolicyMeaning.{PolicyMeaning}
use Rattle.preemption.specs.CutMeaning.{CutMeaning}
use Rattle.certificate.specs.declared.cert.Entry.{Entry}
use Rattle.certificate.specs.declared.cert.Cert.{Cert}
use Rattle.certificate.specs.declared.cert.Point.{Point}
use Rattle.certificate.specs.Text.{PointLine, lines_of}
use Rattle.demand.specs.Meeting.{CoversJitter, IsWindow, PointsMeet}
use Rattle.conditions.specs.PointTerms.{TellsTerms}
use Rattle.conditions.specs.Conditions.{entry_at, failed_of}

-- K9: where deadlines are judged, the bound is at most the deadline
abbrev pub IsInTime : SheetParts → Bool → ℕ → ℕ → Type 0
IsInTime sheet false i bound = Unit {0}
IsInTime sheet true i bound = bound ≤ (task_at sheet i).deadline

-- the offset and the end of each point
abbrev pub pairs_of : List Point → List (ℕ × ℕ)
pairs_of points = map (λ q. (q.offset, q.end)) points

-- K10 at each point: what its line tells of its terms, if anything, is so
abbrev pub LinesTell : PolicyMeaning → CutMeaning → SheetParts → ℕ → List PointLine → Type 0
LinesTell p m sheet i lines = All (λ l. TellsTerms p m sheet i l.point.offset l.point.end l.terms) lines

-- an entry meets K2 to K10 for task i
pub record TaskMeets (p : PolicyMeaning) (m : CutMeaning) (sbf : ℕ → ℕ) (sheet : SheetParts) (deadlines : Bool) (i : ℕ) (e : Entry) : Type 0 where
  pub covers : CoversJitter sheet i e.bound
  pub window : IsWindow p m sbf sheet i e.window
  pub in_time : IsInTime sheet deadlines i e.bound
  pub points : PointsMeet p m sbf sheet i e.window e.bound None (pairs_of e.points)
  pub terms : LinesTell p m sheet i (lines_of e.points e.terms)

-- a certificate meets K1, and each of its entries the conditions of its task
pub record CertMeets (p : PolicyMeaning) (m : CutMeaning) (sbf : ℕ → ℕ) (sheet : SheetParts) (deadlines : Bool) (cert : Cert) : Type 0 where
  pub count : length cert.entries ≡ length sheet.tasks
  pub tasks : (i : ℕ) → i < length sheet.tasks → TaskMeets p m sbf sheet deadlines i (entry_at cert i)

-- no condition fails exactly where the certificate meets all of them
abbrev pub FailedMeans : PolicyMeaning → CutMeaning → (ℕ → ℕ) → Type 0
FailedMeans p m sbf =
    (sheet : SheetParts) (deadlines : Bool) (cert : Cert) → (failed_of p m sbf sheet deadlines cert ≡ None) ↔ CertMeets p m sbf sheet deadlines cert
