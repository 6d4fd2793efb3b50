-- The bytes that a checker stands for, and what it keeps.
use Rattle.std.specs.Prelude.{◌≡◌, ℕ, ◌<◌, ◌≤◌, Bool, List, ◌++◌, length, Option, Some, None}
use Rattle.lists.specs.Limits.{greatest_number}
use Rattle.poet_io.specs.Texts.{Parses, newlines}
use Rattle.task_sheet.specs.SheetParts.{SheetParts}
use Rattle.policy.specs.PolicyMeaning.{PolicyMeaning}
use Rattle.preemption.specs.CutMeaning.{CutMeaning}
use Rattle.preemption.specs.CutLaws.{Serves}
use Rattle.certificate.specs.declared.cert.Cert.{Cert}
use Rattle.certificate.specs.declared.step.LineStep.{LineStep}
use Rattle.certificate.specs.declared.step.LineStep.TheVariants as says
use Rattle.certificate.specs.Progress.{Progress}
use Rattle.certificate.specs.Machine.{StandsFor}
use Rattle.certificate.specs.Text.{cert_format}
use Rattle.meter.specs.MeterParts.{MeterParts}
use Rattle.cert_check.specs.declared.judged.Judged.{Judged}
use Rattle.cert_check.specs.CheckerParts.{CheckerParts}
use Rattle.cert_check.specs.JudgedLines.{judged_after, bounds_after}

-- what is known after these bytes: for each certificate whose text begins so, what its lines say that end in them
pub record HasJudged (p : PolicyMeaning) (m : CutMeaning) (sbf : ℕ → ℕ) (sheet : SheetParts) (deadlines : Bool)
    (lines : Progress) (judged : Judged) (bounds : List ℕ) (bytes : List ℕ) : Type 0 where
  pub lines_are : StandsFor lines bytes
  pub judged_is : (more : List ℕ) (cert : Cert) → Parses cert_format (bytes ++ more) cert →
      judged ≡ judged_after p m sbf sheet deadlines cert (newlines bytes)
  pub bounds_are : (more : List ℕ) (cert : Cert) → Parses cert_format (bytes ++ more) cert → bounds ≡ bounds_after sheet cert (newlines bytes)

-- what a checker is made with
pub record MadeWith (S : Type 0) : Type 0 where
  pub sheet : SheetParts
  pub supply : S
  pub deadlines : Bool

-- the checker was made with this, and was fed these bytes
pub record IsAt {S : Type 0} (p : PolicyMeaning) (m : CutMeaning) (sbf : S → ℕ → ℕ) (c : CheckerParts S) (made : MadeWith S) (bytes : List ℕ) : Type 0 where
  pub sheet_is : c.sheet ≡ made.sheet
  pub supply_is : c.supply ≡ made.supply
  pub deadlines_are : c.deadlines ≡ made.deadlines
  pub fed : HasJudged p m (sbf made.supply) made.sheet made.deadlines c.lines c.judged c.bounds bytes

-- the numbers of a line are in range, and so is an entry's task where no condition failed before
abbrev pub LineFits : SheetParts → Judged → LineStep → Type 0
LineFits sheet j (says.Entry i w r k) = (w ≤ greatest_number) × (r ≤ greatest_number) × (j.failed ≡ None → i < length sheet.tasks)
LineFits sheet j (says.Point a x terms) = (a ≤ greatest_number) × (x ≤ greatest_number)
LineFits sheet j _ = Unit {0}

-- the meter stands at the task of the last entry and at its last point, which lies below the window
abbrev pub IsSeat : Option ℕ → ℕ → ℕ → Type 0
IsSeat None offset window = offset ≡ 0
IsSeat (Some before) offset window = (offset ≡ before) × (before < window)

pub record IsSeated (sheet : SheetParts) (meter : MeterParts) (j : Judged) : Type 0 where
  pub in_range : j.task < length sheet.tasks
  pub task_is : meter.task ≡ j.task
  pub seat : IsSeat j.before meter.offset j.window

-- as long as no condition failed, the meter can judge what follows
pub record IsReady (sheet : SheetParts) (meter : MeterParts) (j : Judged) : Type 0 where
  pub sheet_is : meter.sheet ≡ sheet
  pub window_high : j.window ≤ greatest_number
  pub bound_high : j.bound ≤ greatest_number
  pub seated : j.failed ≡ None → IsSeated sheet meter j

-- what a checker keeps: it stands for some bytes, and its meter is ready
pub record IsChecking (p : PolicyMeaning) (m : CutMeaning) (sbf : ℕ → ℕ) (sheet : SheetParts) (deadlines : Bool)
    (lines : Progress) (judged : Judged) (bounds : List ℕ) (meter : MeterParts) : Type 0 where
  pub bytes : List ℕ
  pub fed : HasJudged p m sbf sheet deadlines lines judged bounds bytes
  pub served : Serves m sheet
  pub ready : IsReady sheet meter judged
