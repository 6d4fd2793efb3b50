-- Sheets that differ in the policy alone, and when they are judged alike.
use Rattle.std.specs.Prelude.{◌≡◌, ◌≢◌, ℕ, ◌<◌, pos, Bool, length}
use Rattle.task_sheet.specs.SheetParts.{SheetParts}
use Rattle.task_sheet.specs.Sheets.{task_at}
use Rattle.task_sheet.specs.declared.tasks.PolicyKind.{PolicyKind}
use Rattle.task_sheet.specs.declared.tasks.PolicyKind.TheVariants.{Fp, Edf, Fifo, Gel, Elf}
use Rattle.policy_more.specs.Meanings.{meaning_of}
use Rattle.preemption.specs.CutMeaning.{CutMeaning}
use Rattle.certificate.specs.declared.cert.Cert.{Cert}
use Rattle.conditions.specs.Conditions.{failed_of}
use Rattle.solver.specs.Outcome.{best_of}

-- two sheets with these policies that are otherwise equal
pub record DifferInPolicy (one other : PolicyKind) (s t : SheetParts) : Type 0 where
  pub first : s.policy ≡ one
  pub second : t.policy ≡ other
  pub supply : s.supply ≡ t.supply
  pub tasks : s.tasks ≡ t.tasks

-- the same condition fails first of every certificate, or none, and the best certificate is the same, or why there is none
pub record AreJudgedAlike (m : CutMeaning) (sbf : ℕ → ℕ) (s t : SheetParts) : Type 0 where
  pub failed : (deadlines : Bool) (cert : Cert) →
      failed_of (meaning_of s.policy) m sbf s deadlines cert ≡ failed_of (meaning_of t.policy) m sbf t deadlines cert
  pub best : (horizon : ℕ) → best_of (meaning_of s.policy) m sbf s horizon ≡ best_of (meaning_of t.policy) m sbf t horizon

-- each task's point is its deadline
abbrev pub PointsAreDeadlines : SheetParts → Type 0
PointsAreDeadlines sheet = (i : ℕ) → i < length sheet.tasks → (task_at sheet i).point ≡ pos (task_at sheet i).deadline

abbrev pub HaveOnePoint : SheetParts → Type 0
HaveOnePoint sheet = (i o : ℕ) → i < length sheet.tasks → o < length sheet.tasks → (task_at sheet i).point ≡ (task_at sheet o).point

abbrev pub HaveOnePriority : SheetParts → Type 0
HaveOnePriority sheet = (i o : ℕ) → i < length sheet.tasks → o < length sheet.tasks → (task_at sheet i).priority ≡ (task_at sheet o).priority

abbrev pub HaveDistinctPriorities : SheetParts → Type 0
HaveDistinctPriorities sheet = (i o : ℕ) → i < length sheet.tasks → o < length sheet.tasks → i ≢ o → (task_at sheet i).priority ≢ (task_at sheet o).priority

abbrev pub GelIsEdf : CutMeaning → (ℕ → ℕ) → Type 0
GelIsEdf m sbf = (s t : SheetParts) → DifferInPolicy Gel Edf s t → PointsAreDeadlines s → AreJudgedAlike m sbf s t

abbrev pub GelIsFifo : CutMeaning → (ℕ → ℕ) → Type 0
GelIsFifo m sbf = (s t : SheetParts) → DifferInPolicy Gel Fifo s t → HaveOnePoint s → AreJudgedAlike m sbf s t

abbrev pub ElfIsGel : CutMeaning → (ℕ → ℕ) → Type 0
ElfIsGel m sbf = (s t : SheetParts) → DifferInPolicy Elf Gel s t → HaveOnePriority s → AreJudgedAlike m sbf s t

abbrev pub ElfIsFp : CutMeaning → (ℕ → ℕ) → Type 0
ElfIsFp m sbf = (s t : SheetParts) → DifferInPolicy Elf Fp s t → HaveDistinctPriorities s → AreJudgedAlike m sbf s t
