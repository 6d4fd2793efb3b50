-- What answers an analysis.
use Rattle.std.specs.Prelude.{◌≡◌, ℕ, Result, Ok, Err}
use Rattle.task_sheet.specs.SheetParts.{SheetParts}
use Rattle.task_sheet.specs.Sheets.{IsValidSheet}
use Rattle.policy.specs.PolicyMeaning.{PolicyMeaning}
use Rattle.preemption.specs.CutMeaning.{CutMeaning}
use Rattle.preemption.specs.CutLaws.{Serves}
use Rattle.certificate.specs.declared.cert.Cert.{Cert}
use Rattle.solver.specs.Best.{IsBest, HasNoBound, HasManyPoints}
use Rattle.solver.specs.Outcome.{best_of}
use Rattle.solver.specs.declared.analysis.AnalyseRefusal.{AnalyseRefusal}
use Rattle.solver.specs.declared.analysis.AnalyseRefusal.TheVariants.{NoBound, Points, Memory}

-- the best certificate, or the cause why there is none; want of memory is no answer
abbrev pub IsAnswer : PolicyMeaning → CutMeaning → (ℕ → ℕ) → SheetParts → ℕ → Result Cert AnalyseRefusal → Type 0
IsAnswer p m sbf sheet horizon (Ok cert) = IsBest p m sbf sheet horizon cert
IsAnswer p m sbf sheet horizon (Err (NoBound i part)) = HasNoBound p m sbf sheet horizon i part
IsAnswer p m sbf sheet horizon (Err (Points i)) = HasManyPoints p m sbf sheet horizon i
IsAnswer p m sbf sheet horizon (Err Memory) = ⊥

-- for every valid sheet and horizon the function gives an answer
abbrev pub BestIsAnswer : PolicyMeaning → CutMeaning → (ℕ → ℕ) → Type 0
BestIsAnswer p m sbf = (sheet : SheetParts) → IsValidSheet sheet → Serves m sheet → (horizon : ℕ) →
    IsAnswer p m sbf sheet horizon (best_of p m sbf sheet horizon)

-- no sheet and horizon have two answers
abbrev pub OneAnswer : PolicyMeaning → CutMeaning → (ℕ → ℕ) → Type 0
OneAnswer p m sbf = (sheet : SheetParts) (horizon : ℕ) (r s : Result Cert AnalyseRefusal) → IsAnswer p m sbf sheet horizon r →
    IsAnswer p m sbf sheet horizon s → r ≡ s
