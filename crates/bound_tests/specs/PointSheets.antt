-- Sheets with priority points, and their best certificates.
use Rattle.std.specs.Prelude.{ℕ, ℤ, pos, codes, List, [], ◌∷◌, Result}
use Rattle.curve.specs.Curves.{periodic}
use Rattle.task_sheet.specs.declared.tasks.PolicyKind.TheVariants.{Gel, Elf}
use Rattle.task_sheet.specs.declared.tasks.SupplySpec.TheVariants.{Unit as Whole}
use Rattle.task_sheet.specs.declared.tasks.Cut.TheVariants.{Full}
use Rattle.task_sheet.specs.declared.tasks.Task.{Task}
use Rattle.task_sheet.specs.SheetParts.{SheetParts}
use Rattle.policy.specs.PolicyMeaning.{PolicyMeaning}
use Rattle.preemption.specs.Kinds.{per_task_meaning}
use Rattle.demand.specs.Demand.{need_of}
use Rattle.certificate.specs.declared.cert.Version.TheVariants.{One}
use Rattle.certificate.specs.declared.cert.Cert.{Cert}
use Rattle.certificate.specs.Text.{point_of}
use Rattle.solver.specs.declared.analysis.AnalyseRefusal.{AnalyseRefusal}
use Rattle.solver.specs.Outcome.{best_of}

-- a task whose deadline is its period
abbrev pub pointed : List ℕ → ℕ → ℕ → ℕ → ℤ → Task
pointed name cost period priority point = record {
  name = name;
  cost = cost;
  deadline = period;
  priority = priority;
  jitter = 0;
  point = point;
  curve = periodic period;
  cut = Full;
}

-- two tasks whose points are their deadlines
abbrev pub gel_sheet : SheetParts
gel_sheet = record { policy = Gel; supply = Whole; tasks = pointed (codes "a") 2 4 0 (pos 4) ∷ pointed (codes "b") 2 6 0 (pos 6) ∷ [] }

abbrev pub gel_cert : Cert
gel_cert = record {
  version = One;
  entries =
      record { window = 4; bound = 2; points = point_of 0 2 ∷ point_of 2 4 ∷ []; terms = [] } ∷
      record { window = 4; bound = 4; points = point_of 0 4 ∷ point_of 2 4 ∷ []; terms = [] } ∷ [];
}

-- a task of the greater priority, and two of one priority, of which b has the earlier point
abbrev pub elf_sheet : SheetParts
elf_sheet = record {
  policy = Elf;
  supply = Whole;
  tasks = pointed (codes "a") 1 4 2 (pos 0) ∷ pointed (codes "b") 2 8 1
      (pos 4) ∷ pointed (codes "c") 2 8 1 (pos 6) ∷ [];
}

abbrev pub elf_cert : Cert
elf_cert = record {
  version = One;
  entries =
      record { window = 1; bound = 1; points = point_of 0 1 ∷ []; terms = [] } ∷
      record { window = 6; bound = 4; points = point_of 0 3 ∷ point_of 2 6 ∷ []; terms = [] } ∷
      record { window = 6; bound = 6; points = point_of 0 6 ∷ []; terms = [] } ∷ [];
}

-- the demand of a job of task i at offset a, within x ticks
abbrev pub need_at : PolicyMeaning → SheetParts → ℕ → ℕ → ℕ → ℕ
need_at p sheet i a x = need_of p per_task_meaning sheet i a x

-- the best certificate up to a horizon of 100, where every tick is supplied
abbrev pub best_at : PolicyMeaning → SheetParts → Result Cert AnalyseRefusal
best_at p sheet = best_of p per_task_meaning (λ d. d) sheet 100
