-- Sheets whose jobs may be released after their arrival, and their best certificates.
use Rattle.std.specs.Prelude.{ℕ, pos, codes, List, [], ◌∷◌}
use Rattle.curve.specs.Curves.{periodic}
use Rattle.task_sheet.specs.declared.tasks.PolicyKind.TheVariants.{Fp, Fifo}
use Rattle.task_sheet.specs.declared.tasks.SupplySpec.TheVariants.{Unit as Whole}
use Rattle.task_sheet.specs.declared.tasks.Cut.TheVariants.{Full, Never}
use Rattle.task_sheet.specs.declared.tasks.Task.{Task}
use Rattle.task_sheet.specs.SheetParts.{SheetParts}
use Rattle.certificate.specs.declared.cert.Version.TheVariants.{One}
use Rattle.certificate.specs.declared.cert.Cert.{Cert}
use Rattle.certificate.specs.Text.{point_of}

-- a task of cost 2 and period 5
abbrev pub late_task : ℕ → Task
late_task jitter = record { name = codes "a"; cost = 2; deadline = 5; priority = 1; jitter = jitter; point = pos 0; curve = periodic 5; cut = Full }

-- that task alone, under fixed priorities
abbrev pub late_sheet : ℕ → SheetParts
late_sheet jitter = record { policy = Fp; supply = Whole; tasks = late_task jitter ∷ [] }

-- with a jitter of 3 it has one point
abbrev pub one_point : Cert
one_point = record { version = One; entries = record { window = 2; bound = 5; points = point_of 0 2 ∷ []; terms = [] } ∷ [] }

-- with a jitter of 4 it has two
abbrev pub two_points : Cert
two_points = record { version = One; entries = record { window = 4; bound = 7; points = point_of 0 2 ∷ point_of 1 4 ∷ []; terms = [] } ∷ [] }

abbrev pub task_u : Task
task_u = record { name = codes "u"; cost = 1; deadline = 10; priority = 0; jitter = 2; point = pos 0; curve = periodic 10; cut = Full }

abbrev pub task_v : Task
task_v = record { name = codes "v"; cost = 3; deadline = 10; priority = 0; jitter = 0; point = pos 0; curve = periodic 10; cut = Never }

-- in the order of arrivals, where v can begin before a job of u that arrived earlier
abbrev pub blocking_sheet : SheetParts
blocking_sheet = record { policy = Fifo; supply = Whole; tasks = task_u ∷ task_v ∷ [] }

abbrev pub blocking_cert : Cert
blocking_cert = record {
  version = One;
  entries =
      record { window = 6; bound = 8; points = point_of 0 6 ∷ []; terms = [] } ∷ record { window = 4; bound = 4; points = point_of 0 2 ∷ []; terms = [] } ∷ [];
}
