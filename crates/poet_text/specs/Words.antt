use Rattle.std.specs.Prelude.{◌≡◌, ◌≤◌, ◌&&◌, List, [], ◌∷◌, ℕ, Bool, true, false, Option, Some, None, String, string_bytes, map, codes, bytes_eq}
use Rattle.std.specs.Prelude.{if◌then◌else◌}
use Rattle.std.specs.declared.alloc.Global.{Global}
use Rattle.lists.specs.Limits.{greatest_number, most_ticks}
use Rattle.poet_io.specs.Decimals.{number_in}
use Rattle.simulated_run.specs.declared.mode.Mode.{Mode}
use Rattle.simulated_run.specs.declared.mode.Mode.TheVariants.{Dense, Seed}
use Rattle.poet_text.specs.declared.grammar.Form.{Form}
use Rattle.poet_text.specs.declared.grammar.Form.TheVariants as forms
use Rattle.poet_text.specs.declared.grammar.Command.{Command}
use Rattle.poet_text.specs.declared.grammar.Command.TheVariants.{Check, Analyse, Simulate, Audit, Report, Exercise, Upgrade, Assign, Promise, Infer}

-- a command, with its words
pub data Asked : Type 0 where
  CheckOf : List ℕ → List ℕ → Bool → Asked
  AnalyseOf : List ℕ → ℕ → Asked
  SimulateOf : List ℕ → Mode → ℕ → Asked
  AuditOf : List ℕ → List ℕ → Asked
  ReportOf : List ℕ → List ℕ → Form → Asked
  ExerciseOf : ℕ → ℕ → Asked
  UpgradeOf : List ℕ → List ℕ → Asked
  AssignOf : List ℕ → ℕ → Asked
  PromiseOf : List ℕ → Asked
  InferOf : List ℕ → ℕ → Asked

-- a horizon, a number of ticks, a number of tasks, and a seed
abbrev pub horizon_in : List ℕ → Option ℕ
horizon_in word = number_in 1 greatest_number word

abbrev pub ticks_in : List ℕ → Option ℕ
ticks_in word = number_in 1 most_ticks word

abbrev pub tasks_in : List ℕ → Option ℕ
tasks_in word = number_in 1 64 word

abbrev pub seed_in : List ℕ → Option ℕ
seed_in word = number_in 0 18446744073709551615 word

-- the form of a report that a word names
abbrev pub form_in : List ℕ → Option Form
form_in word =
    if bytes_eq word (codes "text") then Some forms.Text
    else (if bytes_eq word (codes "json") then Some forms.Json else None)

-- what is asked for, where the word before it was read
abbrev pub given : {A : Type 0} → Option A → (A → Asked) → Option Asked
given None asked = None
given (Some x) asked = Some (asked x)

abbrev pub check_in : List ℕ → List ℕ → List ℕ → Option Asked
check_in sheet certificate last =
    if bytes_eq last (codes "deadlines") then Some (CheckOf sheet certificate true) else None

abbrev pub exercise_in : Option ℕ → Option ℕ → Option Asked
exercise_in None tasks = None
exercise_in (Some seed) tasks = given tasks (ExerciseOf seed)

abbrev pub dense_in : List ℕ → List ℕ → Option ℕ → Option Asked
dense_in sheet mode ticks =
    if bytes_eq mode (codes "dense") then given ticks (SimulateOf sheet Dense) else None

abbrev pub seeded_in : List ℕ → Option ℕ → Option ℕ → Option Asked
seeded_in sheet None ticks = None
seeded_in sheet (Some seed) ticks = given ticks (SimulateOf sheet (Seed seed))

-- promise SHEET
unfoldable pub one_word : List ℕ → List ℕ → Option Asked
one_word command first = if bytes_eq command (codes "promise") then Some (PromiseOf first) else None

-- check SHEET CERT, analyse SHEET HORIZON, audit SHEET RUN, exercise S N, upgrade SHEET CERT, assign SHEET HORIZON,
-- or infer FILE HORIZON
unfoldable pub two_words : List ℕ → List ℕ → List ℕ → Option Asked
two_words command first second =
    if bytes_eq command (codes "check") then Some (CheckOf first second false)
    else (if bytes_eq command (codes "analyse") then given (horizon_in second) (AnalyseOf first)
    else (if bytes_eq command (codes "audit") then Some (AuditOf first second)
    else (if bytes_eq command (codes "exercise") then exercise_in (seed_in first) (tasks_in second)
    else (if bytes_eq command (codes "upgrade") then Some (UpgradeOf first second)
    else (if bytes_eq command (codes "assign") then given (horizon_in second) (AssignOf first)
    else (if bytes_eq command (codes "infer") then given (horizon_in second) (InferOf first) else None))))))

-- check SHEET CERT deadlines, simulate SHEET dense N, or report SHEET CERT text|json
unfoldable pub three_words : List ℕ → List ℕ → List ℕ → List ℕ → Option Asked
three_words command first second third =
    if bytes_eq command (codes "check") then check_in first second third
    else (if bytes_eq command (codes "simulate") then dense_in first second (ticks_in third)
    else (if bytes_eq command (codes "report") then given (form_in third) (ReportOf first second) else None))

-- simulate SHEET seed S N
unfoldable pub four_words : List ℕ → List ℕ → List ℕ → List ℕ → List ℕ → Option Asked
four_words command first second third fourth =
    if bytes_eq command (codes "simulate") && bytes_eq second (codes "seed")
    then seeded_in first (seed_in third) (ticks_in fourth) else None

-- the word grammar
abbrev pub command_in : List (List ℕ) → Option Asked
command_in (command ∷ first ∷ []) = one_word command first
command_in (command ∷ first ∷ second ∷ []) = two_words command first second
command_in (command ∷ first ∷ second ∷ third ∷ []) = three_words command first second third
command_in (command ∷ first ∷ second ∷ third ∷ fourth ∷ []) = four_words command first second third fourth
command_in words = None

-- what the program's words ask for
abbrev pub asked_in : List (String Global) → Option Asked
asked_in words = command_in (map string_bytes words)

abbrev pub asked_by : Command → Asked
asked_by (Check sheet certificate deadlines) = CheckOf sheet.now certificate.now deadlines
asked_by (Analyse sheet horizon) = AnalyseOf sheet.now horizon
asked_by (Simulate sheet mode ticks) = SimulateOf sheet.now mode ticks
asked_by (Audit sheet run) = AuditOf sheet.now run.now
asked_by (Report sheet certificate form) = ReportOf sheet.now certificate.now form
asked_by (Exercise seed tasks) = ExerciseOf seed tasks
asked_by (Upgrade sheet certificate) = UpgradeOf sheet.now certificate.now
asked_by (Assign sheet horizon) = AssignOf sheet.now horizon
asked_by (Promise sheet) = PromiseOf sheet.now
asked_by (Infer trace horizon) = InferOf trace.now horizon

-- the command is what the words ask for
abbrev pub IsAsked : Option Asked → Option Command → Type 0
IsAsked asked None = asked ≡ None
IsAsked asked (Some command) = asked ≡ Some (asked_by command)

abbrev pub IsCommand : List (List ℕ) → Option Command → Type 0
IsCommand words command = IsAsked (command_in words) command

-- the numbers of a command are in their ranges
abbrev pub IsInRange : Command → Type 0
IsInRange (Check sheet certificate deadlines) = Unit {0}
IsInRange (Analyse sheet horizon) = horizon ≤ greatest_number
IsInRange (Simulate sheet mode ticks) = ticks ≤ most_ticks
IsInRange (Audit sheet run) = Unit {0}
IsInRange (Report sheet certificate form) = Unit {0}
IsInRange (Exercise seed tasks) = (1 ≤ tasks) × (tasks ≤ 64)
IsInRange (Upgrade sheet certificate) = Unit {0}
IsInRange (Assign sheet horizon) = horizon ≤ greatest_number
IsInRange (Promise sheet) = Unit {0}
IsInRange (Infer trace horizon) = (1 ≤ horizon) × (horizon ≤ greatest_number)
