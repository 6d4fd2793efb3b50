use Rattle.std.specs.Prelude.{◌≡◌, ◌≢◌, Result, Ok, Err}
use Rattle.task_sheet.specs.declared.refusal.SheetRefusal.{SheetRefusal}
use Rattle.task_sheet.specs.declared.refusal.SheetRefusal.TheVariants.{Memory}

-- a refusal is that of the definition, or memory ran out
abbrev pub Fails : {Y : Type 0} → SheetRefusal → Result Y SheetRefusal → Type 0
Fails e read = e ≢ Memory → read ≡ Err e

-- what was read, seen by view, is what the definition reads, or memory ran out
abbrev pub ReadsAs : {X Y : Type 0} → (X → Y) → Result X SheetRefusal → Result Y SheetRefusal → Type 0
ReadsAs view (Ok x) read = read ≡ Ok (view x)
ReadsAs view (Err e) read = Fails e read

-- a result with its value seen by view
abbrev pub seen : {X Y : Type 0} → (X → Y) → Result X SheetRefusal → Result Y SheetRefusal
seen view (Ok x) = Ok (view x)
seen view (Err e) = Err e
