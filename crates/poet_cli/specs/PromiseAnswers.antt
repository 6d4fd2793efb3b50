-- The answer of `promise`.
use Rattle.std.specs.Prelude.{◌≡◌, ℕ, List, Ok}
use Rattle.task_sheet.specs.SheetParts.{SheetParts}
use Rattle.poet_text.specs.declared.printed.Printed.TheVariants as printed
use Rattle.poet_text.specs.Endings.{Ending}
use Rattle.poet_text.specs.PromisePrinting.{promise_text}

-- the answer of `promise` over a sheet
abbrev pub promise_by : SheetParts → Ending
promise_by sheet = Ok (printed.Done (promise_text sheet.supply))

-- the text is what the sheet promises of the processor
abbrev pub PromiseIsPrinted : SheetParts → List ℕ → Type 0
PromiseIsPrinted sheet text = text ≡ promise_text sheet.supply
