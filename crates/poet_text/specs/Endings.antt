-- How a command ends, and what is written of it.
use Rattle.std.specs.Prelude.{ℕ, List, [], Result, Ok, Err}
use Rattle.poet_text.specs.declared.printed.Printed.{Printed}
use Rattle.poet_text.specs.declared.printed.Printed.TheVariants.{Done, JudgedNo}
use Rattle.poet_text.specs.declared.refusal.Refusal.{Refusal}
use Rattle.poet_text.specs.Refusals.{line_of, refusal_status}

-- a command did what was asked, with status 0, or judged no, with status 1
abbrev pub printed_status : Printed → ℕ
printed_status (Done text) = 0
printed_status (JudgedNo text) = 1

abbrev pub printed_text : Printed → List ℕ
printed_text (Done text) = text
printed_text (JudgedNo text) = text

-- how a command ends: it prints, or it is refused
abbrev pub Ending : Type 0
Ending = Result Printed Refusal

abbrev pub ending_status : Ending → ℕ
ending_status (Ok print) = printed_status print
ending_status (Err refusal) = refusal_status refusal

-- what comes next, unless it was refused: the order of these is the order of refusals
abbrev pub next : {A B : Type 0} → Result A Refusal → (A → Result B Refusal) → Result B Refusal
next (Ok a) f = f a
next (Err e) f = Err e

-- the text for out
abbrev pub out_text : Ending → List ℕ
out_text (Ok print) = printed_text print
out_text (Err refusal) = []

-- the text for err
abbrev pub err_text : Ending → List ℕ
err_text (Ok print) = []
err_text (Err refusal) = line_of refusal

-- what is printed is true: this of a text that is done, and that of one that judges no
abbrev pub IsSound : (List ℕ → Type 0) → (List ℕ → Type 0) → Printed → Type 0
IsSound Holds Fails (Done text) = Holds text
IsSound Holds Fails (JudgedNo text) = Fails text
