use Rattle.std.proofs.Common.{arith}
use Rattle.std.proofs.lemmas.Str.{is_utf8-from_IsUtf8, IsUtf8-from_is_utf8}
use Rattle.toml.proofs.Views.{view-Table}
use Rattle.sheet_text.proofs.document.document.Goals as goal

pub returns-in-Ok : goal.returns-in-Ok
returns-in-Ok c =
    let (text, parsed) = c.in-Ok.ensures.ok in
    rw (is_utf8-from_IsUtf8 _ text, parsed, view-Table c.in-Ok.table)

pub returns-in-Err-2 : goal.returns-in-Err-2
returns-in-Err-2 c other = grind (arith, IsUtf8-from_is_utf8 c.args.bytes.now)
