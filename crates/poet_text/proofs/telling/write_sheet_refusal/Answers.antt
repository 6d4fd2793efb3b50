use Rattle.std.proofs.Common.{rules}
use Rattle.poet_text.specs.Refusals.{field_word, line_at}
use Rattle.poet_text.proofs.WritingFacts.{wrote_as}
use Rattle.poet_text.proofs.telling.write_sheet_refusal.Goals as goal

pub returns-in-Kind : goal.returns-in-Kind
unfolding line_at field_word
returns-in-Kind g c = wrote_as _ _ _ _ _ _ _ (search rules) c.write_field-in-Kind.ensures

pub returns-in-Range : goal.returns-in-Range
unfolding line_at field_word
returns-in-Range g c = wrote_as _ _ _ _ _ _ _ (search rules) c.write_field-in-Range.ensures

pub returns-in-Order : goal.returns-in-Order
unfolding line_at field_word
returns-in-Order g c = wrote_as _ _ _ _ _ _ _ (search rules) c.write_field-in-Order.ensures
