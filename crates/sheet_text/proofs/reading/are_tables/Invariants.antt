use Rattle.std.proofs.Common.{◌≡◌, drop}
use Rattle.toml.specs.View.{items_view}
use Rattle.toml.specs.Text.{are_tables}
use Rattle.sheet_text.proofs.reading.are_tables.Given as goal

abbrev pub invariant-items : goal.invariant-items
invariant-items l = are_tables (items_view (drop l.value-index l.values)) ≡ are_tables (items_view l.values)
