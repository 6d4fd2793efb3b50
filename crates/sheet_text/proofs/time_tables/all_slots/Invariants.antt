use Rattle.std.proofs.Common.{◌≡◌, drop}
use Rattle.toml.specs.View.{items_view}
use Rattle.sheet_text.specs.Documents.{all_of}
use Rattle.sheet_text.specs.TableRows.{slot_of}
use Rattle.sheet_text.proofs.Fronts.{with_front}
use Rattle.sheet_text.proofs.time_tables.all_slots.Given as goal

abbrev pub invariant-items : goal.invariant-items
invariant-items l = with_front l.slots.items (all_of slot_of (items_view (drop l.item-index l.items))) ≡ all_of slot_of (items_view l.items)
