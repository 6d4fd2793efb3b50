use Rattle.std.proofs.Common.{◌≡◌, drop}
use Rattle.toml.specs.View.{items_view}
use Rattle.sheet_text.specs.Documents.{number_of, all_of}
use Rattle.sheet_text.proofs.Fronts.{with_front}
use Rattle.sheet_text.proofs.numbers.all_numbers.Given as goal

abbrev pub invariant-items : goal.invariant-items
invariant-items l = with_front l.numbers.items (all_of number_of (items_view (drop l.item-index l.items))) ≡ all_of number_of (items_view l.items)
