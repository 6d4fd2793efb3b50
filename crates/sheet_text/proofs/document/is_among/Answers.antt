use Rattle.std.specs.Prelude.{bytes_eq}
use Rattle.sheet_text.proofs.Counts.{list_any-map}
use Rattle.sheet_text.proofs.document.is_among.Goals as goal

pub returns : goal.returns
returns c = rw (list_any-map (λ known. bytes_eq known c.args.key.now) (λ k. k.now) c.args.keys.now) c.contains.ensures.value
