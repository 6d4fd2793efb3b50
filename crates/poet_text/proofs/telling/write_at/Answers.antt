use Rattle.std.proofs.Common.{◌≡◌, ◌++◌, ◌∙◌, ap, take, codes, append_assoc, List, ℕ}
use Rattle.poet_text.specs.Refusals.{place_text, line_at}
use Rattle.poet_text.proofs.WritingFacts.{wrote_as}
use Rattle.poet_text.proofs.telling.write_at.Goals as goal

pub returns : goal.returns
unfolding line_at
returns g c =
    let word = c.put_place-len.result.0.now in
    let digits = take c.put_place-len.result.1 c.put_place-len.new.digits in
    let tail : place_text c.args.place ++ codes "\n" ≡ word ++ (digits ++ codes "\n") =
    ap (λ (xs : List ℕ). xs ++ codes "\n") c.put_place-len.ensures.text ∙ append_assoc word digits (codes "\n") in
    wrote_as _ _ _ _ _ _ _ (cc (
      tail,
      c.as_bytes.ensures.value,
      c.as_bytes-2.ensures.value,
      c.as_bytes-3.ensures.value,
      c.as_bytes-4.ensures.value,
      c.as_bytes-5.ensures.value,
    )) c.write_six.ensures
