use Rattle.poet_text.proofs.WritingFacts.{wrote_as}
use Rattle.poet_text.proofs.VerdictTexts.{bound_pieces}
use Rattle.poet_text.proofs.verdict_writing.write_bound.Goals as goal

pub returns : goal.returns
returns g c =
    wrote_as _ _ _ _ _ _ _ (cc (
      bound_pieces c.args.task.now c.args.bound,
      c.as_bytes.ensures.value,
      c.as_bytes-2.ensures.value,
      c.as_str.ensures,
      c.as_bytes-3.ensures.value,
      c.put_number-bound_len.ensures.text,
      c.as_bytes-4.ensures.value,
      c.put_number-deadline_len.ensures.text,
      c.as_bytes-5.ensures.value,
      c.met_word.ensures,
    )) c.write_seven.ensures
