use Rattle.std.proofs.Common.{append_assoc}
use Rattle.run_text.proofs.writing.push_run.Goals as goal

pub returns : goal.returns
returns c = simp (
  c.in_ok-extend_from_slice-2.ensures.items,
  c.in_ok-push_ticks.ensures,
  c.as_slice-2.ensures,
  c.in_ok-push_jobs.ensures,
  c.as_slice.ensures,
  c.in_ok-push_counts.ensures,
  c.in_ok-extend_from_slice.ensures.items,
  append_assoc,
)
