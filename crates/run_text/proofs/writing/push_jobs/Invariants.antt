use Rattle.std.proofs.Common.{◌≡◌, ◌++◌, take}
use Rattle.std.specs.List.{flat_map}
use Rattle.run_text.specs.declared.version.Version.TheVariants.{Second}
use Rattle.run_text.specs.Text.{job_line}
use Rattle.run_text.proofs.writing.push_jobs.Given as goal

abbrev pub invariant-loop-job : goal.invariant-loop-job
invariant-loop-job l = l.out.items ≡ l.fn.out.items ++ flat_map (job_line Second) (take l.job-index l.jobs)
