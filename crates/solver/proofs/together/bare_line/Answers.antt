use Rattle.std.proofs.Common.{◌*◌, refl, ap, ℕ}
use Rattle.solver.specs.Loads.{scale}
use Rattle.solver.proofs.together.bare_line.Goals as goal

pub returns-clause-bare : goal.returns-clause-bare
returns-clause-bare c = record {
  rate = c.rate-rate.ensures.exact;
  fixed = refl;
  loss = ap (λ (w : ℕ). w * scale) c.asked.ensures.exact;
}
