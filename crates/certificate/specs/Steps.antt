-- What the lines of a certificate's text say.
use Rattle.std.specs.Prelude.{ℕ, suc, List, [], ◌∷◌, ◌++◌, length, map}
use Rattle.certificate.specs.declared.cert.Entry.{Entry}
use Rattle.certificate.specs.declared.cert.Cert.{Cert}
use Rattle.certificate.specs.declared.step.LineStep.{LineStep}
use Rattle.certificate.specs.declared.step.LineStep.TheVariants as says
use Rattle.certificate.specs.Text.{PointLine, lines_of}

-- what the line of a point says
abbrev pub point_step : PointLine → LineStep
point_step l = says.Point l.point.offset l.point.end l.terms

-- what the lines of the points of an entry say
abbrev pub points_steps : Entry → List LineStep
points_steps e = map point_step (lines_of e.points e.terms)

-- what the lines of these entries say, the first of which is the i-th of the certificate
abbrev pub entries_steps : ℕ → List Entry → List LineStep
entries_steps i [] = []
entries_steps i (e ∷ es) = says.Entry i e.window e.bound (length e.points) ∷ (points_steps e ++ entries_steps (suc i) es)

-- what the lines of the certificate's text say, one after the other; line 1 has no meaning
abbrev pub steps_of : Cert → List LineStep
steps_of c = says.More ∷ (says.Tasks (length c.entries) ∷ (entries_steps 0 c.entries ++ says.End ∷ []))
