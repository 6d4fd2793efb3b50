-- Behind the line of a point, where one more must come.
use Rattle.std.proofs.Common.{◌≡◌, ℕ, suc, zero, ◌-◌, ◌<◌, refl, ap, ◌∙◌, arith}
use Rattle.certificate.specs.Machine.{at_place, after_point}
use Rattle.certificate.specs.declared.cert.Version.{Version}
use Rattle.certificate.specs.declared.place.Word.TheVariants as word
use Rattle.certificate.specs.declared.place.Expected.{Expected}
use Rattle.certificate.specs.declared.place.Expected.TheVariants.{Rest}
use Rattle.certificate.specs.declared.place.Place.{Place}

passed_at : (v : Version) (i m k : ℕ) → 1 < k → at_place v (Rest word.Point 0) i m (k - 1) ≡ after_point v i m (k - 1)
passed_at v i m zero more = absurd (omega arith)
passed_at v i m (suc zero) more = absurd (omega arith)
passed_at v i m (suc (suc k)) more =
    let less : suc (suc k) - 1 ≡ suc k = omega arith in
    rw less refl

pub point_passed : (p : Place) → p.expected ≡ Rest word.Point 0 → 1 < p.points →
    at_place p.version p.expected p.task p.after (p.points - 1) ≡ after_point p.version p.task p.after (p.points - 1)
point_passed p here more =
    ap (λ (e : Expected). at_place p.version e p.task p.after (p.points - 1)) here ∙ passed_at p.version p.task p.after p.points more
