use Rattle.std.proofs.Common.{◌≡◌, ◌≢◌, ℕ, ◌≤◌, ◌&&◌, Bool, false, List, [], ◌∷◌, length, leb, refl, arith}
use Rattle.task_sheet.specs.declared.tasks.Cut.{Cut}
use Rattle.task_sheet.specs.declared.tasks.Cut.TheVariants.{Full, Never, Fixed, Floating}
use Rattle.task_sheet.specs.Sheets.{CutFits}
use Rattle.preemption.specs.Cuts.{each_within}
use Rattle.task_sheet.specs.Rules.{last_number}
use Rattle.preemption.specs.Kinds.{segments_of}
use Rattle.preemption.specs.Segments.{last_within}

and_false : (b c : Bool) → c ≡ false → (b && c) ≡ false
and_false b c h = grind arith

-- lists of different lengths are not within each other
pub each_within_lengths : (xs ys : List ℕ) → length xs ≢ length ys → each_within xs ys ≡ false
each_within_lengths [] [] h = absurd (h refl)
each_within_lengths [] (y ∷ ys) h = refl
each_within_lengths (x ∷ xs) [] h = refl
each_within_lengths (x ∷ xs) (y ∷ ys) h = and_false (leb x y) (each_within xs ys) (each_within_lengths xs ys (λ e. h (omega (arith, e))))

-- the last segment of a task is at most its cost
pub last_fits : (cut : Cut) (cost : ℕ) → CutFits cost cut → last_number 0 (segments_of cut) ≤ cost
last_fits Full cost f = omega arith
last_fits Never cost f = omega arith
last_fits (Fixed segments) cost f = omega (arith, last_within 0 segments, f.1)
last_fits (Floating bound) cost f = omega arith
