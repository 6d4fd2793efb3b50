-- The answer of `infer`, and what its text says.
use Rattle.std.specs.Prelude.{◌≡◌, ℕ, List, Ok}
use Rattle.poet_io.specs.Texts.{Parses}
use Rattle.curve.specs.Validity.{IsCurve}
use Rattle.curve_infer.specs.Text.{trace_format}
use Rattle.curve_infer.specs.Parsing.{trace_of_text}
use Rattle.curve_infer.specs.Curves.{Respects, inferred_curve, IsLeastCurve, KeepsCurves}
use Rattle.poet_text.specs.declared.refusal.Source.TheVariants as source
use Rattle.poet_text.specs.declared.printed.Printed.TheVariants.{Done}
use Rattle.poet_text.specs.Endings.{Ending, next}
use Rattle.poet_text.specs.CurvePrinting.{curve_line}
use Rattle.poet_cli.specs.Answers.{text_read}

-- the answer of `infer` over the bytes of a trace
abbrev pub infer_by : ℕ → List ℕ → Ending
infer_by horizon bytes =
    next (text_read source.Trace (trace_of_text bytes))
    (λ times. Ok (Done (curve_line (inferred_curve times horizon))))

-- the curve of these arrivals with this horizon is a valid one: they respect it in windows of any length, no valid
-- curve with this horizon that they respect is smaller anywhere, and a task whose jobs arrive so keeps it; and the
-- text is this curve's
pub record CurveHolds (times : List ℕ) (horizon : ℕ) (text : List ℕ) : Type 0 where
  pub valid : IsCurve (inferred_curve times horizon)
  pub respected : Respects times (inferred_curve times horizon)
  pub least : IsLeastCurve times (inferred_curve times horizon)
  pub kept : KeepsCurves times (inferred_curve times horizon)
  pub printed : text ≡ curve_line (inferred_curve times horizon)

-- the bytes are a trace, and this holds of its arrivals
pub record InferenceHolds (horizon : ℕ) (bytes text : List ℕ) : Type 0 where
  pub times : List ℕ
  pub reads : Parses trace_format bytes times
  pub curve_holds : CurveHolds times horizon text
