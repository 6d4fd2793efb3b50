-- The one text of each trace.
use Rattle.std.specs.Prelude.{◌≡◌, ℕ, List, ◌++◌, length, codes, decimal, flat_map}
use Rattle.poet_io.specs.Texts.{Format}
use Rattle.curve_infer.specs.Traces.{IsTrace}

-- a line of one word and a number
abbrev pub number_line : List ℕ → ℕ → List ℕ
number_line front n = front ++ (decimal n ++ codes "\n")

-- the line of an arrival: a T
abbrev pub arrival_line : ℕ → List ℕ
arrival_line t = number_line (codes "a ") t

-- the line of the count: arrivals N
abbrev pub count_line : ℕ → List ℕ
count_line n = number_line (codes "arrivals ") n

-- the text of a trace, spelled
abbrev pub text_of : List ℕ → List ℕ
text_of times = codes "poet-trace 1\n" ++ (count_line (length times) ++ (flat_map arrival_line times ++ codes "end\n"))

-- the format of traces: each trace has its one text
abbrev pub trace_format : Format (List ℕ)
trace_format = record { is_within = IsTrace; is_text_of = λ bytes times. bytes ≡ text_of times }
