-- The reading of any bytes, line by line.
use Rattle.std.specs.Prelude.{ℕ, ◌+◌, ◌==◌, Bool, true, false, if◌then◌else◌, List, [], ◌∷◌, ◌++◌, Result, Ok, Err}
use Rattle.std.specs.Option.{option_map_or}
use Rattle.run_model.specs.declared.run.Run.{Run}
use Rattle.run_text.specs.declared.stage.Stage.{Stage}
use Rattle.run_text.specs.declared.stage.Stage.TheVariants.{Over}
use Rattle.poet_io.specs.declared.text_refusal.TextRefusal.{TextRefusal}
use Rattle.poet_io.specs.declared.text_refusal.TextRefusal.TheVariants.{Line}
use Rattle.run_text.specs.Parts.{Part, nothing_read, after_line}

-- the last line was read, and no byte follows it
abbrev pub is_whole : Stage → List ℕ → Bool
is_whole Over [] = true
is_whole _ _ = false

-- reading on: what the lines before say, the number of the next line, its bytes so far, and the bytes behind them
abbrev pub read_on : Part → ℕ → List ℕ → List ℕ → Result Run TextRefusal
read_on p n line [] = if is_whole p.stage line then Ok (record { jobs = p.jobs; ticks = p.ticks }) else Err (Line n)
read_on p n line (x ∷ bytes) =
    if x == 10 then option_map_or (λ q. read_on q (n + 1) [] bytes) (after_line p line) (Err (Line n))
    else read_on p n (line ++ x ∷ []) bytes

-- what reading the bytes gives
unfoldable pub run_of_text : List ℕ → Result Run TextRefusal
run_of_text bytes = read_on nothing_read 1 [] bytes
