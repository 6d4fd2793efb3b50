-- What is left of a line.
use Rattle.std.specs.Prelude.{ℕ, if◌then◌else◌, List, []}
use Rattle.run_text.specs.declared.words.Words.{Words}
use Rattle.run_text.specs.Words.{words_of}

-- the words that are still to be read
abbrev pub unread : Words → List (List ℕ)
unread words = if words.is_done then [] else words_of words.rest.now
