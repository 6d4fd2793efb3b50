use Rattle.std.proofs.Common.{rules, ◌++◌, ◌∙◌, ap, codes, decimal, List, ℕ}
use Rattle.poet_text.specs.Refusals.{line_of}
use Rattle.poet_text.proofs.WritingFacts.{wrote_as}
use Rattle.poet_text.proofs.telling.write_refusal.Goals as goal

pub returns-in-Text : goal.returns-in-Text
unfolding line_of
returns-in-Text g c =
    wrote_as _ _ _ _ _ _ _ (ap (λ (word : List ℕ). word ++
    (codes ": line " ++ (decimal c.in-Text.line ++ codes " is not of the format\n"))) c.word-in-Text.ensures ∙ search rules) c.write_number.ensures

pub returns-in-Jobs : goal.returns-in-Jobs
unfolding line_of
returns-in-Jobs g c = wrote_as _ _ _ _ _ _ _ (search rules) c.write_all-in-Jobs.ensures

pub returns-in-Segments : goal.returns-in-Segments
unfolding line_of
returns-in-Segments g c = wrote_as _ _ _ _ _ _ _ (search rules) c.write_all-in-Segments.ensures

pub returns-in-LongUpgrade : goal.returns-in-LongUpgrade
unfolding line_of
returns-in-LongUpgrade g c = wrote_as _ _ _ _ _ _ _ (search rules) c.write_all-in-LongUpgrade.ensures
