use Rattle.std.proofs.Common.{◌+◌, ◌-◌, ℕ, List, ◌∷◌, take, drop, length, sym, ◌∙◌, ap, arith, length-drop}
use Rattle.std.proofs.lemmas.List.{take_all}
use Rattle.run_text.specs.Words.{words_of}
use Rattle.run_text.proofs.WordFacts.{words_at, words_none}
use Rattle.run_text.proofs.words.WordsIterator.next.Goals as goal

pub returns-in_default-clause-steps : goal.returns-in_default-clause-steps
returns-in_default-clause-steps c = rw (c.if-self.false) (words_none c.args.self.now.rest.now (sym c.in_default.ensures.value))

pub returns-in_default-clause-goes : goal.returns-in_default-clause-goes
returns-in_default-clause-goes c = record { on = λ _. (tt, tt, omega (arith, ap length (returns-in_default-clause-steps c))); keeps = tt; rests = λ _. tt }

pub returns-clause-steps : goal.returns-clause-steps
returns-clause-steps c =
    let line = c.args.self.now.rest.now in
    let rest = drop (c.in-Some.end + 1) line in
    rw (c.if-self.false) (words_at c.args.self.now.rest.now c.in-Some.end (sym c.in-Some.ensures.value) ∙
    ap (λ (l : List ℕ). take c.in-Some.end line ∷ words_of l)
    (sym (take_all (length line - (c.in-Some.end + 1)) rest (omega (arith, length-drop (c.in-Some.end + 1) line)))))

pub returns-clause-goes : goal.returns-clause-goes
returns-clause-goes c = record { on = λ _. (tt, tt, omega (arith, ap length (returns-clause-steps c))); keeps = tt; rests = λ _. tt }
