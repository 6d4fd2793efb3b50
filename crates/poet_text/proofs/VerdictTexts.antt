-- The lines of a verdict, piece by piece.
use Rattle.std.proofs.Common.{◌≡◌, ℕ, suc, ◌<◌, ◌≤◌, List, ◌++◌, length, drop, get_or, drop-cons, codes, decimal, Result, Ok, IsErr, refl, append_assoc}
use Rattle.poet_io.specs.Sinks.{Appended, Wrote}
use Rattle.poet_io.proofs.Writing.{wrote_less, wrote_more}
use Rattle.task_sheet.specs.declared.tasks.Task.{Task}
use Rattle.task_sheet.specs.SheetParts.{SheetParts}
use Rattle.conditions.specs.declared.failed.Failed.{Failed}
use Rattle.poet_text.specs.Printing.{met_word, bound_line, bounds_text, cond_text, task_text, named, refused_text}

-- the pieces of a line
pub bound_pieces : (task : Task) (bound : ℕ) → codes "task " ++ (task.name ++ (codes " bound " ++ (decimal bound ++
    (codes " deadline " ++ (decimal task.deadline ++ met_word bound task.deadline))))) ≡ bound_line task bound
unfolding bound_line
bound_pieces task bound = simp append_assoc

pub refused_pieces : (sheet : SheetParts) (failed : Failed) (word name point digits : List ℕ) → task_text sheet failed.task ≡ word ++ name →
    named (codes " point ") failed.point ≡ point ++ digits →
    cond_text failed.cond ++ (word ++ (name ++ (point ++ (digits ++ (codes "\n" ++ codes ""))))) ≡ refused_text sheet failed
unfolding refused_text
refused_pieces sheet failed word name point digits task_is point_is = rw (task_is, point_is) (simp append_assoc)

-- the next line of the bounds
bounds_next : (tasks : List Task) (bounds : List ℕ) (i : ℕ) (d : Task) (b : ℕ) → i < length tasks → i < length bounds →
    bounds_text (drop i tasks) (drop i bounds) ≡ bound_line (get_or tasks i d) (get_or bounds i b) ++ bounds_text (drop (suc i) tasks) (drop (suc i) bounds)
bounds_next tasks bounds i d b h k = rw (drop-cons tasks i d h, drop-cons bounds i b k) refl

-- lines were written, and the next one failed
pub bounds_fail : {S T E : Type 0} (before now after : List ℕ) (f g h : ℕ) (tasks : List Task) (bounds : List ℕ) (i : ℕ) (d : Task) (b : ℕ)
    (done : List ℕ) (r : Result S E) (s : Result T E) → i < length tasks → i < length bounds →
    bounds_text tasks bounds ≡ done ++ bounds_text (drop i tasks) (drop i bounds) → f ≤ g → Appended before now done → IsErr r → IsErr s →
    Wrote {T = S} {E = E} now after g h (bound_line (get_or tasks i d) (get_or bounds i b)) r → Wrote {T = T} {E = E} before after f h (bounds_text tasks bounds) s
bounds_fail {E = E} before now after f g h tasks bounds i d b done r s lt few all le so_far is_r is_s w =
    let first : Wrote {T = Unit {0}} {E = E} before now f g done (Ok tt) = record { later = le; whole = so_far; cause = tt; part = tt } in
    rw (all, bounds_next tasks bounds i d b lt few)
    (wrote_more before now after f g h done _ tt s first
    (wrote_less now after g h _ (bounds_text (drop (suc i) tasks) (drop (suc i) bounds)) r s is_r is_s w))
