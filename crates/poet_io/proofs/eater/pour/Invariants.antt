use Rattle.std.proofs.Common.{◌≡◌, ◌+◌, ◌-◌, ◌≤◌, ℕ, List, true, length}
use Rattle.poet_io.specs.Eaters.{Ate}
use Rattle.poet_io.specs.Events.{ReadSoFar}
use Rattle.poet_io.proofs.Reading.{SoFar}
use Rattle.poet_io.proofs.eater.pour.Given as goal

abbrev pub invariant-loop-count : goal.invariant-loop-count
invariant-loop-count g l =
    record {
      bytes : List ℕ;
      count : l.count ≡ length bytes;
      within : l.count ≤ l.limit + 1;
      files : g.H.Shelf.files l.shelf ≡ g.H.Shelf.files l.fn.shelf;
      is_open : g.H.Shelf.is_open l.shelf ≡ true;
      faults : g.H.Shelf.faults l.fn.shelf ≤ g.H.Shelf.faults l.shelf;
      read : ReadSoFar l.name bytes (g.H.Shelf.log l.fn.shelf) (g.H.Shelf.log l.shelf);
      so_far : SoFar (g.H.Shelf.files l.fn.shelf) l.name bytes (g.H.Shelf.left l.shelf);
      eaten : Ate g.E.Eater.stands l.fn.eater l.eater bytes;
    }

abbrev pub decreases-loop-count : goal.decreases-loop-count
decreases-loop-count g l = l.limit + 1 - l.count
