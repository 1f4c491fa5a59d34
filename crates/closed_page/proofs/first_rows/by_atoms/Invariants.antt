use Rattle.std.proofs.Common.{◌≤◌, ◌<◌, ◌-◌, ℕ, take, length, get_or}
use Rattle.closed_page.specs.declared.notes.NodeNews.{NodeNews}
use Rattle.closed_page.specs.Notes.{expanded}
use Rattle.closed_page.specs.Runs.{AreSorted, AreEnded, AreByAtom}
use Rattle.closed_page.proofs.first_rows.by_atoms.Given as goal

abbrev pub invariant-notes : goal.invariant-notes
invariant-notes l = record {
  rows : AreByAtom (expanded (take l.i l.notes)) l.rows.items;
  sorted : AreSorted l.rows.items;
  ended : (j : ℕ) (d : NodeNews) → l.i ≤ j → j < length l.notes → AreEnded l.rows.items (get_or l.notes j d).spot;
}

abbrev pub decreases-notes : goal.decreases-notes
decreases-notes l = length l.notes - l.i
