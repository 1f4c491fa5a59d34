use Rattle.std.proofs.Common.{◌≡◌, ◌<◌, ℕ, List, take, get_or}
use Rattle.closed_page.specs.Notes.{NodeFirst}
use Rattle.closed_page.specs.Runs.{row_at, start_of, end_of, AllEndBy, AreSorted, AreEnded, AreByAtom, AreByAtomWith}
use Rattle.closed_page.proofs.first_rows.put_all.Given as goal

abbrev pub invariant-loop-i : goal.invariant-loop-i
invariant-loop-i l = record {
  sorted : AreSorted l.rows.items;
  ended : AreEnded l.rows.items (end_of l.kids);
  rest : (b : ℕ) → ((k : ℕ) → k < l.i → get_or l.atoms k 0 ≡ b → ⊥) → AllEndBy (row_at l.rows.items b) (start_of l.kids);
  rows : (fs : List NodeFirst) → AreByAtom fs l.initial.rows.items → AreByAtomWith fs (take l.i l.atoms) l.kids l.rows.items;
}
