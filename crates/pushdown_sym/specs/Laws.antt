-- Laws of cells: what they tell, and that they are ordered.
--     TellGrown s              a cell holds under a label exactly where a node of its kind, below a parent with that visible label, has the atom
--     AreOrdered s             every cell is ordered
--     Tells s branches now k   these diagrams are the cells of round k
use Rattle.std.specs.Prelude.{◌≡◌, ℕ, ◌<◌, List, length}
use Rattle.tp_base.specs.Classes.{has_class}
use Rattle.class_diagrams.specs.Trees.{Tree, IsOrdered, eval}
use Rattle.simple_core.specs.declared.system.System.{System}
use Rattle.simple_core.specs.Rounds.{grown}
use Rattle.pushdown_sym.specs.CellMap.{Entries, trees_in}
use Rattle.pushdown_sym.specs.Rounds.{cell}

abbrev pub TellGrown : System → Type 0
TellGrown s = (k j a : ℕ) (p : List ℕ) → eval (cell s k j a) p ≡ has_class a (grown s k j p)

abbrev pub AreOrdered : System → Type 0
AreOrdered s = (k j a : ℕ) → IsOrdered (cell s k j a)

abbrev pub Tells : System → List Tree → Entries → ℕ → Type 0
Tells s branches now k = (j a : ℕ) → j < length s.kinds → trees_in branches now j a ≡ cell s k j a
