use Rattle.std.proofs.Common.{◌≡◌, ℕ, List, Some}
use Rattle.tree_sem.specs.Arena.{place_from}
use Rattle.tree_sem.specs.Table.{kids_in}
use Rattle.tree_sem.proofs.CopyLemmas.{IsCopying, turns}
use Rattle.tree_sem.proofs.copying.copy_below.Given as goal

abbrev pub invariant-nodes : goal.invariant-nodes
invariant-nodes l = (p : List ℕ) → place_from (kids_in l.initial.slots) 0 p ≡ Some l.top → IsCopying l.initial.slots l.slots l.source p l.next

abbrev pub decreases-nodes : goal.decreases-nodes
decreases-nodes l = turns l.initial.slots l.slots l.source l.next
