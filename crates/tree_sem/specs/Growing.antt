-- A tree that grows at one of its nodes, or over which a walk goes.
--     GrowingTree     the tree, and the path of its current node
--     IsGrowing       a table that is such a tree, and the place of the current node in it
use Rattle.std.specs.Prelude.{◌≡◌, ℕ, List, Some, refl}
use Rattle.std.specs.Coded.{Coded, code_by, coded×, coded_ℕ, coded_list}
use Rattle.slab.specs.Slab.{Slab}
use Rattle.tree_sem.specs.declared.slots.Slot.{Slot}
use Rattle.tree_sem.specs.Trees.{LabelTree}
use Rattle.tree_sem.specs.TreeCode.{tree_code}
use Rattle.tree_sem.specs.Arena.{place_from}
use Rattle.tree_sem.specs.Table.{kids_in, tree_in, IsTable}

pub record GrowingTree : Type 0 where
  pub tree : LabelTree
  pub at : List ℕ

abbrev pub growing_code : Coded GrowingTree
growing_code = code_by (LabelTree × List ℕ) (coded× tree_code (coded_list coded_ℕ)) (λ g. (g.tree, g.at)) (λ p. record { tree = p.0; at = p.1 }) (λ g. refl)

abbrev pub growing : Slab Slot → List ℕ → GrowingTree
growing slots at = record { tree = tree_in slots 0; at = at }

pub record IsGrowing (slots : Slab Slot) (at : List ℕ) (place : ℕ) : Type 0 where
  pub table : IsTable slots
  pub here : place_from (kids_in slots) 0 at ≡ Some place
