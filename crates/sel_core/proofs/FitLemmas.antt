-- A compound and a label.
use Rattle.std.proofs.Common.{IsTrue, ◌≡◌, ◌↔◌, ℕ, Bool, true, List, Some}
use Rattle.tp_base.specs.Classes.{all_among}
use Rattle.tp_base.proofs.ClassLemmas.{all_among_is}
use Rattle.tree_sem.specs.Trees.{LabelTree, label_at}
use Rattle.tree_sem.specs.Nodes.{HasAtoms}

pub fits_is : (t : LabelTree) (v label items atoms : List ℕ) (b : Bool)
    → Some label ≡ label_at v t → items ≡ atoms → b ≡ all_among items label → IsTrue b ↔ HasAtoms t v atoms
fits_is t v label items atoms b at same test = rw (← at, test, same) (all_among_is atoms label)

pub so : (P : Type 0) (b : Bool) → IsTrue b ↔ P → b ≡ true → P
so P b same test = same.0 test
