-- The trees that a system makes of a tree by legal steps.
--     IsLater s u u'    some legal steps lead from u to u', and u' keeps each node of u with its atoms
--     Got s u v a       some later tree has the atom a at v
use Rattle.std.specs.Prelude.{◌≡◌, ℕ, List}
use Rattle.tree_sem.specs.Trees.{LabelTree}
use Rattle.tree_sem.specs.Nodes.{HasAtom}
use Rattle.tree_sem.specs.Growth.{Grows}
use Rattle.simple_core.specs.declared.system.System.{System}
use Rattle.simple_core.specs.SimpleSteps.{SimpleStep, end_of, AreLegal}

pub record IsLater (s : System) (u u' : LabelTree) : Type 0 where
  pub steps : List SimpleStep
  pub legal : AreLegal s u steps
  pub ends : end_of s u steps ≡ u'
  pub grows : Grows u u'

pub record Got (s : System) (u : LabelTree) (v : List ℕ) (a : ℕ) : Type 0 where
  pub after : LabelTree
  pub later : IsLater s u after
  pub has : HasAtom after v a
