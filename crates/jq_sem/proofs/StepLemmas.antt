-- Lists of steps: one after another, and how a tree grows by them.
use Rattle.std.proofs.Common.{◌≡◌, ℕ, List, [], ◌∷◌, ◌++◌, Option, Some, None, refl}
use Rattle.std.specs.Prelude.{slice_get}
use Rattle.tree_sem.specs.declared.actions.Step.{Step}
use Rattle.tree_sem.specs.Trees.{LabelTree}
use Rattle.tree_sem.specs.Growth.{Grows}
use Rattle.tree_sem.proofs.GrowthLemmas.{grows_itself, grows_both, act_grows}
use Rattle.jq_stmts.specs.Statements.{Statement}
use Rattle.jq_sem.specs.Reachability.{after_statement, after_step, end_of, AreLegal}

pub end_of-append : (t : LabelTree) (stmts : List Statement) (a b : List Step) → end_of t stmts (a ++ b) ≡ end_of (end_of t stmts a) stmts b
end_of-append t stmts [] b = refl
end_of-append t stmts (step ∷ a) b = end_of-append (after_step t stmts step) stmts a b

pub AreLegal-append : (t : LabelTree) (stmts : List Statement) (a b : List Step) → AreLegal t stmts a → AreLegal (end_of t stmts a) stmts b → AreLegal t stmts (a ++ b)
AreLegal-append t stmts [] b first later = later
AreLegal-append t stmts (step ∷ a) b first later = (first.0, AreLegal-append (after_step t stmts step) stmts a b first.1 later)

-- and both parts of a list that is legal are
pub AreLegal-front : (t : LabelTree) (stmts : List Statement) (a b : List Step) → AreLegal t stmts (a ++ b) → AreLegal t stmts a
AreLegal-front t stmts [] b legal = tt
AreLegal-front t stmts (step ∷ a) b legal = (legal.0, AreLegal-front (after_step t stmts step) stmts a b legal.1)

pub AreLegal-behind : (t : LabelTree) (stmts : List Statement) (a b : List Step) → AreLegal t stmts (a ++ b) → AreLegal (end_of t stmts a) stmts b
AreLegal-behind t stmts [] b legal = legal
AreLegal-behind t stmts (step ∷ a) b legal = AreLegal-behind (after_step t stmts step) stmts a b legal.1

after_grows : (o : Option Statement) (v : List ℕ) (t : LabelTree) → Grows t (after_statement o v t)
after_grows None v t = grows_itself t
after_grows (Some s) v t = act_grows s.action v t

-- each node stays at its path, and keeps its atoms
pub end_of-grows : (stmts : List Statement) (steps : List Step) (t : LabelTree) → Grows t (end_of t stmts steps)
end_of-grows stmts [] t = grows_itself t
end_of-grows stmts (step ∷ steps) t =
    grows_both t (after_step t stmts step) (end_of t stmts (step ∷ steps)) (after_grows (slice_get stmts step.stmt) step.at t) (end_of-grows stmts steps (after_step t stmts step))
