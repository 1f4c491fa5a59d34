-- Evaluation of chains on sets of nodes, for all nodes at once that `this` may name.
--     IsUnder j S v           the combinator j leads from v to a node of S
--     MadeOf t S calls v      v is in the set that the calls, last first, make from S
--     NamedBy t this u        `this` may name u: no node outside all handlers, or one of the marked nodes
--     InRoots, InOne          v is in the set of a root, of a chain, with one of U as `this`
use Rattle.std.specs.Prelude.{◌≡◌, ℕ, List, [], ◌∷◌, Option, Some, None}
use Rattle.tree_sem.specs.Trees.{LabelTree}
use Rattle.node_marks.specs.Marks.{IsMarked, HasParentIn, HasAncestorIn}
use Rattle.sel_text.specs.Selectors.{Join, child, inside}
use Rattle.jq_sem.specs.declared.evaluation.This.{This}
use Rattle.jq_sem.specs.declared.evaluation.This.TheVariants.{Nothing, Nodes}
use Rattle.jq_sem.specs.Statements.{IsMade, InRoot, In}
use Rattle.jq_stmts.specs.Statements.{Root, Call, Chain}

abbrev pub IsUnder : Join → (List ℕ → Type 0) → List ℕ → Type 0
IsUnder child S v = HasParentIn S v
IsUnder inside S v = HasAncestorIn S v

abbrev pub MadeOf : LabelTree → (List ℕ → Type 0) → List Call → List ℕ → Type 0
MadeOf t S [] v = S v
MadeOf t S (c ∷ earlier) v = IsMade t (MadeOf t S earlier) c v

abbrev pub NamedBy : LabelTree → This → Option (List ℕ) → Type 0
NamedBy t Nothing u = u ≡ None
NamedBy t (Nodes marks) None = ⊥
NamedBy t (Nodes marks) (Some w) = IsMarked t marks w

abbrev pub InRoots : LabelTree → (Option (List ℕ) → Type 0) → Root → List ℕ → Type 0
InRoots t U root v = (u : Option (List ℕ)) × U u × InRoot t u root v

abbrev pub InOne : LabelTree → (Option (List ℕ) → Type 0) → Chain → List ℕ → Type 0
InOne t U chain v = (u : Option (List ℕ)) × U u × In t u chain v
