-- A statement on `$('*')` is on all nodes.
use Rattle.std.proofs.Common.{List, None, ℕ, sym, subst, inl}
use Rattle.tree_sem.specs.Trees.{LabelTree}
use Rattle.tree_sem.specs.Nodes.{IsNode}
use Rattle.tree_sem.proofs.NodeLemmas.{HasAtoms-none}
use Rattle.jq_stmts.specs.Statements.{Chain, Statement}
use Rattle.jq_sem.specs.Statements.{In, SelectedUnder}
use Rattle.lower_cover.specs.Outputs.{SelectsAll, IsStar, star}

in_star : (t : LabelTree) (v : List ℕ) → IsNode t v → In t None star v
in_star t v is = inl (HasAtoms-none t v is, tt)

pub star_selects : (s : Statement) → IsStar s → SelectsAll s
star_selects s is t v here =
    subst (λ (hs : List Chain). SelectedUnder t None hs s.chain v) (sym is.0) (subst (λ (c : Chain). In t None c v) (sym is.1) (in_star t v here))
