use Rattle.std.proofs.Common.{◌↔◌, ℕ, List, subst}
use Rattle.tree_sem.specs.Trees.{LabelTree}
use Rattle.node_marks.specs.Marks.{IsMarked}
use Rattle.jq_sem.specs.Statements.{Selected}
use Rattle.jq_stmts.specs.Views.{statement_of}
use Rattle.jq_sem.proofs.SetLemmas.{on_ok}
use Rattle.jq_sem.proofs.runs.selected_nodes.Goals as goal

pub returns : goal.returns
returns c =
    let s = statement_of c.args.s.now in
    on_ok c.selected.result _ _ (λ m is. subst (λ (z : LabelTree). (v : List ℕ) → IsMarked z m v ↔ Selected z s v) c.in_ok-numbered.ensures is) c.selected.ensures
