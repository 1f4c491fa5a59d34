use Rattle.std.proofs.Common.{◌↔◌, sym, subst}
use Rattle.node_marks.specs.Marks.{IsMarked}
use Rattle.jq_sem.specs.Statements as spec
use Rattle.jq_sem.specs.Together.{NamedBy, InRoots}
use Rattle.jq_sem.specs.declared.evaluation.This.TheVariants.{Nodes}
use Rattle.jq_sem.proofs.SetLemmas.{on_ok}
use Rattle.jq_sem.proofs.TogetherLemmas.{this_nothing, this_nodes}
use Rattle.jq_sem.proofs.evaluation.of_this.Goals as goal

pub returns-in-Nothing : goal.returns-in-Nothing
returns-in-Nothing c = rw c.in-Nothing.is (on_ok c.no_node.result _ _ (λ m none v. (λ on. absurd ((none v).0 on), λ is. absurd (this_nothing c.args.tree.now v is))) c.no_node.ensures)

pub returns-in-Nodes : goal.returns-in-Nodes
returns-in-Nodes c =
    let t = c.args.tree.now in
    let marks = c.in-Nodes.marks in
    rw c.in-Nodes.is (on_ok c.copy.result _ _ (λ m same v. subst (λ z. IsMarked t z v ↔ InRoots t (NamedBy t (Nodes marks)) spec.this v) (sym same) (this_nodes t marks v)) c.copy.ensures)
