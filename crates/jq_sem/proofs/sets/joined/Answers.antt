use Rattle.std.proofs.Common.{◌↔◌, subst}
use Rattle.tree_sem.specs.Nodes.{HasAtoms}
use Rattle.node_marks.specs.Marks.{IsMarked}
use Rattle.jq_sem.proofs.SetLemmas.{on_ok, under_and_then}
use Rattle.jq_sem.proofs.sets.joined.Goals as goal

pub returns : goal.returns
returns c =
    on_ok c.in_both.result _ _ (λ m both s is v.
    let fit = subst (λ z. IsMarked c.args.tree.now c.in_ok-fit.fit v ↔ HasAtoms c.args.tree.now v z) c.items.ensures (c.in_ok-fit.ensures v) in
    under_and_then c.args.tree.now s c.args.marks.now is c.args.join c.args.part.now v fit (c.in_ok-under.ensures v) (both v)) c.in_both.ensures
