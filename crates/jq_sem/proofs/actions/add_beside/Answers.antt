use Rattle.std.proofs.Common.{IsNone, refl, sym, ◌∙◌, subst}
use Rattle.tree_sem.specs.declared.actions.Action.TheVariants.{Beside}
use Rattle.tree_sem.specs.Actions.{act}
use Rattle.tree_sem.specs.Trees.{LabelTree}
use Rattle.jq_sem.specs.Runs.{IsChange}
use Rattle.jq_sem.proofs.RunLemmas.{unchanged, beside_root, beside_child, parent_node}
use Rattle.jq_sem.proofs.actions.add_beside.Goals as goal

pub add_inside-requires : goal.add_inside-requires
add_inside-requires c = parent_node c.args.at.now c.pop.new.self c.in-Some.field-0 c.args.tree.now (sym c.in_ok-parent.ensures ∙ c.in-Some.ensures.last) c.requires

pub returns : goal.returns
returns c =
    subst (λ (z : LabelTree). IsChange c.args.tree.now z c.add_inside.new.tree c.add_inside.result) (beside_child c.args.forest.now c.args.at.now c.pop.new.self c.in-Some.field-0 c.args.tree.now (sym c.in_ok-parent.ensures ∙ c.in-Some.ensures.last))
    c.add_inside.ensures

pub returns-in-None : goal.returns-in-None
returns-in-None c =
    unchanged c.args.tree.now (act (Beside c.args.forest.now) c.args.at.now c.args.tree.now)
    (beside_root c.args.forest.now c.args.at.now c.args.tree.now (sym c.in_ok-parent.ensures ∙ c.pop.ensures.root.0 (subst IsNone (sym c.in-None.is) refl)))
