use Rattle.std.proofs.Common.{◌≡◌, ◌≤◌, None, unwrap_or, sym, ◌∙◌, subst}
use Rattle.tree_sem.specs.Trees.{children_at}
use Rattle.tree_sem.specs.TreeNodes.{node_of}
use Rattle.tree_sem.specs.declared.tree_fault.TheConstants.{MOST_NODES}
use Rattle.proof_core.proofs.PagePassLemmas.{few_children, base_told, base_none}
use Rattle.proof_core.proofs.page_passes.base_of.Goals as goal

pub returns-in-Some-clause-base : goal.returns-in-Some-clause-base
returns-in-Some-clause-base c = base_told c.args.page.now c.args.at.now c.in-Some.node c.children.result c.in-Some.ensures.node c.children.ensures

pub returns-in-Some-clause-few : goal.returns-in-Some-clause-few
returns-in-Some-clause-few c =
    let page = c.args.page.now in
    subst (λ n. n ≤ MOST_NODES) (sym (base_told page c.args.at.now c.in-Some.node c.children.result c.in-Some.ensures.node c.children.ensures)) (few_children page c.args.at.now c.node.ensures.in_limit)

pub returns-in-None-clause-base : goal.returns-in-None-clause-base
returns-in-None-clause-base c = base_none c.args.page.now c.args.at.now (sym c.in-None.is ∙ c.node.ensures.node)
