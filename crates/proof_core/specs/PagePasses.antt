-- The items of a page that were passed, by the numbers of their nodes.
--     seen_in nodes here v    the items at the node at the path v
use Rattle.std.specs.Prelude.{ℕ, List, [], ◌∷◌, ◌++◌, length, option_map, unwrap_or}
use Rattle.simple_core.specs.declared.system.System.{System}
use Rattle.tree_sem.specs.Trees.{LabelTree, children_at}
use Rattle.proof_check.specs.NodePaths.{NodePaths}
use Rattle.proof_core.specs.declared.node_passes.NodePass.{NodePass}
use Rattle.proof_core.specs.declared.page_passes.PageNode.{PageNode}
use Rattle.proof_check.specs.declared.proofs.Entry.{Entry}
use Rattle.proof_check.specs.declared.proofs.PageItem.{PageItem}
use Rattle.proof_check.specs.declared.proofs.ProofItem.{ProofItem}
use Rattle.proof_check.specs.Nodes.{number_in}
use Rattle.proof_core.specs.NodePasses.{seen_at}
use Rattle.proof_check.specs.Unfolding.{Progress, Passed, unfold_item, unfold_entry}

abbrev pub seen_in : NodePaths → List NodePass → List ℕ → List Passed
seen_in nodes here v = unwrap_or (option_map (λ n. seen_at here n v) (number_in nodes v)) []

-- the unfolding of an item of the page, where `passed` gives the items that were passed at each node
abbrev pub item_seen : System → List Entry → LabelTree → PageItem → (List ℕ → List Passed) → Progress → Progress × Passed
item_seen s es page i passed done =
    unfold_item s (unfold_entry s es (length es)) i.item (unwrap_or (children_at i.at page) 0) i.at (passed i.at) (λ k. passed (i.at ++ k ∷ [])) done

-- the unfolding of an item at a node
abbrev pub unfold_at : System → List Entry → ProofItem → PageNode → Progress → Progress × Passed
unfold_at s es item node done =
    unfold_item s (unfold_entry s es (length es)) item node.base node.at.now (seen_at node.here.now node.number node.at.now) (λ k. seen_in node.nodes.now node.here.now (node.at.now ++ k ∷ [])) done
