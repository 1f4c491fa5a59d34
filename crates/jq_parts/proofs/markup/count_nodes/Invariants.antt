use Rattle.std.proofs.Common.{◌≡◌, take}
use Rattle.jq_parts.specs.Markup.{nodes_in}
use Rattle.jq_parts.proofs.markup.count_nodes.Given as goal

abbrev pub invariant-loop-tree : goal.invariant-loop-tree
invariant-loop-tree l = l.count ≡ nodes_in (take l.tree-index l.trees)
