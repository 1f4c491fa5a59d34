use Rattle.std.proofs.Common.{◌+◌, ◌*◌, ◌<◌, length, All, refl, ap, arith}
use Rattle.std.specs.List.{sum_by}
use Rattle.tp_base.proofs.Truths.{not_so}
use Rattle.tree_sem.specs.declared.tree_fault.TheConstants.{MOST_NODES}
use Rattle.tree_sem.specs.Trees.{count_of, edit_each}
use Rattle.tree_sem.specs.Nodes.{IsNode}
use Rattle.tree_sem.specs.Actions.{add_trees}
use Rattle.tree_sem.proofs.EachLemmas.{count_of-edit_each}
use Rattle.tree_sem.proofs.FaultLemmas.{past, fits, not_too_many}
use Rattle.tree_sem.proofs.label_tree.Tree.add_trees_to_each.Goals as goal

pub returns-then-not-has_room-clause-too_many_nodes : goal.returns-then-not-has_room-clause-too_many_nodes
returns-then-not-has_room-clause-too_many_nodes c =
    let tree = c.args.self.now in
    let at = c.args.at.now in
    let nodes : All (IsNode tree) at = c.has_each.ensures.0 c.if-not-has_each.false in
    let count = count_of-edit_each at c.args.tops.now tree nodes in
    let needed = c.count-held.result + length at * sum_by count_of c.args.tops.now in
    let more : MOST_NODES < count_of (edit_each at (add_trees c.args.tops.now) tree) = past _ needed MOST_NODES (omega (arith, count, c.count-held.ensures.count)) (not_so _ c.has_room.result c.has_room.ensures c.if-not-has_room.true) in
    (λ _. (nodes, more), λ _. refl)

-- memory failed
pub returns-in_err-graft_each-clause-too_many_nodes : goal.returns-in_err-graft_each-clause-too_many_nodes
returns-in_err-graft_each-clause-too_many_nodes c =
    let tree = c.args.self.now in
    let at = c.args.at.now in
    let nodes : All (IsNode tree) at = c.has_each.ensures.0 c.if-not-has_each.false in
    let count = count_of-edit_each at c.args.tops.now tree nodes in
    let fits = c.has_room.ensures.0 c.if-not-has_room.false in
    (λ same. absurd (not_too_many c.from_residual.result c.from_residual.ensures.1 same), λ both. absurd (omega (arith, both.1, count, fits, c.count-held.ensures.count)))

-- all are added
pub returns-clause-too_many_nodes : goal.returns-clause-too_many_nodes
returns-clause-too_many_nodes c =
    let tree = c.args.self.now in
    let at = c.args.at.now in
    let nodes : All (IsNode tree) at = c.has_each.ensures.0 c.if-not-has_each.false in
    let count = count_of-edit_each at c.args.tops.now tree nodes in
    let room = c.has_room.ensures.0 c.if-not-has_room.false in
    fits _ _ (λ both. omega (arith, both.1, count, room, c.count-held.ensures.count))

pub returns-clause-in_limit : goal.returns-clause-in_limit
returns-clause-in_limit c =
    let tree = c.args.self.now in
    let at = c.args.at.now in
    let nodes : All (IsNode tree) at = c.has_each.ensures.0 c.if-not-has_each.false in
    let count = count_of-edit_each at c.args.tops.now tree nodes in
    let room = c.has_room.ensures.0 c.if-not-has_room.false in
    let new = ap count_of c.in_ok-graft_each.ensures.ok in
    omega (arith, new, count, room, c.count-held.ensures.count)
