use Rattle.std.proofs.Common.{Some, None, refl}
use Rattle.tree_sem.specs.Trees.{LabelTree}
use Rattle.tree_sem.proofs.TableLemmas.{no_node, node_there, child_number, walked}
use Rattle.tree_sem.proofs.FaultLemmas.{no_node_fault, not_missing, full_tree}
use Rattle.tree_sem.proofs.label_tree.Tree.add_child.Goals as goal

-- no node is there
pub returns-in_default-clause-no_such_node : goal.returns-in_default-clause-no_such_node
returns-in_default-clause-no_such_node c =
    let slots = c.self.inside.slots in
    let at = walked slots c.args.at.now c.len.result None c.len.ensures c.in_default.ensures.place in
    let none = no_node slots c.self.invariant.forest c.args.at.now at in
    rw (← c.self.view_is, none) (λ _. refl, λ _. refl)

pub returns-in_default-clause-too_many_nodes : goal.returns-in_default-clause-too_many_nodes
returns-in_default-clause-too_many_nodes c =
    let slots = c.self.inside.slots in
    let at = walked slots c.args.at.now c.len.result None c.len.ensures c.in_default.ensures.place in
    let none = no_node slots c.self.invariant.forest c.args.at.now at in
    rw (← c.self.view_is, none) (no_node_fault LabelTree _)

-- a node is there
pub returns-clause-number : goal.returns-clause-number
returns-clause-number c =
    let slots = c.self.inside.slots in
    let at = walked slots c.args.at.now c.len.result (Some c.in-Some.place) c.len.ensures c.in-Some.ensures.place in
    rw (← c.self.view_is) (child_number slots c.self.invariant.forest c.args.at.now c.in-Some.place at c.add_last.result c.add_last.ensures.number)

pub returns-clause-no_such_node : goal.returns-clause-no_such_node
returns-clause-no_such_node c =
    let slots = c.self.inside.slots in
    let at = walked slots c.args.at.now c.len.result (Some c.in-Some.place) c.len.ensures c.in-Some.ensures.place in
    let there = node_there slots c.self.invariant.forest c.args.at.now c.in-Some.place at in
    rw (← c.self.view_is) (not_missing _ _ c.add_last.result there c.add_last.ensures.no_such_node)

pub returns-clause-too_many_nodes : goal.returns-clause-too_many_nodes
returns-clause-too_many_nodes c =
    let slots = c.self.inside.slots in
    let at = walked slots c.args.at.now c.len.result (Some c.in-Some.place) c.len.ensures c.in-Some.ensures.place in
    let there = node_there slots c.self.invariant.forest c.args.at.now c.in-Some.place at in
    rw (← c.self.view_is) (full_tree _ _ c.add_last.result _ _ _ there c.self.invariant.counted c.add_last.ensures.too_many_nodes)
