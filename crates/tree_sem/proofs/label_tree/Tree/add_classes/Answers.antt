use Rattle.std.proofs.Common.{Some, None, refl, sym}
use Rattle.tp_base.specs.Classes.{union_of}
use Rattle.tp_base.proofs.ClassLemmas.{IsStrictlyIncreasing-union_of}
use Rattle.tree_sem.specs.Table.{label_in}
use Rattle.tree_sem.proofs.TableLemmas.{no_node, node_there, label_there, walked}
use Rattle.tree_sem.proofs.FaultLemmas.{memory_fault, no_fault}
use Rattle.tree_sem.proofs.ChangeLemmas.{same_table, relabelled_tree, table_relabelled, tree_in_limit}
use Rattle.tree_sem.proofs.label_tree.Tree.add_classes.Goals as goal

-- no node is there
pub returns-in_default-clause-no_such_node : goal.returns-in_default-clause-no_such_node
returns-in_default-clause-no_such_node c =
    let slots = c.self.inside.slots in
    let at = walked slots c.args.at.now c.len.result None c.len.ensures c.in_default.ensures.place in
    let none = no_node slots c.self.invariant.forest c.args.at.now at in
    rw (← c.self.view_is, none) (λ _. refl, λ _. refl)

-- a node is there
pub returns-in_err-any_new-clause-no_such_node : goal.returns-in_err-any_new-clause-no_such_node
returns-in_err-any_new-clause-no_such_node c =
    let slots = c.self.inside.slots in
    let at = walked slots c.args.at.now c.len.result (Some c.in-Some.place) c.len.ensures c.in-Some.ensures.place in
    let there = node_there slots c.self.invariant.forest c.args.at.now c.in-Some.place at in
    rw (← c.self.view_is) (memory_fault _ _ c.from_residual.result there c.from_residual.ensures.1)

pub invariant_of-self-2 : goal.invariant_of-self-2
invariant_of-self-2 c =
    let slots = c.self.inside.slots in
    let at = walked slots c.args.at.now c.len.result (Some c.in-Some.place) c.len.ensures c.in-Some.ensures.place in
    table_relabelled slots c.unite_label.new.slots c.in-Some.place (union_of (label_in slots c.in-Some.place) c.args.classes.now) c.self.invariant c.in_ok-any_new.ensures.ok (IsStrictlyIncreasing-union_of (label_in slots c.in-Some.place) c.args.classes.now (c.self.invariant.forest.rising c.in-Some.place)) (λ l. union_of l c.args.classes.now) refl c.args.at.now (sym at)

pub returns-clause-ok : goal.returns-clause-ok
returns-clause-ok c =
    let slots = c.self.inside.slots in
    let at = walked slots c.args.at.now c.len.result (Some c.in-Some.place) c.len.ensures c.in-Some.ensures.place in
    rw (← c.self.view_is) (relabelled_tree slots c.unite_label.new.slots c.in-Some.place (union_of (label_in slots c.in-Some.place) c.args.classes.now) c.self.invariant.forest c.in_ok-any_new.ensures.ok (IsStrictlyIncreasing-union_of (label_in slots c.in-Some.place) c.args.classes.now (c.self.invariant.forest.rising c.in-Some.place)) (λ l. union_of l c.args.classes.now) refl c.args.at.now (sym at))

pub returns-clause-test : goal.returns-clause-test
returns-clause-test c =
    let slots = c.self.inside.slots in
    let at = walked slots c.args.at.now c.len.result (Some c.in-Some.place) c.len.ensures c.in-Some.ensures.place in
    let there = label_there slots c.self.invariant.forest c.args.at.now c.in-Some.place at in
    rw (← c.self.view_is, there) c.in_ok-any_new.ensures.test

pub returns-clause-grew : goal.returns-clause-grew
returns-clause-grew c =
    let slots = c.self.inside.slots in
    let at = walked slots c.args.at.now c.len.result (Some c.in-Some.place) c.len.ensures c.in-Some.ensures.place in
    let there = label_there slots c.self.invariant.forest c.args.at.now c.in-Some.place at in
    rw (← c.self.view_is, there) c.in_ok-any_new.ensures.grew

pub returns-clause-no_such_node : goal.returns-clause-no_such_node
returns-clause-no_such_node c =
    let slots = c.self.inside.slots in
    let at = walked slots c.args.at.now c.len.result (Some c.in-Some.place) c.len.ensures c.in-Some.ensures.place in
    let there = node_there slots c.self.invariant.forest c.args.at.now c.in-Some.place at in
    rw (← c.self.view_is) (no_fault _ _ c.in_ok-any_new.any_new there)

pub returns-clause-in_limit : goal.returns-clause-in_limit
returns-clause-in_limit c =
    let slots = c.self.inside.slots in
    let at = walked slots c.args.at.now c.len.result (Some c.in-Some.place) c.len.ensures c.in-Some.ensures.place in
    tree_in_limit c.unite_label.new.slots (table_relabelled slots c.unite_label.new.slots c.in-Some.place (union_of (label_in slots c.in-Some.place) c.args.classes.now) c.self.invariant c.in_ok-any_new.ensures.ok (IsStrictlyIncreasing-union_of (label_in slots c.in-Some.place) c.args.classes.now (c.self.invariant.forest.rising c.in-Some.place)) (λ l. union_of l c.args.classes.now) refl c.args.at.now (sym at))

-- memory failed
pub invariant_of-self : goal.invariant_of-self
invariant_of-self c = same_table c.self.inside.slots c.unite_label.new.slots c.in-Some.place c.in_err-any_new.ensures.err c.self.invariant
