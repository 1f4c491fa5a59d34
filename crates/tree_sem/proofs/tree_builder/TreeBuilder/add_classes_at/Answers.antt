use Rattle.std.proofs.Common.{Some, None, refl, sym, ap, ◌∙◌}
use Rattle.tp_base.specs.Classes.{union_of}
use Rattle.tp_base.proofs.ClassLemmas.{IsStrictlyIncreasing-union_of}
use Rattle.tree_sem.specs.Arena.{place_from}
use Rattle.tree_sem.specs.Table.{label_in}
use Rattle.tree_sem.proofs.ChangeLemmas.{kids_kept, same_table, relabelled_tree, table_relabelled}
use Rattle.tree_sem.proofs.FaultLemmas.{memory_fault, no_fault}
use Rattle.tree_sem.proofs.TableLemmas.{no_node, node_there, walked}
use Rattle.tree_sem.proofs.tree_builder.TreeBuilder.add_classes_at.Goals as goal

-- no node is there
pub returns-in_default-clause-no_such_node : goal.returns-in_default-clause-no_such_node
returns-in_default-clause-no_such_node c =
    let slots = c.self.inside.slots in
    let at = walked slots c.args.at.now c.len.result None c.len.ensures c.in_default.ensures.place in
    let none = no_node slots c.self.invariant.table.forest c.args.at.now at in
    rw (← c.self.view_is, none) (λ _. refl, λ _. refl)

-- a node is there
pub returns-in_err-unite_label-clause-no_such_node : goal.returns-in_err-unite_label-clause-no_such_node
returns-in_err-unite_label-clause-no_such_node c =
    let slots = c.self.inside.slots in
    let at = walked slots c.args.at.now c.len.result (Some c.in-Some.place) c.len.ensures c.in-Some.ensures.place in
    let there = node_there slots c.self.invariant.table.forest c.args.at.now c.in-Some.place at in
    rw (← c.self.view_is) (memory_fault _ _ c.from_residual.result there c.from_residual.ensures.1)

pub invariant_of-self : goal.invariant_of-self
invariant_of-self c =
    let slots = c.self.inside.slots in
    let change = c.in_err-unite_label.ensures.err in
    record {
      table = same_table slots c.unite_label.new.slots c.in-Some.place change c.self.invariant.table;
      here = ap (λ kids. place_from kids 0 c.self.inside.at) (kids_kept slots c.unite_label.new.slots c.in-Some.place _ _ change) ∙ c.self.invariant.here;
    }

pub invariant_of-self-2 : goal.invariant_of-self-2
invariant_of-self-2 c =
    let slots = c.self.inside.slots in
    let place = c.in-Some.place in
    let classes = c.args.classes.now in
    let at = walked slots c.args.at.now c.len.result (Some place) c.len.ensures c.in-Some.ensures.place in
    let change = c.in_ok-unite_label.ensures.ok in
    record {
      table = table_relabelled slots c.unite_label.new.slots place (union_of (label_in slots place) classes) c.self.invariant.table change (IsStrictlyIncreasing-union_of (label_in slots place) classes (c.self.invariant.table.forest.rising place)) (λ l. union_of l classes) refl c.args.at.now (sym at);
      here = ap (λ kids. place_from kids 0 c.self.inside.at) (kids_kept slots c.unite_label.new.slots place _ _ change) ∙ c.self.invariant.here;
    }

pub returns-clause-ok : goal.returns-clause-ok
returns-clause-ok c =
    let slots = c.self.inside.slots in
    let place = c.in-Some.place in
    let classes = c.args.classes.now in
    let at = walked slots c.args.at.now c.len.result (Some place) c.len.ensures c.in-Some.ensures.place in
    rw (← c.self.view_is) (relabelled_tree slots c.unite_label.new.slots place (union_of (label_in slots place) classes) c.self.invariant.table.forest c.in_ok-unite_label.ensures.ok (IsStrictlyIncreasing-union_of (label_in slots place) classes (c.self.invariant.table.forest.rising place)) (λ l. union_of l classes) refl c.args.at.now (sym at))

pub returns-clause-no_such_node : goal.returns-clause-no_such_node
returns-clause-no_such_node c =
    let slots = c.self.inside.slots in
    let at = walked slots c.args.at.now c.len.result (Some c.in-Some.place) c.len.ensures c.in-Some.ensures.place in
    let there = node_there slots c.self.invariant.table.forest c.args.at.now c.in-Some.place at in
    rw (← c.self.view_is) (no_fault _ _ tt there)
