use Rattle.std.proofs.Common.{Some, None, refl, sym, ap}
use Rattle.tp_base.specs.Losses.{without_class}
use Rattle.tp_base.proofs.LossLemmas.{IsStrictlyIncreasing-without_class}
use Rattle.tree_sem.specs.Cuts.{take_class}
use Rattle.tree_sem.specs.Table.{label_in, tree_in}
use Rattle.tree_sem.proofs.ChangeLemmas.{relabelled_tree, table_relabelled, tree_in_limit}
use Rattle.tree_sem.proofs.EditLemmas.{edit_at-none}
use Rattle.tree_sem.proofs.TableLemmas.{no_node, label_there, walked}
use Rattle.tree_sem.proofs.label_tree.Tree.take_class.Goals as goal

pub invariant_of-self : goal.invariant_of-self
invariant_of-self c =
    let slots = c.self.inside.slots in
    let place = c.in_ok-place.place in
    let l = label_in slots place in
    let at = walked slots c.args.at.now c.len.result (Some place) c.len.ensures c.in_ok-place.ensures.place in
    table_relabelled slots c.take_from_label.new.slots place (without_class c.args.atom l) c.self.invariant c.take_from_label.ensures.taken (IsStrictlyIncreasing-without_class c.args.atom l (c.self.invariant.forest.rising place)) (without_class c.args.atom) refl c.args.at.now (sym at)

pub returns-clause-taken : goal.returns-clause-taken
returns-clause-taken c =
    let slots = c.self.inside.slots in
    let place = c.in_ok-place.place in
    let l = label_in slots place in
    let at = walked slots c.args.at.now c.len.result (Some place) c.len.ensures c.in_ok-place.ensures.place in
    rw (← c.self.view_is) (relabelled_tree slots c.take_from_label.new.slots place (without_class c.args.atom l) c.self.invariant.forest c.take_from_label.ensures.taken (IsStrictlyIncreasing-without_class c.args.atom l (c.self.invariant.forest.rising place)) (without_class c.args.atom) refl c.args.at.now (sym at))

pub returns-clause-in_limit : goal.returns-clause-in_limit
returns-clause-in_limit c =
    let slots = c.self.inside.slots in
    let place = c.in_ok-place.place in
    let l = label_in slots place in
    let at = walked slots c.args.at.now c.len.result (Some place) c.len.ensures c.in_ok-place.ensures.place in
    tree_in_limit c.take_from_label.new.slots (table_relabelled slots c.take_from_label.new.slots place (without_class c.args.atom l) c.self.invariant c.take_from_label.ensures.taken (IsStrictlyIncreasing-without_class c.args.atom l (c.self.invariant.forest.rising place)) (without_class c.args.atom) refl c.args.at.now (sym at))

pub returns-clause-had : goal.returns-clause-had
returns-clause-had c =
    let slots = c.self.inside.slots in
    let place = c.in_ok-place.place in
    let at = walked slots c.args.at.now c.len.result (Some place) c.len.ensures c.in_ok-place.ensures.place in
    let there = label_there slots c.self.invariant.forest c.args.at.now place at in
    rw (← c.self.view_is, there) (ap Some c.take_from_label.ensures.test)

-- no node is there
pub returns-in_err-place-clause-taken : goal.returns-in_err-place-clause-taken
returns-in_err-place-clause-taken c =
    let slots = c.self.inside.slots in
    let at = walked slots c.args.at.now c.len.result None c.len.ensures c.in_err-place.ensures.place in
    let none = no_node slots c.self.invariant.forest c.args.at.now at in
    rw (← c.self.view_is) (sym (edit_at-none c.args.at.now (take_class c.args.atom) (tree_in slots 0) none))

pub returns-in_err-place-clause-in_limit : goal.returns-in_err-place-clause-in_limit
returns-in_err-place-clause-in_limit c = rw (← c.self.view_is) (tree_in_limit c.self.inside.slots c.self.invariant)

pub returns-in_err-place-clause-had : goal.returns-in_err-place-clause-had
returns-in_err-place-clause-had c =
    let slots = c.self.inside.slots in
    let at = walked slots c.args.at.now c.len.result None c.len.ensures c.in_err-place.ensures.place in
    let none = no_node slots c.self.invariant.forest c.args.at.now at in
    rw (c.from_residual.ensures, ← c.self.view_is, none) refl
