use Rattle.std.proofs.Common.{◌≡◌, ◌+◌, take, suc, refl, sym, ap, ◌∙◌, subst, arith}
use Rattle.std.proofs.lemmas.List.{take_all}
use Rattle.tree_sem.specs.Trees.{edit_at, edit_each}
use Rattle.tree_sem.specs.Nodes.{IsNode}
use Rattle.tree_sem.specs.Actions.{add_classes}
use Rattle.tree_sem.specs.Table.{tree_in, united}
use Rattle.tree_sem.proofs.EachLemmas.{edit_each-more}
use Rattle.tree_sem.proofs.GrowthLemmas.{IsNode-grows, edit_each_grows, classes_grow}
use Rattle.tree_sem.proofs.UnionLemmas.{uniting_itself, next_left, none_left, next_tree, next_table, next_uniting}
use Rattle.tree_sem.proofs.unions.unite_each.Goals as goal

pub loop-label-init : goal.loop-label-init
loop-label-init c = record {
  within = omega arith;
  left = c.into_iter-label-iterator.ensures.into_iter_gives.0 ∙ c.in_ok-labels.ensures;
  table = c.requires.table;
  uniting = uniting_itself c.args.slots.now c.args.classes.now;
  tree = refl;
}

pub relabel-requires-clause-is_node : goal.relabel-requires-clause-is_node
relabel-requires-clause-is_node c =
    let old = tree_in c.args.slots.now 0 in
    let path = c.index-at-done.result in
    let k = c.loop-label.done in
    let f = add_classes c.args.classes.now in
    let next = next_left (united c.args.slots.now c.args.classes.now) c.args.at.now k path c.in-Some.label c.next.new.self.rest.items (sym c.in-Some.ensures.steps.0 ∙ c.loop-label.invariant.left) in
    let here : IsNode old path = subst (IsNode old) (sym c.index-at-done.is) (c.requires.nodes k path next.0) in
    rw c.loop-label.invariant.tree (IsNode-grows old (edit_each (take k c.args.at.now) f old) (edit_each_grows f (classes_grow c.args.classes.now) (take k c.args.at.now) old) path here)

pub loop-label-preserved : goal.loop-label-preserved
loop-label-preserved c =
    let old = c.args.slots.now in
    let mid = c.loop-label.slots in
    let new = c.relabel.new.slots in
    let classes = c.args.classes.now in
    let at = c.args.at.now in
    let path = c.index-at-done.result in
    let k = c.loop-label.done in
    let f = add_classes classes in
    let next = next_left (united old classes) at k path c.in-Some.label c.next.new.self.rest.items (sym c.in-Some.ensures.steps.0 ∙ c.loop-label.invariant.left) in
    let here : IsNode (tree_in old 0) path = subst (IsNode (tree_in old 0)) (sym c.index-at-done.is) (c.requires.nodes k path next.0) in
    let made : c.in-Some.label ≡ united old classes path = next.1 ∙ ap (united old classes) (sym c.index-at-done.is) in
    let one : k + 1 ≡ suc k = omega arith in
    record {
      within = omega (arith, next.0);
      left = rw one next.2;
      table = next_table old mid new classes path c.in-Some.label c.requires.table c.loop-label.invariant.table c.loop-label.invariant.uniting here made c.relabel.ensures;
      uniting = next_uniting old mid new classes path c.in-Some.label c.requires.table c.loop-label.invariant.table c.loop-label.invariant.uniting here made c.relabel.ensures;
      tree =
          next_tree old mid new classes path c.in-Some.label c.requires.table c.loop-label.invariant.table c.loop-label.invariant.uniting here made c.relabel.ensures
          ∙ ap (edit_at path f) c.loop-label.invariant.tree ∙ ap (λ p. edit_at p f (edit_each (take k at) f (tree_in old 0))) c.index-at-done.is
          ∙ sym (edit_each-more f (tree_in old 0) at k path next.0);
    }

pub returns-clause-tree : goal.returns-clause-tree
returns-clause-tree c =
    let at = c.args.at.now in
    let f = add_classes c.args.classes.now in
    let none = none_left (united c.args.slots.now c.args.classes.now) at c.loop-label.done c.loop-label.label-iterator.rest.items c.loop-label.invariant.left (omega (arith, c.loop-label.label-iterator.rest.ok.0, c.in-None.ensures.steps.0)) in
    rw (take_all c.loop-label.done at none) at c.loop-label.invariant.tree
