use Rattle.std.proofs.Common.{◌≡◌, ◌-◌, length, get_or, Some, None, slice_get, sym, ap, ◌∙◌, arith}
use Rattle.std.proofs.lemmas.Option.{slice_get-get_or}
use Rattle.tree_sem.specs.Cuts.{drop_child, drop_last}
use Rattle.tree_sem.specs.Table.{kids_in, tree_in}
use Rattle.tree_sem.specs.Trees.{LabelTree, length_of}
use Rattle.tree_sem.proofs.CutLemmas.{table_cut}
use Rattle.tree_sem.proofs.DropLemmas.{drop_last-none}
use Rattle.tree_sem.proofs.EditLemmas.{edit_at-none, edit_at-same, edit_at-alike}
use Rattle.tree_sem.proofs.TableLemmas.{no_node, node_there, kids_there, walked}
use Rattle.tree_sem.proofs.WriteLemmas.{kids_are}
use Rattle.tree_sem.proofs.label_tree.Tree.drop_last.Goals as goal

pub returns-in_default : goal.returns-in_default
returns-in_default c =
    let slots = c.self.inside.slots in
    let at = walked slots c.args.at.now c.len.result None c.len.ensures c.in_default.ensures.place in
    let none = no_node slots c.self.invariant.forest c.args.at.now at in
    rw (← c.self.view_is) (sym (edit_at-none c.args.at.now drop_last (tree_in slots 0) none))

pub invariant_of-self : goal.invariant_of-self
invariant_of-self c =
    let slots = c.self.inside.slots in
    let place = c.in-Some.place in
    let p = c.args.at.now in
    let at = walked slots p c.len.result (Some place) c.len.ensures c.in-Some.ensures.place in
    let many = ap length (kids_are slots place c.index.result.now c.index.ensures) in
    let number : c.len-children.result ≡ length (kids_in slots place) = omega (arith, many, c.index.result.now.children.ok.0, c.len-children.ensures) in
    let child : slice_get (kids_in slots place) (c.len-children.result - 1) ≡ Some (get_or (kids_in slots place) (c.len-children.result - 1) 0) = slice_get-get_or (kids_in slots place) (c.len-children.result - 1) 0 (omega (arith, number)) in
    table_cut slots c.cut_child.new.slots place (c.len-children.result - 1) (get_or (kids_in slots place) (c.len-children.result - 1) 0) p c.self.invariant c.cut_child.ensures.forest (sym at) child
    (c.cut_child.ensures.tree p (sym at)) (c.cut_child.ensures.count (get_or (kids_in slots place) (c.len-children.result - 1) 0) child)

pub returns-then-children-gt0 : goal.returns-then-children-gt0
returns-then-children-gt0 c =
    let slots = c.self.inside.slots in
    let place = c.in-Some.place in
    let p = c.args.at.now in
    let at = walked slots p c.len.result (Some place) c.len.ensures c.in-Some.ensures.place in
    let many = ap length (kids_are slots place c.index.result.now c.index.ensures) in
    let number : c.len-children.result ≡ length (kids_in slots place) = omega (arith, many, c.index.result.now.children.ok.0, c.len-children.ensures) in
    let there = node_there slots c.self.invariant.forest p place at in
    let kids = kids_there slots c.self.invariant.forest p place at in
    let same = edit_at-alike p (drop_child (c.len-children.result - 1)) drop_last (tree_in slots 0) (λ s here.
    let both : Some (tree_in slots place) ≡ Some s = sym there ∙ here in
    let is : tree_in slots place ≡ s = cc in
    let count = ap (λ (t : LabelTree). length_of t.below) is in
    let step : c.len-children.result - 1 ≡ length_of s.below - 1 = omega (arith, number, kids, count) in
    ap (λ k. drop_child k s) step) in
    rw (← c.self.view_is) (c.cut_child.ensures.tree p (sym at) ∙ same)

pub returns-else-children-gt0 : goal.returns-else-children-gt0
returns-else-children-gt0 c =
    let slots = c.self.inside.slots in
    let place = c.in-Some.place in
    let p = c.args.at.now in
    let at = walked slots p c.len.result (Some place) c.len.ensures c.in-Some.ensures.place in
    let many = ap length (kids_are slots place c.index.result.now c.index.ensures) in
    let number : c.len-children.result ≡ length (kids_in slots place) = omega (arith, many, c.index.result.now.children.ok.0, c.len-children.ensures) in
    let there = node_there slots c.self.invariant.forest p place at in
    let kids = kids_there slots c.self.invariant.forest p place at in
    rw (← c.self.view_is) (sym (edit_at-same p drop_last (tree_in slots 0) (λ s here.
    let both : Some (tree_in slots place) ≡ Some s = sym there ∙ here in
    let is : tree_in slots place ≡ s = cc in
    let count = ap (λ (t : LabelTree). length_of t.below) is in
    drop_last-none s (omega (arith, number, kids, count)))))
