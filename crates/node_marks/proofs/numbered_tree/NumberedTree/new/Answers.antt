use Rattle.std.proofs.Common.{◌≡◌, ◌∷◌, [], Some, map, sym, ap, ◌∙◌, subst}
use Rattle.tree_sem.specs.Order.{rest_of}
use Rattle.tree_sem.specs.Trees.{LabelTree, label_at}
use Rattle.node_marks.specs.Numbering.{IsWalkedTo}
use Rattle.node_marks.proofs.WalkLemmas.{walked_next, walked_whole}
use Rattle.node_marks.proofs.numbered_tree.NumberedTree.new.Goals as goal

pub invariant_of-result : goal.invariant_of-result
invariant_of-result c =
    let t = c.args.tree.now in
    let w = c.nodes.walk in
    let v = c.path.result.now in
    let e = c.in_ok-enter.ensures in
    let walked = subst (IsWalkedTo t w.parents.items w.steps.items (map (λ b. b.now) w.labels.items) w.line.items) (sym c.path.ensures.path) c.nodes.invariant.1 in
    let here : label_at v t ≡ Some c.label.result.now = ap (λ z. label_at z t) c.path.ensures.path ∙ ap (label_at c.nodes.tour.at) (sym c.nodes.invariant.0) ∙ sym c.label.ensures in
    let end = (rw c.if-not-branch.true at c.in_ok-go_on.ensures.next).0 in
    let none : rest_of v t ≡ [] = ap (λ z. rest_of z t) c.path.ensures.path ∙ ap (rest_of c.nodes.tour.at) (sym c.nodes.invariant.0) ∙ end in
    walked_whole t w.parents.items w.steps.items (map (λ b. b.now) w.labels.items) w.line.items v c.label.result.now walked here _ _ _ e.parents e.steps e.labels none

pub nodes-preserved : goal.nodes-preserved
nodes-preserved c =
    let t = c.args.tree.now in
    let w = c.nodes.walk in
    let v = c.path.result.now in
    let to = c.go_on.new.self.at in
    let e = c.in_ok-enter.ensures in
    let walked = subst (IsWalkedTo t w.parents.items w.steps.items (map (λ b. b.now) w.labels.items) w.line.items) (sym c.path.ensures.path) c.nodes.invariant.1 in
    let here : label_at v t ≡ Some c.label.result.now = ap (λ z. label_at z t) c.path.ensures.path ∙ ap (label_at c.nodes.tour.at) (sym c.nodes.invariant.0) ∙ sym c.label.ensures in
    let next = rw c.if-not-branch.false at c.in_ok-go_on.ensures.next in
    let on : rest_of v t ≡ to ∷ rest_of to t = ap (λ z. rest_of z t) c.path.ensures.path ∙ subst (λ (z : LabelTree). rest_of c.nodes.tour.at z ≡ to ∷ rest_of to z) c.nodes.invariant.0 next in
    (c.in_ok-go_on.ensures.tree ∙ c.nodes.invariant.0, walked_next t w.parents.items w.steps.items (map (λ b. b.now) w.labels.items) w.line.items v c.label.result.now walked here _ _ _ _ e.parents e.steps e.labels e.line to on)
