use Rattle.std.proofs.Common.{◌≡◌, ◌<◌, ◌+◌, ◌∷◌, [], ◌++◌, unwrap_or, refl, sym, ap, ◌∙◌, subst, arith}
use Rattle.tree_sem.specs.Trees.{LabelTree, children_at}
use Rattle.tree_sem.specs.Growing.{GrowingTree}
use Rattle.tree_sem.specs.Nodes.{IsNode}
use Rattle.tree_sem.proofs.WalkLemmas.{unmoved, IsUp, first_child, leaf_up, above, child_within, next_child, last_child}
use Rattle.tree_sem.proofs.tour.Tour.go_on.Goals as goal

pub go_down-requires : goal.go_down-requires
go_down-requires c =
    let has = ap (λ o. unwrap_or o 0) c.children.ensures.count in
    (first_child c.args.self.now.tree c.args.self.now.at c.children.result has c.children.ensures.there (omega (arith, c.if-children-gt0.true))).node

pub returns-in_err-go_down-clause-err : goal.returns-in_err-go_down-clause-err
returns-in_err-go_down-clause-err c = unmoved c.from_residual.result c.args.self.now.at c.go_down.new.self.at (ap (λ (g : GrowingTree). g.at) c.in_err-go_down.ensures.err)

pub returns-in_err-go_down-2-clause-err : goal.returns-in_err-go_down-2-clause-err
returns-in_err-go_down-2-clause-err c =
    let t = c.args.self.now.tree in
    let a = c.rise.new.self.at in
    let tree : c.rise.new.self.tree ≡ t = c.in-Some.ensures.tree ∙ c.loop-step.invariant.0 in
    let has = subst (λ (z : LabelTree). c.children-children.result ≡ unwrap_or (children_at a z) 0) tree (ap (λ o. unwrap_or o 0) c.children-children.ensures.count) in
    let up = subst (λ z. IsUp t c.args.self.now.at z) c.in-Some.ensures.some c.loop-step.invariant.1 in
    above t a c.children-children.result has c.args.self.now.at c.in-Some.step up c.from_residual-in_err-go_down-2.result c.go_down-then-step-children.new.self.at (ap (λ (g : GrowingTree). g.at) c.in_err-go_down-2.ensures.err)

pub returns-then-children-gt0-clause-next : goal.returns-then-children-gt0-clause-next
returns-then-children-gt0-clause-next c =
    let has = ap (λ o. unwrap_or o 0) c.children.ensures.count in
    rw c.in_ok-go_down.ensures.ok (first_child c.args.self.now.tree c.args.self.now.at c.children.result has c.children.ensures.there (omega (arith, c.if-children-gt0.true))).rest

pub loop-step-init : goal.loop-step-init
loop-step-init c =
    let has = ap (λ o. unwrap_or o 0) c.children.ensures.count in
    (refl, leaf_up c.args.self.now.tree c.args.self.now.at c.children.result has c.children.ensures.there (omega (arith, c.if-children-gt0.false)))

pub overflow_add-step : goal.overflow_add-step
overflow_add-step c =
    let t = c.args.self.now.tree in
    let a = c.rise.new.self.at in
    let tree : c.rise.new.self.tree ≡ t = c.in-Some.ensures.tree ∙ c.loop-step.invariant.0 in
    let has = subst (λ (z : LabelTree). c.children-children.result ≡ unwrap_or (children_at a z) 0) tree (ap (λ o. unwrap_or o 0) c.children-children.ensures.count) in
    let up = subst (λ z. IsUp t c.args.self.now.at z) c.in-Some.ensures.some c.loop-step.invariant.1 in
    let within : c.in-Some.step < c.children-children.result = child_within t a c.children-children.result has c.args.self.now.at c.in-Some.step up in
    omega (arith, within, c.children-children.type_inv)

pub go_down-requires-then-step-children : goal.go_down-requires-then-step-children
go_down-requires-then-step-children c =
    let t = c.args.self.now.tree in
    let a = c.rise.new.self.at in
    let tree : c.rise.new.self.tree ≡ t = c.in-Some.ensures.tree ∙ c.loop-step.invariant.0 in
    let has = subst (λ (z : LabelTree). c.children-children.result ≡ unwrap_or (children_at a z) 0) tree (ap (λ o. unwrap_or o 0) c.children-children.ensures.count) in
    let up = subst (λ z. IsUp t c.args.self.now.at z) c.in-Some.ensures.some c.loop-step.invariant.1 in
    subst (λ (z : LabelTree). IsNode z (a ++ (c.in-Some.step + 1) ∷ [])) (sym tree)
    (next_child t a c.children-children.result has c.args.self.now.at c.in-Some.step up (omega (arith, c.if-step-children.true))).node

pub returns-then-step-children-clause-next : goal.returns-then-step-children-clause-next
returns-then-step-children-clause-next c =
    let t = c.args.self.now.tree in
    let a = c.rise.new.self.at in
    let tree : c.rise.new.self.tree ≡ t = c.in-Some.ensures.tree ∙ c.loop-step.invariant.0 in
    let has = subst (λ (z : LabelTree). c.children-children.result ≡ unwrap_or (children_at a z) 0) tree (ap (λ o. unwrap_or o 0) c.children-children.ensures.count) in
    let up = subst (λ z. IsUp t c.args.self.now.at z) c.in-Some.ensures.some c.loop-step.invariant.1 in
    rw c.in_ok-go_down-2.ensures.ok (next_child t a c.children-children.result has c.args.self.now.at c.in-Some.step up (omega (arith, c.if-step-children.true))).rest

pub loop-step-preserved : goal.loop-step-preserved
loop-step-preserved c =
    let t = c.args.self.now.tree in
    let a = c.rise.new.self.at in
    let tree : c.rise.new.self.tree ≡ t = c.in-Some.ensures.tree ∙ c.loop-step.invariant.0 in
    let has = subst (λ (z : LabelTree). c.children-children.result ≡ unwrap_or (children_at a z) 0) tree (ap (λ o. unwrap_or o 0) c.children-children.ensures.count) in
    let up = subst (λ z. IsUp t c.args.self.now.at z) c.in-Some.ensures.some c.loop-step.invariant.1 in
    (tree, last_child t a c.children-children.result has c.args.self.now.at c.in-Some.step up (omega (arith, c.if-step-children.false)))
