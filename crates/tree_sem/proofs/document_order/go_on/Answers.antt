use Rattle.std.proofs.Common.{◌<◌, unwrap_or, ap, ◌∙◌, subst, arith}
use Rattle.tree_sem.proofs.WalkLemmas.{IsUp, unmoved, first_child, leaf_up, child_within, next_child, last_child}
use Rattle.tree_sem.proofs.document_order.go_on.Goals as goal

pub returns-in_err-push-clause-err : goal.returns-in_err-push-clause-err
returns-in_err-push-clause-err c = unmoved c.from_residual.result c.args.at.now c.push.new.self c.in_err-push.ensures.err

-- down to the first child
pub returns-then-unwrap_or-gt0-clause-next : goal.returns-then-unwrap_or-gt0-clause-next
returns-then-unwrap_or-gt0-clause-next c =
    let has = c.unwrap_or.ensures ∙ ap (λ o. unwrap_or o 0) c.children.ensures in
    rw c.in_ok-push.ensures.ok (first_child c.args.tree.now c.args.at.now c.unwrap_or.result has c.requires (omega arith)).rest

pub returns-then-unwrap_or-gt0-clause-node : goal.returns-then-unwrap_or-gt0-clause-node
returns-then-unwrap_or-gt0-clause-node c =
    let has = c.unwrap_or.ensures ∙ ap (λ o. unwrap_or o 0) c.children.ensures in
    rw c.in_ok-push.ensures.ok (first_child c.args.tree.now c.args.at.now c.unwrap_or.result has c.requires (omega arith)).node

-- up from a node without children
pub loop-step-init : goal.loop-step-init
loop-step-init c =
    let has = c.unwrap_or.ensures ∙ ap (λ o. unwrap_or o 0) c.children.ensures in
    leaf_up c.args.tree.now c.args.at.now c.unwrap_or.result has c.requires (omega arith)

pub overflow_add-step : goal.overflow_add-step
overflow_add-step c =
    let t = c.args.tree.now in
    let has = c.unwrap_or-children.ensures ∙ ap (λ o. unwrap_or o 0) c.children-in-Some.ensures in
    let up = subst (λ z. IsUp t c.args.at.now z) c.in-Some.ensures.last c.loop-step.invariant in
    let within : c.in-Some.step < c.unwrap_or-children.result = child_within t c.pop.new.self c.unwrap_or-children.result has c.args.at.now c.in-Some.step up in
    omega arith

-- on to the next child
pub returns-then-step-children-clause-next : goal.returns-then-step-children-clause-next
returns-then-step-children-clause-next c =
    let t = c.args.tree.now in
    let has = c.unwrap_or-children.ensures ∙ ap (λ o. unwrap_or o 0) c.children-in-Some.ensures in
    let up = subst (λ z. IsUp t c.args.at.now z) c.in-Some.ensures.last c.loop-step.invariant in
    rw c.in_ok-push-2.ensures.ok (next_child t c.pop.new.self c.unwrap_or-children.result has c.args.at.now c.in-Some.step up (omega arith)).rest

pub returns-then-step-children-clause-node : goal.returns-then-step-children-clause-node
returns-then-step-children-clause-node c =
    let t = c.args.tree.now in
    let has = c.unwrap_or-children.ensures ∙ ap (λ o. unwrap_or o 0) c.children-in-Some.ensures in
    let up = subst (λ z. IsUp t c.args.at.now z) c.in-Some.ensures.last c.loop-step.invariant in
    rw c.in_ok-push-2.ensures.ok (next_child t c.pop.new.self c.unwrap_or-children.result has c.args.at.now c.in-Some.step up (omega arith)).node

-- up from the last child
pub loop-step-preserved : goal.loop-step-preserved
loop-step-preserved c =
    let t = c.args.tree.now in
    let has = c.unwrap_or-children.ensures ∙ ap (λ o. unwrap_or o 0) c.children-in-Some.ensures in
    let up = subst (λ z. IsUp t c.args.at.now z) c.in-Some.ensures.last c.loop-step.invariant in
    last_child t c.pop.new.self c.unwrap_or-children.result has c.args.at.now c.in-Some.step up (omega arith)
