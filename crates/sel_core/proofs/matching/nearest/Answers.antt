use Rattle.std.proofs.Common.{◌≡◌, ◌<◌, Some, sym, subst}
use Rattle.sel_text.specs.Parts.{selector_from}
use Rattle.sel_core.proofs.Groups.{IsTried, left_over, parent_leaves_less, tried_first, tried_more}
use Rattle.sel_core.proofs.matching.nearest.Goals as goal

pub nodes-init : goal.nodes-init
nodes-init c =
    let s = selector_from c.args.parts.now c.args.joins.now in
    subst (IsTried c.args.node.now s) (sym c.parent-above.ensures) (tried_first c.args.node.now s)

pub nodes-smaller : goal.nodes-smaller
nodes-smaller c =
    let at : c.nodes.above ≡ Some c.in-Some.next = c.in-Some.is in
    let less : left_over c.parent-above-in-Some.result < left_over c.nodes.above = rw (at, c.parent-above-in-Some.ensures) (parent_leaves_less c.in-Some.next) in
    less

pub nodes-preserved : goal.nodes-preserved
nodes-preserved c =
    let s = selector_from c.args.parts.now c.args.joins.now in
    let at : c.nodes.above ≡ Some c.in-Some.next = c.in-Some.is in
    subst (IsTried c.args.node.now s) (sym c.parent-above-in-Some.ensures) (tried_more c.args.node.now s c.in-Some.next (subst (IsTried c.args.node.now s) at c.nodes.invariant) c.in_default-placed.ensures.none)
