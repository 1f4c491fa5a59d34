use Rattle.std.proofs.Common.{◌≡◌, ◌+◌}
use Rattle.std.specs.List.{IsDistinct}
use Rattle.class_diagrams.proofs.ReferenceLemmas.{ref_eq}
use Rattle.diagram_ops.specs.Walks.{with_branch, IsWalk}
use Rattle.diagram_ops.proofs.WalkLemmas.{on_both, walk_on}
use Rattle.diagram_ops.proofs.branches.see_parts.Goals as goal

pub returns-in_Some-d : goal.returns-in_Some-d
returns-in_Some-d c = λ f n walk here.
    let h = c.in_Some-d.ensures in
    let ts = c.args.d.now.branches in
    let next = c.see_both.new.seen.keys in
    on_both c.see_both.result
    (next ≡ with_branch ts (with_branch ts c.args.seen.now.keys c.in_Some-d.branch.1) c.in_Some-d.branch.2) (IsDistinct ref_eq next) (IsWalk ts f next (n + 1))
    (λ keys different. walk_on ts f c.args.seen.now.keys n walk c.args.at here c.in_Some-d.branch.0 c.in_Some-d.branch.1 c.in_Some-d.branch.2 h.tree h.low h.high next keys different)
    c.see_both.ensures.keys (c.see_both.ensures.different walk.different)
