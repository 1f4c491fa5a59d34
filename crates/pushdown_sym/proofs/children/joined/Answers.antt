use Rattle.class_diagrams.specs.Trees.{tand, tor}
use Rattle.class_diagrams.specs.Arena.{tree_at}
use Rattle.std.proofs.Common.{Ok, Err}
use Rattle.diagram_ops.specs.Steps.{joined_results, joined_tree}
use Rattle.diagram_ops.proofs.StepLemmas.{calculates_one, calculates_same_error}
use Rattle.diagram_ops.proofs.ComposeLemmas.{joined_failed, joined_both}
use Rattle.pushdown_sym.proofs.children.joined.Goals as goal

pub returns-in_err-both : goal.returns-in_err-both
returns-in_err-both c =
    let h = c.in_err-both.ensures in
    let t = tand (tree_at c.args.d.now.branches c.args.put) (tree_at c.args.d.now.branches c.args.high) in
    calculates_same_error c.args.d.now c.and.new.self (joined_results c.args.d.now c.args.put c.args.low c.args.high) (joined_tree c.args.d.now c.args.put c.args.low c.args.high)
    c.from_residual.result c.in_err-both.field-0.0 c.from_residual.ensures.1
    (joined_failed c.args.d.now c.args.put c.args.low c.args.high c.requires.arena c.and.new.self t (joined_tree c.args.d.now c.args.put c.args.low c.args.high) c.in_err-both.field-0.0
    (calculates_one c.args.d.now c.and.new.self t (Err c.in_err-both.field-0.0) tt tt h.full h.stays h.only h.limit h.arena))

pub returns : goal.returns
returns c =
    let h = c.in_ok-both.ensures in
    let g = c.or.ensures in
    let t = tand (tree_at c.args.d.now.branches c.args.put) (tree_at c.args.d.now.branches c.args.high) in
    let u = tor (tree_at c.and.new.self.branches c.args.low) (tree_at c.and.new.self.branches c.in_ok-both.both) in
    joined_both c.args.d.now c.args.put c.args.low c.args.high c.requires.arena c.and.new.self c.or.new.self c.in_ok-both.both c.or.result c.requires.low
    (calculates_one c.args.d.now c.and.new.self t (Ok c.in_ok-both.both) h.tree h.inside h.full h.stays h.only h.limit h.arena)
    (calculates_one c.and.new.self c.or.new.self u c.or.result g.tree g.inside g.full g.stays g.only g.limit g.arena)
