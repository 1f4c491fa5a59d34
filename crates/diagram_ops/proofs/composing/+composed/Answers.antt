use Rattle.std.proofs.Common.{arith, ap, Err}
use Rattle.class_diagrams.specs.Arena.{tree_at}
use Rattle.class_diagrams.specs.Pairs.{size}
use Rattle.diagram_ops.specs.Compositions.{inner_results, tcompose, tree_by}
use Rattle.diagram_ops.proofs.StepLemmas.{calculates_same_error, calculates_no_memory}
use Rattle.diagram_ops.proofs.ComposeLemmas.{run_low_failed, run_high_failed, run_whole, right_there, right_back, right_later, right_noted, high_inside, high_smaller, each_inside, each_later, calculates_known}
use Rattle.diagram_ops.proofs.composing.+composed.Goals as goal

pub composed-requires : goal.composed-requires
composed-requires t c =
    let parts = c.in-Parts.ensures.start (tree_by c.args.d.now.branches c.args.by.now) c.requires.right in
    let whole = ap size parts.2 in
    (omega (arith, whole, c.decreases), (parts.0, (c.requires.each, (c.requires.order, c.requires.right))))

pub returns-in_err-low-in-Parts-clause-calculates : goal.returns-in_err-low-in-Parts-clause-calculates
returns-in_err-low-in-Parts-clause-calculates t c =
    run_low_failed c.args.d.now c.args.f c.args.by.now c.in-Parts.atom c.in-Parts.low c.in-Parts.high c.begin.ensures.arena c.requires.each (c.in-Parts.ensures.start (tree_by c.args.d.now.branches c.args.by.now) c.requires.right)
    c.composed.new.d c.from_residual.result (tcompose (tree_at c.args.d.now.branches c.in-Parts.low) (tree_by c.args.d.now.branches c.args.by.now)) (tcompose (tree_at c.args.d.now.branches c.args.f) (tree_by c.args.d.now.branches c.args.by.now)) c.in_err-low-in-Parts.field-0.0 c.from_residual.ensures.1 c.in_err-low-in-Parts.ensures.calculates

pub composed-requires-in-Parts : goal.composed-requires-in-Parts
composed-requires-in-Parts t c =
    let smaller = high_smaller c.args.d.now c.args.f c.args.by.now c.in-Parts.atom c.in-Parts.low c.in-Parts.high c.begin.ensures.arena c.requires.each (c.in-Parts.ensures.start (tree_by c.args.d.now.branches c.args.by.now) c.requires.right)
    c.composed.new.d c.in_ok-low-in-Parts.low c.in_ok-low-in-Parts.ensures.calculates in (
      omega (arith, c.decreases),
      (
        high_inside c.args.d.now c.args.f c.args.by.now c.in-Parts.atom c.in-Parts.low c.in-Parts.high c.begin.ensures.arena c.requires.each (c.in-Parts.ensures.start (tree_by c.args.d.now.branches c.args.by.now) c.requires.right)
            c.composed.new.d c.in_ok-low-in-Parts.low c.in_ok-low-in-Parts.ensures.calculates,
        (
          each_inside c.args.d.now c.args.f c.args.by.now c.in-Parts.atom c.in-Parts.low c.in-Parts.high c.begin.ensures.arena c.requires.each (c.in-Parts.ensures.start (tree_by c.args.d.now.branches c.args.by.now) c.requires.right)
              c.composed.new.d c.in_ok-low-in-Parts.low c.in_ok-low-in-Parts.ensures.calculates,
          (
            c.requires.order,
            right_there c.args.d.now c.args.f c.args.by.now c.in-Parts.atom c.in-Parts.low c.in-Parts.high c.begin.ensures.arena c.requires.each (c.in-Parts.ensures.start (tree_by c.args.d.now.branches c.args.by.now) c.requires.right)
                c.composed.new.d c.in_ok-low-in-Parts.low c.in_ok-low-in-Parts.ensures.calculates c.composed.new.d c.composed.new.memo c.in_ok-low-in-Parts.ensures.right,
          ),
        ),
      ),
    )

pub returns-in_err-high-in-Parts-clause-calculates : goal.returns-in_err-high-in-Parts-clause-calculates
returns-in_err-high-in-Parts-clause-calculates t c =
    run_high_failed c.args.d.now c.args.f c.args.by.now c.in-Parts.atom c.in-Parts.low c.in-Parts.high c.begin.ensures.arena c.requires.each (c.in-Parts.ensures.start (tree_by c.args.d.now.branches c.args.by.now) c.requires.right)
    c.composed.new.d c.in_ok-low-in-Parts.low c.in_ok-low-in-Parts.ensures.calculates
    c.composed-in-Parts.new.d c.from_residual-in_err-high-in-Parts.result (tcompose (tree_at c.composed.new.d.branches c.in-Parts.high) (tree_by c.composed.new.d.branches c.args.by.now)) (tcompose (tree_at c.args.d.now.branches c.args.f) (tree_by c.args.d.now.branches c.args.by.now)) c.in_err-high-in-Parts.field-0.0 c.from_residual-in_err-high-in-Parts.ensures.1 c.in_err-high-in-Parts.ensures.calculates

pub returns-in_err-high-in-Parts-clause-right : goal.returns-in_err-high-in-Parts-clause-right
returns-in_err-high-in-Parts-clause-right t c =
    right_back c.args.d.now c.args.f c.args.by.now c.in-Parts.atom c.in-Parts.low c.in-Parts.high c.begin.ensures.arena c.requires.each (c.in-Parts.ensures.start (tree_by c.args.d.now.branches c.args.by.now) c.requires.right)
    c.composed.new.d c.in_ok-low-in-Parts.low c.in_ok-low-in-Parts.ensures.calculates c.composed-in-Parts.new.d c.composed-in-Parts.new.memo c.in_err-high-in-Parts.ensures.right

pub joined-requires-clause-put : goal.joined-requires-clause-put
joined-requires-clause-put t c = c.diagram_of-put.ensures.inside c.composed-in-Parts.new.d.branches (each_later c.args.d.now c.args.f c.args.by.now c.in-Parts.atom c.in-Parts.low c.in-Parts.high c.begin.ensures.arena c.requires.each (c.in-Parts.ensures.start (tree_by c.args.d.now.branches c.args.by.now) c.requires.right)
    c.composed.new.d c.in_ok-low-in-Parts.low c.in_ok-low-in-Parts.ensures.calculates
    c.composed-in-Parts.new.d c.in_ok-high-in-Parts.high c.in_ok-high-in-Parts.ensures.calculates)

pub returns-in_err-whole-in-Parts-clause-calculates : goal.returns-in_err-whole-in-Parts-clause-calculates
returns-in_err-whole-in-Parts-clause-calculates t c =
    calculates_same_error c.args.d.now c.joined.new.d (inner_results (tree_at c.args.d.now.branches c.args.f) (tree_by c.args.d.now.branches c.args.by.now)) (tcompose (tree_at c.args.d.now.branches c.args.f) (tree_by c.args.d.now.branches c.args.by.now))
    c.from_residual-in_err-whole-in-Parts.result c.in_err-whole-in-Parts.field-0.0 c.from_residual-in_err-whole-in-Parts.ensures.1
    (run_whole c.args.d.now c.args.f c.args.by.now c.in-Parts.atom c.in-Parts.low c.in-Parts.high c.begin.ensures.arena c.requires.each (c.in-Parts.ensures.start (tree_by c.args.d.now.branches c.args.by.now) c.requires.right)
    c.composed.new.d c.in_ok-low-in-Parts.low c.in_ok-low-in-Parts.ensures.calculates
    c.composed-in-Parts.new.d c.in_ok-high-in-Parts.high c.in_ok-high-in-Parts.ensures.calculates
    c.diagram_of-put.result (c.diagram_of-put.ensures.tree c.composed-in-Parts.new.d.branches) c.joined.new.d (Err c.in_err-whole-in-Parts.field-0.0) c.in_err-whole-in-Parts.ensures)

pub returns-in_err-whole-in-Parts-clause-right : goal.returns-in_err-whole-in-Parts-clause-right
returns-in_err-whole-in-Parts-clause-right t c =
    right_later c.args.d.now c.args.f c.args.by.now c.in-Parts.atom c.in-Parts.low c.in-Parts.high c.begin.ensures.arena c.requires.each (c.in-Parts.ensures.start (tree_by c.args.d.now.branches c.args.by.now) c.requires.right)
    c.composed.new.d c.in_ok-low-in-Parts.low c.in_ok-low-in-Parts.ensures.calculates
    c.composed-in-Parts.new.d c.in_ok-high-in-Parts.high c.in_ok-high-in-Parts.ensures.calculates
    c.diagram_of-put.result (c.diagram_of-put.ensures.tree c.composed-in-Parts.new.d.branches) c.joined.new.d c.composed-in-Parts.new.memo c.in_err-whole-in-Parts.ensures.brings.stays c.in_ok-high-in-Parts.ensures.right

pub returns-in-Known-clause-calculates : goal.returns-in-Known-clause-calculates
returns-in-Known-clause-calculates t c =
    let known = c.in-Known.ensures.start (tree_by c.args.d.now.branches c.args.by.now) c.requires.right in
    calculates_known c.args.d.now (inner_results (tree_at c.args.d.now.branches c.args.f) (tree_by c.args.d.now.branches c.args.by.now)) (tcompose (tree_at c.args.d.now.branches c.args.f) (tree_by c.args.d.now.branches c.args.by.now)) c.in-Known.known c.begin.ensures.arena known.0 known.1

pub returns-in_ok-note-in-Parts-clause-calculates : goal.returns-in_ok-note-in-Parts-clause-calculates
returns-in_ok-note-in-Parts-clause-calculates t c =
    run_whole c.args.d.now c.args.f c.args.by.now c.in-Parts.atom c.in-Parts.low c.in-Parts.high c.begin.ensures.arena c.requires.each (c.in-Parts.ensures.start (tree_by c.args.d.now.branches c.args.by.now) c.requires.right)
    c.composed.new.d c.in_ok-low-in-Parts.low c.in_ok-low-in-Parts.ensures.calculates
    c.composed-in-Parts.new.d c.in_ok-high-in-Parts.high c.in_ok-high-in-Parts.ensures.calculates
    c.diagram_of-put.result (c.diagram_of-put.ensures.tree c.composed-in-Parts.new.d.branches) c.joined.new.d _ c.in_ok-whole-in-Parts.ensures

pub returns-in_ok-note-in-Parts-clause-right : goal.returns-in_ok-note-in-Parts-clause-right
returns-in_ok-note-in-Parts-clause-right t c =
    right_noted c.args.d.now c.args.f c.args.by.now c.in-Parts.atom c.in-Parts.low c.in-Parts.high c.begin.ensures.arena c.requires.each (c.in-Parts.ensures.start (tree_by c.args.d.now.branches c.args.by.now) c.requires.right)
    c.composed.new.d c.in_ok-low-in-Parts.low c.in_ok-low-in-Parts.ensures.calculates
    c.composed-in-Parts.new.d c.in_ok-high-in-Parts.high c.in_ok-high-in-Parts.ensures.calculates
    c.diagram_of-put.result (c.diagram_of-put.ensures.tree c.composed-in-Parts.new.d.branches) c.joined.new.d c.composed-in-Parts.new.memo c.note.new.self c.in_ok-whole-in-Parts.whole c.requires.first c.in_ok-whole-in-Parts.ensures c.note.ensures.entries c.in_ok-high-in-Parts.ensures.right

pub returns-in_err-note-in-Parts-clause-calculates : goal.returns-in_err-note-in-Parts-clause-calculates
returns-in_err-note-in-Parts-clause-calculates t c =
    calculates_no_memory c.args.d.now c.joined.new.d (inner_results (tree_at c.args.d.now.branches c.args.f) (tree_by c.args.d.now.branches c.args.by.now)) (tcompose (tree_at c.args.d.now.branches c.args.f) (tree_by c.args.d.now.branches c.args.by.now))
    c.in_ok-whole-in-Parts.whole c.from_residual-in_err-note-in-Parts.result c.in_err-note-in-Parts.field-0.0 c.from_residual-in_err-note-in-Parts.ensures.1 c.in_err-note-in-Parts.ensures.memory
    (run_whole c.args.d.now c.args.f c.args.by.now c.in-Parts.atom c.in-Parts.low c.in-Parts.high c.begin.ensures.arena c.requires.each (c.in-Parts.ensures.start (tree_by c.args.d.now.branches c.args.by.now) c.requires.right)
    c.composed.new.d c.in_ok-low-in-Parts.low c.in_ok-low-in-Parts.ensures.calculates
    c.composed-in-Parts.new.d c.in_ok-high-in-Parts.high c.in_ok-high-in-Parts.ensures.calculates
    c.diagram_of-put.result (c.diagram_of-put.ensures.tree c.composed-in-Parts.new.d.branches) c.joined.new.d _ c.in_ok-whole-in-Parts.ensures)

pub returns-in_err-note-in-Parts-clause-right : goal.returns-in_err-note-in-Parts-clause-right
returns-in_err-note-in-Parts-clause-right t c =
    right_noted c.args.d.now c.args.f c.args.by.now c.in-Parts.atom c.in-Parts.low c.in-Parts.high c.begin.ensures.arena c.requires.each (c.in-Parts.ensures.start (tree_by c.args.d.now.branches c.args.by.now) c.requires.right)
    c.composed.new.d c.in_ok-low-in-Parts.low c.in_ok-low-in-Parts.ensures.calculates
    c.composed-in-Parts.new.d c.in_ok-high-in-Parts.high c.in_ok-high-in-Parts.ensures.calculates
    c.diagram_of-put.result (c.diagram_of-put.ensures.tree c.composed-in-Parts.new.d.branches) c.joined.new.d c.composed-in-Parts.new.memo c.note.new.self c.in_ok-whole-in-Parts.whole c.requires.first c.in_ok-whole-in-Parts.ensures c.note.ensures.entries c.in_ok-high-in-Parts.ensures.right
