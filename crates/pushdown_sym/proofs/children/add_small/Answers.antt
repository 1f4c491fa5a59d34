use Rattle.std.proofs.Common.{◌∷◌, [], Ok, Err}
use Rattle.class_diagrams.specs.Trees.{tand, tor}
use Rattle.class_diagrams.specs.Arena.{tree_at}
use Rattle.diagram_ops.specs.Compositions.{tcompose}
use Rattle.diagram_ops.proofs.StepLemmas.{calculates_one}
use Rattle.pushdown_sym.specs.Terms.{disjunction}
use Rattle.pushdown_sym.specs.CellMap.{trees_in}
use Rattle.pushdown_sym.specs.Adding.{term_at}
use Rattle.pushdown_sym.proofs.AddLemmas.{child_failed, and_failed, child_added}
use Rattle.pushdown_sym.proofs.children.add_small.Goals as goal

pub returns-in_err-beneath : goal.returns-in_err-beneath
returns-in_err-beneath c =
    child_failed c.args.d.now c.args.parts.0 c.args.parts.1 (trees_in c.args.d.now.branches c.args.now.now c.args.kind) c.args.sofar c.requires.arena c.requires.there c.requires.sofar c.composed.new.d c.from_residual.result
    (tcompose (tree_at c.args.d.now.branches c.args.parts.1) (trees_in c.args.d.now.branches c.args.now.now c.args.kind)) (disjunction (tree_at c.args.d.now.branches c.args.sofar) (term_at c.args.d.now.branches c.args.parts.0 c.args.parts.1 (trees_in c.args.d.now.branches c.args.now.now c.args.kind) ∷ []))
    c.in_err-beneath.field-0.0 c.from_residual.ensures.1 c.in_err-beneath.ensures

pub returns-in_err-term : goal.returns-in_err-term
returns-in_err-term c =
    let h = c.in_err-term.ensures in
    and_failed c.args.d.now c.args.parts.0 c.args.parts.1 (trees_in c.args.d.now.branches c.args.now.now c.args.kind) c.args.sofar c.requires.arena c.requires.there c.requires.sofar c.composed.new.d c.in_ok-beneath.beneath c.in_ok-beneath.ensures
    c.and.new.self c.from_residual-in_err-term.result (tand (tree_at c.composed.new.d.branches c.args.parts.0) (tree_at c.composed.new.d.branches c.in_ok-beneath.beneath)) (disjunction (tree_at c.args.d.now.branches c.args.sofar) (term_at c.args.d.now.branches c.args.parts.0 c.args.parts.1 (trees_in c.args.d.now.branches c.args.now.now c.args.kind) ∷ [])) c.in_err-term.field-0.0 c.from_residual-in_err-term.ensures.1
    (calculates_one c.composed.new.d c.and.new.self (tand (tree_at c.composed.new.d.branches c.args.parts.0) (tree_at c.composed.new.d.branches c.in_ok-beneath.beneath)) (Err c.in_err-term.field-0.0) tt tt h.full h.stays h.only h.limit h.arena)

pub returns : goal.returns
returns c =
    let g = c.in_ok-term.ensures in
    let h = c.or.ensures in
    child_added c.args.d.now c.args.parts.0 c.args.parts.1 (trees_in c.args.d.now.branches c.args.now.now c.args.kind) c.args.sofar c.requires.arena c.requires.there c.requires.sofar c.composed.new.d c.in_ok-beneath.beneath c.in_ok-beneath.ensures
    c.and.new.self c.in_ok-term.term (calculates_one c.composed.new.d c.and.new.self (tand (tree_at c.composed.new.d.branches c.args.parts.0) (tree_at c.composed.new.d.branches c.in_ok-beneath.beneath)) (Ok c.in_ok-term.term) g.tree g.inside g.full g.stays g.only g.limit g.arena) c.or.new.self c.or.result
    (calculates_one c.and.new.self c.or.new.self (tor (tree_at c.and.new.self.branches c.args.sofar) (tree_at c.and.new.self.branches c.in_ok-term.term)) c.or.result h.tree h.inside h.full h.stays h.only h.limit h.arena)
