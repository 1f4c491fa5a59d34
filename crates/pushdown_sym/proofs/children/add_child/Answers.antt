use Rattle.std.proofs.Common.{◌∷◌, [], Ok, Err}
use Rattle.class_diagrams.specs.Trees.{tand, tor}
use Rattle.class_diagrams.specs.Arena.{tree_at}
use Rattle.diagram_ops.specs.Compositions.{tcompose, inner_results, tree_by}
use Rattle.diagram_ops.proofs.StepLemmas.{calculates_one, calculates_from}
use Rattle.pushdown_sym.specs.Terms.{disjunction}
use Rattle.pushdown_sym.specs.Adding.{child_term}
use Rattle.pushdown_sym.proofs.AddLemmas.{child_failed, and_failed, child_added}
use Rattle.pushdown_sym.proofs.children.add_child.Goals as goal

pub returns-in_err-composed : goal.returns-in_err-composed
returns-in_err-composed c =
    let h = c.in_err-composed.ensures in
    child_failed c.args.d.now c.args.there c.args.child (tree_by c.args.d.now.branches c.args.by.now) c.args.sofar c.requires.arena c.requires.there c.requires.sofar c.compose.new.d c.from_residual.result (tcompose (tree_at c.args.d.now.branches c.args.child) (tree_by c.args.d.now.branches c.args.by.now)) (disjunction (tree_at c.args.d.now.branches c.args.sofar) (child_term c.args.d.now c.args.there c.args.child c.args.by.now ∷ [])) c.in_err-composed.field-0.0 c.from_residual.ensures.1
    (calculates_from c.args.d.now c.compose.new.d (inner_results (tree_at c.args.d.now.branches c.args.child) (tree_by c.args.d.now.branches c.args.by.now)) (tcompose (tree_at c.args.d.now.branches c.args.child) (tree_by c.args.d.now.branches c.args.by.now)) (Err c.in_err-composed.field-0.0) tt tt h.full h.stays h.only h.limit h.arena)

pub returns-in_err-term : goal.returns-in_err-term
returns-in_err-term c =
    let h = c.in_err-term.ensures in
    and_failed c.args.d.now c.args.there c.args.child (tree_by c.args.d.now.branches c.args.by.now) c.args.sofar c.requires.arena c.requires.there c.requires.sofar
    c.compose.new.d c.in_ok-composed.composed (calculates_from c.args.d.now c.compose.new.d (inner_results (tree_at c.args.d.now.branches c.args.child) (tree_by c.args.d.now.branches c.args.by.now)) (tcompose (tree_at c.args.d.now.branches c.args.child) (tree_by c.args.d.now.branches c.args.by.now)) (Ok c.in_ok-composed.composed)
    c.in_ok-composed.ensures.tree c.in_ok-composed.ensures.inside c.in_ok-composed.ensures.full c.in_ok-composed.ensures.stays c.in_ok-composed.ensures.only c.in_ok-composed.ensures.limit c.in_ok-composed.ensures.arena) c.and.new.self c.from_residual-in_err-term.result (tand (tree_at c.compose.new.d.branches c.args.there) (tree_at c.compose.new.d.branches c.in_ok-composed.composed)) (disjunction (tree_at c.args.d.now.branches c.args.sofar) (child_term c.args.d.now c.args.there c.args.child c.args.by.now ∷ [])) c.in_err-term.field-0.0 c.from_residual-in_err-term.ensures.1
    (calculates_one c.compose.new.d c.and.new.self (tand (tree_at c.compose.new.d.branches c.args.there) (tree_at c.compose.new.d.branches c.in_ok-composed.composed)) (Err c.in_err-term.field-0.0) tt tt h.full h.stays h.only h.limit h.arena)

pub returns : goal.returns
returns c =
    let h = c.or.ensures in
    child_added c.args.d.now c.args.there c.args.child (tree_by c.args.d.now.branches c.args.by.now) c.args.sofar c.requires.arena c.requires.there c.requires.sofar
    c.compose.new.d c.in_ok-composed.composed (calculates_from c.args.d.now c.compose.new.d (inner_results (tree_at c.args.d.now.branches c.args.child) (tree_by c.args.d.now.branches c.args.by.now)) (tcompose (tree_at c.args.d.now.branches c.args.child) (tree_by c.args.d.now.branches c.args.by.now)) (Ok c.in_ok-composed.composed)
    c.in_ok-composed.ensures.tree c.in_ok-composed.ensures.inside c.in_ok-composed.ensures.full c.in_ok-composed.ensures.stays c.in_ok-composed.ensures.only c.in_ok-composed.ensures.limit c.in_ok-composed.ensures.arena)
    c.and.new.self c.in_ok-term.term (calculates_one c.compose.new.d c.and.new.self (tand (tree_at c.compose.new.d.branches c.args.there) (tree_at c.compose.new.d.branches c.in_ok-composed.composed)) (Ok c.in_ok-term.term)
    c.in_ok-term.ensures.tree c.in_ok-term.ensures.inside c.in_ok-term.ensures.full c.in_ok-term.ensures.stays c.in_ok-term.ensures.only c.in_ok-term.ensures.limit c.in_ok-term.ensures.arena) c.or.new.self c.or.result
    (calculates_one c.and.new.self c.or.new.self (tor (tree_at c.and.new.self.branches c.args.sofar) (tree_at c.and.new.self.branches c.in_ok-term.term)) c.or.result h.tree h.inside h.full h.stays h.only h.limit h.arena)
