use Rattle.std.proofs.Common.{◌∷◌, [], List, sym, subst}
use Rattle.class_diagrams.specs.Trees.{tor}
use Rattle.class_diagrams.specs.Arena.{tree_at}
use Rattle.diagram_ops.specs.Steps.{Calculates}
use Rattle.diagram_ops.proofs.StepLemmas.{calculates_one, calculates_same_error}
use Rattle.pushdown_sym.specs.CellMap.{trees_in}
use Rattle.pushdown_sym.specs.Terms.{Term, local_term, disjunction, disjunctions}
use Rattle.pushdown_sym.specs.Adding.{Adds}
use Rattle.pushdown_sym.proofs.AddLemmas.{term_added, term_failed, of_local-gives}
use Rattle.pushdown_sym.proofs.locals.add_local.Goals as goal

pub returns-in_err-term : goal.returns-in_err-term
returns-in_err-term c =
    let now = trees_in c.args.d.now.branches c.args.now.now in
    let x = tree_at c.args.d.now.branches c.args.sofar in
    let t = local_term now c.args.kind c.args.rule.now in
    subst (λ (ts : List Term). Calculates c.args.d.now c.all_of.new.d (disjunctions x ts) (disjunction x ts) c.from_residual.result)
    (sym (of_local-gives now c.args.kind c.args.atom c.args.rule.now c.if-eq.ensures))
    (calculates_same_error c.args.d.now c.all_of.new.d (disjunctions x (t ∷ [])) (disjunction x (t ∷ [])) c.from_residual.result c.in_err-term.field-0.0 c.from_residual.ensures.1
    (term_failed c.args.d.now c.all_of.new.d c.args.sofar t c.requires.sofar c.requires.arena t.tree (disjunction x (t ∷ [])) c.in_err-term.field-0.0 c.in_err-term.ensures))

pub returns-in_ok-term : goal.returns-in_ok-term
returns-in_ok-term c =
    let now = trees_in c.args.d.now.branches c.args.now.now in
    let t = local_term now c.args.kind c.args.rule.now in
    let g = c.or.ensures in
    let u = tor (tree_at c.all_of.new.d.branches c.args.sofar) (tree_at c.all_of.new.d.branches c.in_ok-term.term) in
    subst (λ (ts : List Term). Adds c.args.d.now c.or.new.self c.args.sofar ts c.or.result)
    (sym (of_local-gives now c.args.kind c.args.atom c.args.rule.now c.if-eq.ensures))
    (term_added c.args.d.now c.all_of.new.d c.args.sofar t c.requires.sofar c.requires.arena c.or.new.self c.in_ok-term.term c.or.result c.in_ok-term.ensures
    (calculates_one c.all_of.new.d c.or.new.self u c.or.result g.tree g.inside g.full g.stays g.only g.limit g.arena))
