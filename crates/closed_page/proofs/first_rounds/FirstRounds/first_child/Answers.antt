use Rattle.std.proofs.Common.{List, None, refl, sym, ap, ◌∙◌, subst}
use Rattle.closed_page.specs.declared.first_rows.Run.{Run}
use Rattle.closed_page.specs.ClosedPages.{NodeRounds}
use Rattle.closed_page.specs.Runs.{row_at, all_in, AreOrdered, IsChildInRow}
use Rattle.closed_page.specs.FirstChildren.{IsFirstChild}
use Rattle.closed_page.proofs.ChildLemmas.{first_child_found, first_child_nowhere}
use Rattle.closed_page.proofs.RowLemmas.{child_in_all}
use Rattle.closed_page.proofs.first_rounds.FirstRounds.first_child.Goals as goal

pub child_in-requires : goal.child_in-requires
child_in-requires c = subst (λ (z : List Run). AreOrdered z) (sym (c.row_of.ensures ∙ ap (λ (z : List (List Run)). row_at z c.args.atom) c.deref.ensures.value)) (c.self.invariant.1 c.args.atom)

pub returns-in-Some : goal.returns-in-Some
returns-in-Some c =
    let n = c.self.inside in
    let kept = c.self.invariant.0 in
    let row = c.row_of.ensures ∙ ap (λ (z : List (List Run)). row_at z c.args.atom) c.deref.ensures.value in
    subst (λ (z : NodeRounds). IsFirstChild z.firsts c.args.at.now c.args.atom c.args.round c.child_in.result) c.self.view_is
    (first_child_found n.nodes (all_in n.rows.items) kept.of_nodes kept.spots c.args.at.now c.args.atom c.args.round c.in-Some.number c.in-Some.ensures.some.0 c.in-Some.ensures.some.1 c.child_in.result
    (child_in_all n.rows.items c.args.atom c.in-Some.number c.args.round c.child_in.result (subst (λ (z : List Run). IsChildInRow z c.in-Some.number c.args.round c.child_in.result) row c.child_in.ensures)))

pub returns-in-None : goal.returns-in-None
returns-in-None c =
    let n = c.self.inside in
    let kept = c.self.invariant.0 in
    subst (λ (z : NodeRounds). IsFirstChild z.firsts c.args.at.now c.args.atom c.args.round None) c.self.view_is
    (first_child_nowhere n.nodes (all_in n.rows.items) kept.of_nodes kept.spots c.args.at.now c.args.atom c.args.round kept.rooted (c.in-None.ensures.none refl))
