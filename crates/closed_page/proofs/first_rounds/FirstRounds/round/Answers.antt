use Rattle.std.proofs.Common.{List, ℕ, refl, sym, ap, ◌∙◌, subst}
use Rattle.closed_page.specs.declared.first_rows.Run.{Run}
use Rattle.closed_page.specs.ClosedPages.{NodeRounds, round_of}
use Rattle.closed_page.specs.Firsts.{IsSpotOf, placed}
use Rattle.closed_page.specs.Runs.{row_at, all_in, AreOrdered, IsRoundInRow}
use Rattle.closed_page.proofs.RowLemmas.{round_in_all}
use Rattle.closed_page.proofs.FirstsLemmas.{round_is, round_nowhere}
use Rattle.closed_page.proofs.first_rounds.FirstRounds.round.Goals as goal

pub round_in-requires : goal.round_in-requires
round_in-requires c = subst (λ (z : List Run). AreOrdered z) (sym (c.row_of.ensures ∙ ap (λ (z : List (List Run)). row_at z c.args.atom) c.deref.ensures.value)) (c.self.invariant.1 c.args.atom)

pub returns-in-Some : goal.returns-in-Some
returns-in-Some c =
    let n = c.self.inside in
    let kept = c.self.invariant.0 in
    let stands = subst (λ (z : List ℕ). IsSpotOf n.nodes z c.spot_of-spot.result) c.in-Some.ensures.some.1 c.spot_of-spot.ensures in
    let row = c.row_of.ensures ∙ ap (λ (z : List (List Run)). row_at z c.args.atom) c.deref.ensures.value in
    round_is n.nodes (all_in n.rows.items) kept.of_nodes kept.spots c.args.at.now c.spot_of-spot.result stands c.args.atom c.round_in.result
    (round_in_all n.rows.items c.args.atom c.spot_of-spot.result c.round_in.result (subst (λ (z : List Run). IsRoundInRow z c.spot_of-spot.result c.round_in.result) row c.round_in.ensures))
    ∙ ap (λ (z : NodeRounds). round_of z.firsts c.args.at.now c.args.atom) c.self.view_is

pub returns-in-None : goal.returns-in-None
returns-in-None c =
    let n = c.self.inside in
    round_nowhere n.nodes (placed n.nodes (all_in n.rows.items)) c.args.at.now c.args.atom c.self.invariant.0.of_nodes (c.in-None.ensures.none refl) ∙ ap (λ (z : NodeRounds). round_of z.firsts c.args.at.now c.args.atom) c.self.view_is
