use Rattle.std.proofs.Common.{[], get_or, refl, subst}
use Rattle.closed_page.specs.Labelled.{IsAbove}
use Rattle.closed_page.proofs.FirstsLemmas.{spot_some, spot_none}
use Rattle.closed_page.proofs.first_rounds.spot_of.Goals as goal

pub returns-in-Some : goal.returns-in-Some
returns-in-Some c =
    let nodes = c.args.nodes.now in
    let v = get_or nodes c.args.number [] in
    spot_some nodes c.parent.ensures.once v c.in-Some.parent c.step.result (subst (IsAbove nodes v) c.in-Some.is c.parent.ensures.above) c.step.ensures

pub returns-in-None : goal.returns-in-None
returns-in-None c =
    let nodes = c.args.nodes.now in
    spot_none nodes c.parent.ensures.once (get_or nodes c.args.number []) c.count.result c.count.ensures (c.in-None.ensures.root refl)
