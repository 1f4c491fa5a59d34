use Rattle.std.proofs.Common.{ap, ◌∙◌}
use Rattle.html_table.specs.Outward.{nearest, holding}
use Rattle.html_table.proofs.OutwardLemmas.{whole, left_holder}
use Rattle.html_table.proofs.NearestLemmas.{holding_is}
use Rattle.html_table.proofs.open_elements.holders.Goals as goal

pub returns-clause-gives : goal.returns-clause-gives
returns-clause-gives c =
    let os = c.args.«open».now in
    (left_holder c.args.kind os c.holding.result (c.holding.ensures ∙ ap (holding c.args.kind) (c.nearest.ensures ∙ ap nearest (whole os _ c.len.ensures.gives)) ∙ holding_is c.args.kind _)).gives

pub returns-clause-within : goal.returns-clause-within
returns-clause-within c =
    let os = c.args.«open».now in
    (left_holder c.args.kind os c.holding.result (c.holding.ensures ∙ ap (holding c.args.kind) (c.nearest.ensures ∙ ap nearest (whole os _ c.len.ensures.gives)) ∙ holding_is c.args.kind _)).within
