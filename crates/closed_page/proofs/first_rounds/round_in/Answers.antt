use Rattle.std.proofs.Common.{get_or, sym, ◌∙◌}
use Rattle.std.proofs.lemmas.List.{get_or_default}
use Rattle.closed_page.specs.declared.first_rows.Run.{Run}
use Rattle.closed_page.proofs.RunLemmas.{no_round, covers_false}
use Rattle.closed_page.proofs.first_rounds.round_in.Goals as goal

pub returns-else-covers : goal.returns-else-covers
returns-else-covers c =
    let row = c.args.row.now in
    let place = c.place_of-place.result in
    let none : Run = record { parent = 0; first = 0; last = 0; round = 0 } in
    let x = get_or row place none in
    no_round row c.requires c.args.spot place c.place_of-place.ensures.point x (λ less. (get_or_default row place none x less, covers_false x c.args.spot (sym c.covers.ensures ∙ c.if-covers.false)))
