use Rattle.std.proofs.Common.{[], List, get_or, ap, sym, ◌∙◌, subst}
use Rattle.std.proofs.lemmas.List.{get_or_default}
use Rattle.closed_page.specs.declared.first_rows.Run.{Run}
use Rattle.closed_page.specs.Runs.{start_of, AllEndBy}
use Rattle.closed_page.proofs.first_rows.put.Goals as goal

pub put-requires-clause-ends : goal.put-requires-clause-ends
put-requires-clause-ends c =
    let row = c.index_mut-row.result.now in
    subst (λ (z : List Run). AllEndBy z (start_of c.args.kids)) (sym (c.index_mut-row.ensures.value ∙ ap (λ n. get_or c.reach.new.rows.items n row) c.atom.view_is ∙ get_or_default c.reach.new.rows.items c.args.atom row [] c.in_ok-reach.ensures.there ∙ c.in_ok-reach.ensures.same c.args.atom)) c.requires.ends
