use Rattle.closed_page.specs.Notes.{expanded}
use Rattle.closed_page.specs.Runs.{all_in}
use Rattle.closed_page.proofs.RowLemmas.{all_old, all_told}
use Rattle.closed_page.proofs.FirstsLemmas.{moved_kept, moved_rounds}
use Rattle.closed_page.proofs.first_rounds.FirstRounds.new.Goals as goal

pub invariant_of-result : goal.invariant_of-result
invariant_of-result c =
    let fs = expanded c.args.notes.items in
    let rows = c.in_ok-rows.rows.items in
    let by_atom = c.in_ok-rows.ensures.rows in
    (moved_kept c.args.nodes fs (all_in rows) (all_old fs rows by_atom) (all_told fs rows by_atom c.args.nodes c.requires) c.requires, c.in_ok-rows.ensures.sorted)

pub returns-clause-rounds : goal.returns-clause-rounds
returns-clause-rounds c =
    let fs = expanded c.args.notes.items in
    let rows = c.in_ok-rows.rows.items in
    let by_atom = c.in_ok-rows.ensures.rows in
    moved_rounds c.args.nodes fs (all_in rows) (all_old fs rows by_atom) (all_told fs rows by_atom c.args.nodes c.requires) c.requires
