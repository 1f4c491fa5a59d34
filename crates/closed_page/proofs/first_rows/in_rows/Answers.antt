use Rattle.std.proofs.Common.{List, subst}
use Rattle.closed_page.specs.declared.notes.NodeNews.{NodeNews}
use Rattle.closed_page.specs.Notes.{expanded}
use Rattle.closed_page.specs.Runs.{AreByAtom}
use Rattle.closed_page.proofs.RowLemmas.{by_atom_moved}
use Rattle.closed_page.proofs.first_rows.in_rows.Goals as goal

pub returns-clause-rows : goal.returns-clause-rows
returns-clause-rows c =
    by_atom_moved (expanded c.args.notes.items) (expanded c.in_order.new.notes.items) c.in_ok-rows.rows.items c.in_ok-in_order.ensures.back c.in_ok-in_order.ensures.on
    (subst (λ (z : List NodeNews). AreByAtom (expanded z) c.in_ok-rows.rows.items) c.deref.ensures.value c.in_ok-rows.ensures.rows)
