use Rattle.pushdown_sym.proofs.CellRowLemmas.{read_at}
use Rattle.pushdown_sym.proofs.cell_rows.is_at.Goals as goal

pub returns-in-Some : goal.returns-in-Some
returns-in-Some c = λ same. read_at c.args.cells.now c.args.kind c.args.place c.in-Some.cell.now c.in-Some.ensures.lookup.0 c.in-Some.ensures.lookup.1 same
