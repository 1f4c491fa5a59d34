use Rattle.std.proofs.lemmas.Bool.{ltb-true}
use Rattle.pushdown_sym.proofs.CellRowLemmas.{gap_behind, gap_of_none}
use Rattle.pushdown_sym.proofs.cell_rows.is_behind.Goals as goal

pub returns-in-Some : goal.returns-in-Some
returns-in-Some c = λ less. gap_behind c.args.cells.now c.requires c.args.kind c.in-Some.last.now c.in-Some.ensures.value (ltb-true c.in-Some.last.now.0 c.args.kind less)

pub returns-in-None : goal.returns-in-None
returns-in-None c = λ none. gap_of_none c.args.cells.now c.args.kind c.in-None.ensures.value
