use Rattle.pushdown_sym.proofs.GrownLemmas.{eval-cell}
use Rattle.pushdown_sym.proofs.CellLemmas.{IsOrdered-cell}
use Rattle.pushdown_sym.proofs.laws.cells_tell.Goals as goal

pub returns-clause-grown : goal.returns-clause-grown
returns-clause-grown c = eval-cell c.args.system.now c.requires.sound

pub returns-clause-ordered : goal.returns-clause-ordered
returns-clause-ordered c = IsOrdered-cell c.args.system.now
