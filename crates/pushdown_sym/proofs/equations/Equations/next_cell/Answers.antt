use Rattle.pushdown_sym.specs.Adding.{results_in}
use Rattle.pushdown_sym.proofs.SameLemmas.{next_round}
use Rattle.pushdown_sym.proofs.equations.Equations.next_cell.Goals as goal

pub returns-clause-round : goal.returns-clause-round
returns-clause-round c = λ sound k tells.
    next_round c.args.self.now sound k c.args.kind c.args.atom c.requires.kind c.args.d.now c.next_alone.new.d c.args.now.now
    (results_in c.args.self.now c.args.d.now c.args.now.now c.args.kind c.args.atom) c.next_alone.result tells c.next_alone.ensures
