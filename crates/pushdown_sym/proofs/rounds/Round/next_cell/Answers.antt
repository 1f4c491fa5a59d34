use Rattle.pushdown_sym.specs.Adding.{results_in}
use Rattle.pushdown_sym.proofs.SameLemmas.{next_round}
use Rattle.pushdown_sym.proofs.rounds.Round.next_cell.Goals as goal

pub returns-clause-round : goal.returns-clause-round
returns-clause-round c = λ sound k tells.
    next_round c.args.self.now.0 sound k c.args.kind c.args.atom c.requires.kind c.args.d.now c.next.new.d c.args.self.now.1
    (results_in c.args.self.now.0 c.args.d.now c.args.self.now.1 c.args.kind c.args.atom) c.next.result tells c.next.ensures.next
