use Rattle.class_adding.proofs.FreshLemmas.{given_again}
use Rattle.class_adding.proofs.looking.add_other.Goals as goal

pub returns-then-is_again : goal.returns-then-is_again
returns-then-is_again c = given_again c.args.system.now.down c.args.own.now c.args.last c.args.number c.args.next.now (c.is_again.ensures c.if-is_again.true) c.requires.last
