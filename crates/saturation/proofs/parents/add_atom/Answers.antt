use Rattle.std.proofs.lemmas.List.{get_or_default}
use Rattle.pushdown_sym.proofs.EndLemmas.{at_item}
use Rattle.saturation.proofs.WakingLemmas.{with_atom_more}
use Rattle.saturation.proofs.parents.add_atom.Goals as goal

pub loop-i-preserved : goal.loop-i-preserved
loop-i-preserved c =
    with_atom_more c.args.todo.now.items c.loop-i.todo.items c.push.new.self.items c.args.atom c.args.kinds.now c.loop-i.i _
    (at_item c.args.kinds.now c.loop-i.i _ c.loop-i-test.true (get_or_default c.args.kinds.now c.loop-i.i _ _ c.loop-i-test.true)) c.loop-i.invariant c.in_ok-push.ensures.items
