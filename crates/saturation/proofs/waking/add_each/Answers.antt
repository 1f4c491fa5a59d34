use Rattle.std.proofs.lemmas.List.{get_or_default}
use Rattle.pushdown_sym.proofs.EndLemmas.{at_item}
use Rattle.saturation.specs.Waking.{named}
use Rattle.saturation.proofs.NameLemmas.{mapped_more}
use Rattle.saturation.proofs.waking.add_each.Goals as goal

pub loop-i-preserved : goal.loop-i-preserved
loop-i-preserved c =
    mapped_more (λ kind. named kind c.args.atoms.now) c.args.todo.now.items c.loop-i.todo.items c.add_named.new.todo.items c.args.kinds.now c.loop-i.i _
    (at_item c.args.kinds.now c.loop-i.i _ c.loop-i-test.true (get_or_default c.args.kinds.now c.loop-i.i _ _ c.loop-i-test.true)) c.loop-i.invariant c.in_ok-add_named.ensures
