use Rattle.std.proofs.Common.{[], refl}
use Rattle.guard_simplify.proofs.AskedLemmas.{asked_pushed}
use Rattle.guard_simplify.proofs.asked.each_asked.Goals as goal

pub guards-preserved : goal.guards-preserved
guards-preserved c = asked_pushed [] c.args.guards.now c.guards.guard-index c.guard-item.result c.guards.asked.items c.push.new.self.items _ c.guards.invariant c.in_ok-push.ensures.items refl c.guard-item.is c.guards-test.true
