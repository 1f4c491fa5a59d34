use Rattle.std.proofs.Common.{◌∙◌}
use Rattle.dead_script.proofs.AskedLemmas.{one_asked}
use Rattle.dead_script.proofs.asking.ask.Goals as goal

pub statements-preserved : goal.statements-preserved
statements-preserved c =
    let both = one_asked c.args.stmts.now c.statements.stmt-index c.stmt-item.result c.statements.before.now c.items-handlers.result.now c.statements.start c.shared_front-shared.result c.len-next.result
    c.statements.asked.guards.items c.add_new.new.asked.guards.items c.statements.asked.numbers.items c.add_old.new.numbers.items c.add_new.new.asked.numbers.items
    c.statements-test.true c.stmt-item.is c.items-handlers.ensures (c.len-next.ensures ∙ c.statements.asked.numbers.ok.0) c.statements.invariant.asked c.statements.invariant.kept
    c.shared_front-shared.ensures.in_first c.shared_front-shared.ensures.in_second c.shared_front-shared.ensures.same
    c.in_ok-add_old.ensures c.in_ok-add_new.ensures.guards c.in_ok-add_new.ensures.numbers in
    record { asked = both.0; kept = both.1 }
