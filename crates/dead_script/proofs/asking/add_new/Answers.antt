use Rattle.jq_stmts.specs.Views.{statement_of}
use Rattle.dead_script.proofs.AskedLemmas.{further_next}
use Rattle.dead_script.proofs.asking.add_new.Goals as goal

pub handlers-preserved : goal.handlers-preserved
handlers-preserved c =
    let both = further_next (statement_of c.args.stmt.now) c.args.k c.handlers.i c.args.asked.now.guards.items c.handlers.asked.guards.items c.ask_new.new.asked.guards.items c.args.asked.now.numbers.items c.handlers.asked.numbers.items c.ask_new.new.asked.numbers.items
    c.handlers.auto.i c.handlers.invariant.guards c.handlers.invariant.numbers c.in_ok-ask_new.ensures.guards c.in_ok-ask_new.ensures.numbers in
    record { guards = both.0; numbers = both.1 }
