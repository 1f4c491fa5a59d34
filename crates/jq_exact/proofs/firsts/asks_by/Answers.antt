use Rattle.std.proofs.Common.{ap}
use Rattle.jq_stmts.specs.Views.{call_of}
use Rattle.jq_exact.specs.Together.{is_first}
use Rattle.jq_exact.proofs.firsts.asks_by.Goals as goal

pub returns-then-not-is_first-clause-no : goal.returns-then-not-is_first-clause-no
returns-then-not-is_first-clause-no c off = c.is_first.ensures.no c.if-not-is_first.true (call_of c.args.call.now)

pub returns-clause-yes : goal.returns-clause-yes
returns-clause-yes c on = rw (c.is_first.ensures.yes c.if-not-is_first.false) (c.takes_all.ensures.yes on)

pub returns-clause-no : goal.returns-clause-no
returns-clause-no c off = rw (c.is_first.ensures.yes c.if-not-is_first.false) (ap is_first (c.takes_all.ensures.no off))
