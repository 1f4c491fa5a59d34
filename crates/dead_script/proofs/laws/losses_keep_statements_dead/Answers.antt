use Rattle.jq_stmts.specs.Views.{statement_of, statements_of}
use Rattle.dead_script.proofs.DeadStatementLemmas.{losses_keep_dead}
use Rattle.dead_script.proofs.laws.losses_keep_statements_dead.Goals as goal

pub returns : goal.returns
returns c = losses_keep_dead c.args.page.now (statements_of c.args.stmts.now) (statement_of c.args.s.now)
