use Rattle.std.proofs.Common.{List, length, sym, subst}
use Rattle.jq_stmts.specs.Statements.{Statement}
use Rattle.jq_stmts.specs.Tables.{AreStatementsOver}
use Rattle.jq_read.specs.Limits.{AreWithin}
use Rattle.jq_exact.proofs.MarkLemmas.{wides_marked}
use Rattle.treeped_app.proofs.ReadingLemmas.{opened_exactly, judged_again}
use Rattle.treeped_app.proofs.reading.open_exact.Goals as goal

pub returns-in_ok-script-in-Ok-clause-opened : goal.returns-in_ok-script-in-Ok-clause-opened
returns-in_ok-script-in-Ok-clause-opened c = opened_exactly c.args.part c.args.text.now c.args.atoms.now c.read_exact.new.atoms c.in-Ok.statements.items c.in_ok-script-in-Ok.script c.in-Ok.ensures.reads c.in_ok-script-in-Ok.ensures

pub returns-in_ok-script-in-Ok-clause-wide : goal.returns-in_ok-script-in-Ok-clause-wide
returns-in_ok-script-in-Ok-clause-wide c = let s = c.in_ok-script-in-Ok.script in wides_marked s.stmts.items s.sharp.items

pub returns-in_ok-script-in-Ok-clause-over : goal.returns-in_ok-script-in-Ok-clause-over
returns-in_ok-script-in-Ok-clause-over c =
    subst (λ (z : List Statement). AreStatementsOver (length c.read_exact.new.atoms) z) (sym (judged_again c.in_ok-script-in-Ok.script c.in-Ok.statements.items c.in_ok-script-in-Ok.ensures)) c.in-Ok.ensures.over

pub returns-in_ok-script-in-Ok-clause-within : goal.returns-in_ok-script-in-Ok-clause-within
returns-in_ok-script-in-Ok-clause-within c =
    subst (λ (z : List Statement). AreWithin z) (sym (judged_again c.in_ok-script-in-Ok.script c.in-Ok.statements.items c.in_ok-script-in-Ok.ensures)) c.in-Ok.ensures.within
