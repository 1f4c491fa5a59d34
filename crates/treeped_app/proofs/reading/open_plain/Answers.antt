use Rattle.jq_exact.proofs.MarkLemmas.{wides_marked}
use Rattle.treeped_app.proofs.ReadingLemmas.{opened_plainly, not_plainly}
use Rattle.treeped_app.proofs.reading.open_plain.Goals as goal

pub returns-in-Ok-clause-opened : goal.returns-in-Ok-clause-opened
returns-in-Ok-clause-opened c =
    opened_plainly c.args.part c.args.text.now c.args.atoms.now c.read_script.new.atoms (record { stmts = c.in-Ok.stmts; sharp = c.new.result }) c.new.ensures.items c.in-Ok.ensures.reads

pub returns-in-Ok-clause-wide : goal.returns-in-Ok-clause-wide
returns-in-Ok-clause-wide c = wides_marked c.in-Ok.stmts.items c.new.result.items

pub returns-in-Err-clause-opened : goal.returns-in-Err-clause-opened
returns-in-Err-clause-opened c = rw c.script_stop.ensures (not_plainly c.args.part c.args.text.now c.args.atoms.now c.read_script.new.atoms c.in-Err.fault c.in-Err.ensures.reads)
