use Rattle.std.proofs.Common.{Err, ap}
use Rattle.class_diagrams.specs.declared.faults.DiagramFault.{DiagramFault}
use Rattle.saturation.proofs.DoneLemmas.{todo_given, spent_in}
use Rattle.saturation.proofs.RoundLemmas.{error_is}
use Rattle.saturation.proofs.changes.changed_cells.Goals as goal

pub returns-in-Ok-clause-changes : goal.returns-in-Ok-clause-changes
returns-in-Ok-clause-changes c nodes k histories sound done =
    c.in-Ok.ensures.changes k sound (todo_given c.args.equations.now nodes k c.args.d.now histories c.args.now.now c.args.todo.now done) done.tells

pub returns-in-Err-clause-spent : goal.returns-in-Err-clause-spent
returns-in-Err-clause-spent c nodes k histories sound done spent =
    spent_in c.args.equations.now nodes k c.args.d.now histories c.args.now.now c.args.todo.now done
    (c.in-Err.ensures.full k sound (todo_given c.args.equations.now nodes k c.args.d.now histories c.args.now.now c.args.todo.now done) done.tells
    (ap (λ (x : DiagramFault). Err x) (c.fault_of.ensures.0 (error_is _ _ spent))))
