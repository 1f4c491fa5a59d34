use Rattle.html_table.proofs.NoteLemmas.{begun_one}
use Rattle.html_table.proofs.name_notes.begin.Goals as goal

pub notes-preserved : goal.notes-preserved
notes-preserved g c = λ i m at. c.notes.invariant i m (begun_one _ i m (rw c.in_ok-push.ensures.items at at))
