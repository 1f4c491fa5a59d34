use Rattle.jq_cursor.proofs.NoteSteps.{found}
use Rattle.jq_cursor.proofs.lists.Lists.get.Goals as goal

pub returns-clause-noted : goal.returns-clause-noted
returns-clause-noted c =
    found _ _ c.in_ok-word.word c.self.inside.notes.entries c.get.result c.self.invariant.1 (rw (← c.self.view_is) at c.requires) c.in_ok-word.ensures.some
    (rw c.at.ensures at c.get.ensures.value)
