use Rattle.jq_cursor.proofs.NoteSteps.{same_noted, one_noted}
use Rattle.jq_cursor.proofs.lists.Lists.note.Goals as goal

pub invariant_of-self : goal.invariant_of-self
invariant_of-self c = (c.self.invariant.0, same_noted _ _ _ c.self.invariant.1 c.in_err-insert.ensures.err)

pub invariant_of-self-2 : goal.invariant_of-self-2
invariant_of-self-2 c = (
  c.self.invariant.0,
  one_noted _ _ _ c.in-Some.pending.value c.in-Some-first.word c.ended-noted.result c.args.whole c.args.behind.now.words c.self.invariant.0 c.self.invariant.1
      (rw (← c.self.view_is, c.in-Some.is) at c.requires) (rw c.deref.ensures at c.in-Some-first.ensures.some)
      (rw (c.behind.ensures, c.deref-2.ensures, c.deref-3.ensures) at c.ended-noted.ensures) (rw c.at.ensures at c.in_ok-insert.ensures.updates.0),
)
