use Rattle.jq_cursor.proofs.PlaceSteps.{kept}
use Rattle.jq_cursor.proofs.cursors.Cursor.want_name.Goals as goal

pub invariant_of-self : goal.invariant_of-self
invariant_of-self c = kept _ _ _ c.self.invariant (rw c.again-rest.ensures at c.in_ok-name.ensures.rest.left)
