use Rattle.jq_cursor.proofs.PlaceSteps.{kept}
use Rattle.jq_cursor.proofs.cursors.Cursor.pass.Goals as goal

pub invariant_of-self : goal.invariant_of-self
invariant_of-self c = kept _ _ _ c.self.invariant c.pass.ensures.rest.left
