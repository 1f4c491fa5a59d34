use Rattle.std.proofs.Common.{◌∙◌, drop, ap, sym}
use Rattle.jq_words.specs.Words.{Rest}
use Rattle.jq_cursor.specs.Lists.{extent}
use Rattle.jq_cursor.specs.ListViews.{extent_of}
use Rattle.jq_cursor.proofs.NoteSteps.{behind_part}
use Rattle.jq_cursor.proofs.cursors.Cursor.with_place.Goals as goal

pub invariant_of-result : goal.invariant_of-result
invariant_of-result c =
    rw c.again.ensures (behind_part _ _ (extent_of c.args.list.now) c.self.invariant (c.requires ∙ ap (λ (r : Rest). extent (drop 1 r.words)) (sym c.self.view_is)))
