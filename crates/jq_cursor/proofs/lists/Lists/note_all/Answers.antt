use Rattle.std.proofs.Common.{refl, ◌∙◌}
use Rattle.jq_words.proofs.Rests.{itself, of_rest, is_rest}
use Rattle.jq_cursor.proofs.NoteSteps.{none_open}
use Rattle.jq_cursor.proofs.lists.Lists.note_all.Goals as goal

pub words-init : goal.words-init
words-init c = record {
  kept = refl;
  part = rw c.words-rest.ensures (itself _);
  holds = none_open _ _ _ c.new-opened.ensures.items;
}

pub words-preserved : goal.words-preserved
words-preserved c = record {
  kept = c.in_ok-pass.ensures.kept ∙ c.words.invariant.kept;
  part = rw c.in_ok-pass.ensures.kept (of_rest _ _ _ c.words.invariant.part (is_rest _ _ c.pass-in-Some.ensures.rest.left));
  holds = rw (c.in_ok-pass.ensures.kept, c.pass-in-Some.ensures.passed) c.in_ok-pass.ensures.holds;
}
