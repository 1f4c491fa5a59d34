use Rattle.std.proofs.Common.{List, sym, subst}
use Rattle.jq_stmts.specs.Statements.{Statement}
use Rattle.jq_read.specs.Limits.{AreWithin}
use Rattle.treeped_app.proofs.GivenLemmas.{all_given}
use Rattle.treeped_app.proofs.RoomLemmas.{has_room}
use Rattle.treeped_app.proofs.reading.read_all.Goals as goal

pub returns-clause-given : goal.returns-clause-given
returns-clause-given c =
    all_given _ _ _ _ _ _ c.in_ok-page.ensures.over c.in_ok-sheet.ensures.front c.in_ok-sheet.ensures.readable c.in_ok-script.ensures.front c.in_ok-script.ensures.over c.in_ok-script.ensures.within

pub returns-clause-room : goal.returns-clause-room
returns-clause-room c = has_room _ _ c.in_ok-page.ensures.few (subst (λ (z : List Statement). AreWithin z) (sym c.in_ok-script.ensures.wide) c.in_ok-script.ensures.within)
