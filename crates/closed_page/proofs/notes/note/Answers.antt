use Rattle.std.proofs.Common.{List, sym, subst}
use Rattle.closed_page.specs.declared.notes.NodeNews.{NodeNews}
use Rattle.closed_page.specs.Notes.{AreAtSpots}
use Rattle.closed_page.proofs.NoteLemmas.{spots_more}
use Rattle.closed_page.proofs.notes.note.Goals as goal

pub returns-in_err-push-clause-spots : goal.returns-in_err-push-clause-spots
returns-in_err-push-clause-spots c = λ nodes v stands before. subst (λ (z : List NodeNews). AreAtSpots nodes z) (sym c.in_err-push.ensures.items) before

pub returns-clause-spots : goal.returns-clause-spots
returns-clause-spots c = λ nodes v stands before.
    spots_more nodes c.args.notes.now.items c.push.new.self.items (record { spot = c.args.spot; round = c.args.round; atoms = c.in_ok-atoms.atoms }) v c.in_ok-push.ensures.items stands before
