use Rattle.std.proofs.Common.{[], get_or, subst}
use Rattle.closed_page.specs.Labelled.{IsAbove}
use Rattle.closed_page.proofs.CallLemmas.{called_none, called_some}
use Rattle.closed_page.proofs.page_labels.PageLabels.call.Goals as goal

pub returns-in_ok-note-in-Some-clause-ok : goal.returns-in_ok-note-in-Some-clause-ok
returns-in_ok-note-in-Some-clause-ok c =
    called_some c.args.self.now.nodes c.parent.ensures.once c.args.number c.requires c.args.callers.now c.note.new.self c.in-Some.parent
    (subst (IsAbove c.args.self.now.nodes (get_or c.args.self.now.nodes c.args.number [])) c.in-Some.is c.parent.ensures.above) c.in_ok-note-in-Some.ensures.ok

pub returns-in-None-clause-ok : goal.returns-in-None-clause-ok
returns-in-None-clause-ok c =
    called_none c.args.self.now.nodes c.parent.ensures.once c.args.number c.requires c.args.callers.now
    (subst (IsAbove c.args.self.now.nodes (get_or c.args.self.now.nodes c.args.number [])) c.in-None.is c.parent.ensures.above)
