use Rattle.class_adding.proofs.DueLemmas.{near_now, near_within, near_kept}
use Rattle.class_adding.proofs.due.add_near.Goals as goal

pub returns-in_ok-extend_from_slice-clause-kept : goal.returns-in_ok-extend_from_slice-clause-kept
returns-in_ok-extend_from_slice-clause-kept c =
    near_kept c.args.labels.now.nodes c.args.look.now c.args.due.now.items c.push.new.self.items c.add_parent.new.due.items c.extend_from_slice.new.self.items c.kids_told.result.now
    c.in_ok-push.ensures.items c.in_ok-extend_from_slice.ensures.items c.in_ok-add_parent.ensures.kept

pub returns-in_ok-extend_from_slice-clause-within : goal.returns-in_ok-extend_from_slice-clause-within
returns-in_ok-extend_from_slice-clause-within c =
    near_within c.args.labels.now.nodes c.args.look.now c.args.due.now.items c.push.new.self.items c.add_parent.new.due.items c.extend_from_slice.new.self.items c.kids_told.result.now
    c.in_ok-push.ensures.items c.in_ok-extend_from_slice.ensures.items c.requires.number c.in_ok-add_parent.ensures.within c.kids_told.ensures.within

pub returns-in_ok-extend_from_slice-clause-near : goal.returns-in_ok-extend_from_slice-clause-near
returns-in_ok-extend_from_slice-clause-near c = λ grew.
    near_now c.args.labels.now.nodes c.args.look.now c.args.due.now.items c.push.new.self.items c.add_parent.new.due.items c.extend_from_slice.new.self.items c.kids_told.result.now
    c.in_ok-push.ensures.items c.in_ok-extend_from_slice.ensures.items c.in_ok-add_parent.ensures.kept c.in_ok-add_parent.ensures.there c.kids_told.ensures.there
