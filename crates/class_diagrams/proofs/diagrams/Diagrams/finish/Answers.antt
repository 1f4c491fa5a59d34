use Rattle.class_diagrams.proofs.CombinedLemmas.{parts_ordered, parts_right, task_right}
use Rattle.class_diagrams.proofs.Remembering.{remembering_further, remembering_more}
use Rattle.class_diagrams.proofs.diagrams.Diagrams.finish.Goals as goal

pub join-requires-clause-ordered : goal.join-requires-clause-ordered
join-requires-clause-ordered c =
    parts_ordered c.args.operation c.self.inside.table c.args.f c.args.g c.args.low c.args.high c.args.atom c.self.invariant.arena
    (rw (← c.self.view_is) at c.requires.first) (rw (← c.self.view_is) at c.requires.second) (rw (← c.self.view_is) at c.requires.parts)

pub invariant_of-self : goal.invariant_of-self
invariant_of-self c = remembering_further c.self.inside.table c.join.new.self c.self.inside.memo c.self.inside.variables c.join.ensures.stays c.join.ensures.arena c.self.invariant

pub invariant_of-self-2 : goal.invariant_of-self-2
invariant_of-self-2 c =
    remembering_more c.join.new.self c.self.inside.memo c.note.new.self c.self.inside.variables c.of.result c.in_ok-joined.joined c.note.ensures
    (task_right c.args.operation c.join.new.self c.args.f c.args.g c.in_ok-joined.joined c.of.result c.join.ensures.arena c.of.ensures
    (parts_right c.args.operation c.self.inside.table c.args.f c.args.g c.args.low c.args.high c.args.atom c.self.invariant.arena
    (rw (← c.self.view_is) at c.requires.first) (rw (← c.self.view_is) at c.requires.second) (rw (← c.self.view_is) at c.requires.parts)
    c.join.new.self c.in_ok-joined.joined c.in_ok-joined.ensures))
    (remembering_further c.self.inside.table c.join.new.self c.self.inside.memo c.self.inside.variables c.join.ensures.stays c.join.ensures.arena c.self.invariant)
