use Rattle.std.proofs.Common.{Ok}
use Rattle.class_diagrams.proofs.Remembering.{remembering_further, remembering_noted, gives_variable}
use Rattle.class_diagrams.proofs.diagrams.Diagrams.make_variable.Goals as goal

pub join-requires-clause-low_in : goal.join-requires-clause-low_in
join-requires-clause-low_in c = c.leaf.ensures.inside c.self.inside.table.branches

pub join-requires-clause-high_in : goal.join-requires-clause-high_in
join-requires-clause-high_in c = c.leaf-2.ensures.inside c.self.inside.table.branches

pub invariant_of-self : goal.invariant_of-self
invariant_of-self c = remembering_further c.self.inside.table c.join.new.self c.self.inside.memo c.self.inside.variables c.join.ensures.stays c.join.ensures.arena c.self.invariant

pub invariant_of-self-2 : goal.invariant_of-self-2
invariant_of-self-2 c =
    let made = gives_variable c.self.inside.table c.join.new.self c.args.atom c.leaf.result c.leaf-2.result (Ok c.in_ok-joined.joined)
    (c.leaf.ensures.tree c.self.inside.table.branches) (c.leaf-2.ensures.tree c.self.inside.table.branches) c.in_ok-joined.ensures in
    remembering_noted c.join.new.self c.self.inside.memo c.self.inside.variables c.note.new.self c.args.atom c.in_ok-joined.joined c.note.ensures.only made.answer.0 made.answer.1
    (remembering_further c.self.inside.table c.join.new.self c.self.inside.memo c.self.inside.variables c.join.ensures.stays c.join.ensures.arena c.self.invariant)
