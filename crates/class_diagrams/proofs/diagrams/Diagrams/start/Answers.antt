use Rattle.std.proofs.Common.{refl, sym, subst}
use Rattle.class_diagrams.specs.Starts.{IsStart}
use Rattle.class_diagrams.proofs.Remembering.{remembering_fewer}
use Rattle.class_diagrams.proofs.CombinedLemmas.{gives_leaf, gives_itself, gives_known, operation_right}
use Rattle.class_diagrams.proofs.diagrams.Diagrams.start.Goals as goal
use Rattle.class_diagrams.proofs.diagrams.Diagrams.start.Goals.{in-Some, in-None}

pub returns-then-same-clause-start : goal.returns-then-same-clause-start
returns-then-same-clause-start c = rw (← c.self.view_is)
    (gives_itself c.args.operation c.self.inside.table c.args.f c.args.g c.self.invariant.arena (rw (← c.self.view_is) at c.requires.first)
    (c.self.invariant.arena.same c.args.f c.args.g (rw (← c.self.view_is) at c.requires.first) (rw (← c.self.view_is) at c.requires.second) (c.if-same.ensures.0 refl)))

pub returns-in-WithLeaf-clause-start : goal.returns-in-WithLeaf-clause-start
returns-in-WithLeaf-clause-start c = rw (← c.self.view_is)
    (gives_leaf c.args.operation c.self.inside.table c.args.f c.args.g c.self.invariant.arena c.in-WithLeaf.value c.in-WithLeaf.other c.with_leaf.result c.in-WithLeaf.ensures c.with_leaf.ensures)

pub returns-after-recall-clause-start : goal.returns-after-recall-clause-start
returns-after-recall-clause-start c = elim c.match-recall.branch [
  | in-Some w ↦ subst (IsStart c.args.operation c.self.inside.table c.args.f c.args.g) (sym w.result-is)
      (gives_known c.args.operation c.self.inside.table c.args.f c.args.g c.self.invariant.arena w.in-Some.known
      (operation_right c.args.operation c.self.inside.table c.args.f c.args.g w.in-Some.known c.of.result c.self.invariant.arena c.of.ensures (c.self.invariant.right _ w.in-Some.ensures.known)))
  | in-None w ↦ subst (IsStart c.args.operation c.self.inside.table c.args.f c.args.g) (sym w.result-is) c.in-Branches.ensures
]

pub invariant_of-self : goal.invariant_of-self
invariant_of-self c = remembering_fewer c.self.inside.table c.self.inside.memo c.recall.new.self c.self.inside.variables c.recall.ensures.old c.self.invariant
