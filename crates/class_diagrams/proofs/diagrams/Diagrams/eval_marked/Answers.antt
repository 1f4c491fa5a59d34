use Rattle.std.proofs.Common.{◌∙◌, refl}
use Rattle.class_diagrams.proofs.ArenaLemmas.{leaf_value}
use Rattle.class_diagrams.proofs.diagrams.Diagrams.eval_marked.Goals as goal

pub returns : goal.returns
returns c = rw (← c.self.view_is)
    (leaf_value c.self.inside.table.branches c.loop-atom.at c.leaf.result c.is.result c.args.marks.now c.self.invariant.arena.same c.loop-atom.invariant.inside
    (c.leaf.ensures.inside c.self.inside.table.branches) (c.leaf.ensures.tree c.self.inside.table.branches) c.is.ensures
    (c.in_default-atom.ensures.leaf.0 refl) ∙ c.loop-atom.invariant.same)
