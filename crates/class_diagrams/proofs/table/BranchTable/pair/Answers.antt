use Rattle.std.proofs.Common.{sym, ◌∙◌}
use Rattle.class_diagrams.proofs.PairLemmas.{pair-leaf}
use Rattle.class_diagrams.proofs.table.BranchTable.pair.Goals as goal

pub returns-in-Branch-Leaf : goal.returns-in-Branch-Leaf
returns-in-Branch-Leaf c = pair-leaf c.args.self.now.branches c.args.f c.args.g c.in-Branch-Leaf.field-0-0 c.in-Branch-Leaf.value c.requires.arena.same
    (sym c.in-Branch-Leaf.is-0 ∙ c.target.ensures) (sym c.in-Branch-Leaf.is-1 ∙ c.target-2.ensures) c.requires.first
