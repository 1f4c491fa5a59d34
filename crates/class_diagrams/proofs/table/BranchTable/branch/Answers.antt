use Rattle.std.proofs.Common.{subst}
use Rattle.std.proofs.lemmas.Bool.{false≢true}
use Rattle.class_diagrams.specs.Arena.{IsArena}
use Rattle.class_diagrams.proofs.ArenaLemmas.{no_leaf_there}
use Rattle.class_diagrams.proofs.TableLemmas.{branch_there, number_within}
use Rattle.class_diagrams.proofs.table.BranchTable.branch.Goals as goal

pub returns-in_err-node-in-Branch-clause-leaf : goal.returns-in_err-node-in-Branch-clause-leaf
returns-in_err-node-in-Branch-clause-leaf c =
    let within = number_within c.self.inside.nodes.keys c.args.f c.in-Branch.number c.in-Branch.ensures (rw (← c.self.view_is) at c.requires) in
    absurd (false≢true (c.in_err-node-in-Branch.ensures.found.1 within))

pub returns-in_ok-node-in-Branch-clause-leaf : goal.returns-in_ok-node-in-Branch-clause-leaf
returns-in_ok-node-in-Branch-clause-leaf c = no_leaf_there c.args.self.now.branches c.args.f c.in-Branch.number (subst IsArena c.self.view_is c.self.invariant.arena).same c.in-Branch.ensures c.requires

pub returns-in_ok-node-in-Branch-clause-tree : goal.returns-in_ok-node-in-Branch-clause-tree
returns-in_ok-node-in-Branch-clause-tree c = rw (← c.self.view_is)
    (branch_there c.self.inside.nodes.keys c.self.inside.limit c.args.f c.in-Branch.number c.in_ok-node-in-Branch.node.now c.self.invariant c.in-Branch.ensures c.in_ok-node-in-Branch.ensures.key)
