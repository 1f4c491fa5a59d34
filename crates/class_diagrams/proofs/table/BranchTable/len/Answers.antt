use Rattle.std.proofs.Common.{arith}
use Rattle.class_diagrams.proofs.TableLemmas.{length-trees_of}
use Rattle.class_diagrams.proofs.table.BranchTable.len.Goals as goal

pub overflow_cast-result : goal.overflow_cast-result
overflow_cast-result c = let all = length-trees_of c.self.inside.nodes.keys in omega arith

pub returns-clause-len : goal.returns-clause-len
returns-clause-len c = rw (← c.self.view_is) (let all = length-trees_of c.self.inside.nodes.keys in omega arith)

pub returns-clause-arena : goal.returns-clause-arena
returns-clause-arena c = rw (← c.self.view_is) c.self.invariant.arena
