use Rattle.std.proofs.Common.{arith, Less, Equal, Greater}
use Rattle.std.specs.Cmp.{ranked}
use Rattle.class_diagrams.proofs.TableLemmas.{length-trees_of}
use Rattle.class_diagrams.proofs.PairLemmas.{pair-less, pair-more, pair-same, stored_node}
use Rattle.class_diagrams.proofs.table.BranchTable.split.Goals as goal

pub bounds-as_slice-first : goal.bounds-as_slice-first
bounds-as_slice-first c =
    let count = length-trees_of c.self.inside.nodes.keys in
    let first = rw (← c.self.view_is) at c.requires.first in
    rw c.as_slice.ensures.keys (omega arith)

pub bounds-as_slice-second : goal.bounds-as_slice-second
bounds-as_slice-second c =
    let count = length-trees_of c.self.inside.nodes.keys in
    let second = rw (← c.self.view_is) at c.requires.second in
    rw c.as_slice-2.ensures.keys (omega arith)

pub returns-in-Less : goal.returns-in-Less
returns-in-Less c = rw (← c.self.view_is, c.requires.is_first, c.requires.is_second) (pair-less c.self.inside.nodes.keys c.self.inside.limit c.args.first c.args.second c.index-as_slice-first.result c.index-as_slice-second.result
    c.self.invariant
    (stored_node c.self.inside.nodes.keys c.as_slice.result.now c.args.first c.index-as_slice-first.result c.as_slice.ensures.keys (rw (← c.self.view_is) at c.requires.first) c.index-as_slice-first.is)
    (stored_node c.self.inside.nodes.keys c.as_slice-2.result.now c.args.second c.index-as_slice-second.result c.as_slice-2.ensures.keys (rw (← c.self.view_is) at c.requires.second) c.index-as_slice-second.is)
    (ranked c.index-as_slice-first.result.atom c.index-as_slice-second.result.atom Less c.in-Less.ensures))

pub returns-in-Equal : goal.returns-in-Equal
returns-in-Equal c = rw (← c.self.view_is, c.requires.is_first, c.requires.is_second) (pair-same c.self.inside.nodes.keys c.self.inside.limit c.args.first c.args.second c.index-as_slice-first.result c.index-as_slice-second.result
    c.self.invariant
    (stored_node c.self.inside.nodes.keys c.as_slice.result.now c.args.first c.index-as_slice-first.result c.as_slice.ensures.keys (rw (← c.self.view_is) at c.requires.first) c.index-as_slice-first.is)
    (stored_node c.self.inside.nodes.keys c.as_slice-2.result.now c.args.second c.index-as_slice-second.result c.as_slice-2.ensures.keys (rw (← c.self.view_is) at c.requires.second) c.index-as_slice-second.is)
    (ranked c.index-as_slice-first.result.atom c.index-as_slice-second.result.atom Equal c.in-Equal.ensures))

pub returns-in-Greater : goal.returns-in-Greater
returns-in-Greater c = rw (← c.self.view_is, c.requires.is_first, c.requires.is_second) (pair-more c.self.inside.nodes.keys c.self.inside.limit c.args.first c.args.second c.index-as_slice-first.result c.index-as_slice-second.result
    c.self.invariant
    (stored_node c.self.inside.nodes.keys c.as_slice.result.now c.args.first c.index-as_slice-first.result c.as_slice.ensures.keys (rw (← c.self.view_is) at c.requires.first) c.index-as_slice-first.is)
    (stored_node c.self.inside.nodes.keys c.as_slice-2.result.now c.args.second c.index-as_slice-second.result c.as_slice-2.ensures.keys (rw (← c.self.view_is) at c.requires.second) c.index-as_slice-second.is)
    (ranked c.index-as_slice-first.result.atom c.index-as_slice-second.result.atom Greater c.in-Greater.ensures))
