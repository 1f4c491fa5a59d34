use Rattle.std.proofs.Common.{None}
use Rattle.tree_sem.proofs.TableLemmas.{no_node, not_there, walked}
use Rattle.tree_sem.proofs.label_tree.Tree.graft.Goals as goal

pub unreachable-requires : goal.unreachable-requires
unreachable-requires c =
    let slots = c.self.inside.slots in
    let at = walked slots c.args.at.now c.len.result None c.len.ensures c.in_default.ensures.place in
    not_there _ (no_node slots c.self.invariant.forest c.args.at.now at) (rw (c.self.view_is) c.requires.is_node)
