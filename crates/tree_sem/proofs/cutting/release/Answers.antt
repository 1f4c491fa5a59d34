use Rattle.std.proofs.Common.{subst}
use Rattle.tree_sem.specs.Table.{tree_in}
use Rattle.tree_sem.specs.Trees.{count_of}
use Rattle.tree_sem.proofs.CutLemmas.{IsFreeing, freeing_begins, freeing_more}
use Rattle.tree_sem.proofs.cutting.release.Goals as goal

pub nodes-init : goal.nodes-init
nodes-init c = freeing_begins c.args.slots.now c.args.top c.requires.forest c.requires.loose

pub nodes-preserved : goal.nodes-preserved
nodes-preserved c =
    let start = c.args.slots.now in
    let total = count_of (tree_in start c.args.top) in
    freeing_more start c.nodes.slots c.take_last-next.new.slots total c.in-Some.place c.take_last-next.result (subst (IsFreeing start c.nodes.slots total) c.in-Some.is c.nodes.invariant) c.take_last-next.ensures.freed
