use Rattle.std.proofs.Common.{◌<◌, ◌++◌, sym, subst}
use Rattle.tree_sem.proofs.CopyLemmas.{IsCopying, turns, copying_begins, copying_more, stopped_table, stopped_stays}
use Rattle.tree_sem.proofs.TableLemmas.{place_there}
use Rattle.tree_sem.proofs.copying.copy_below.Goals as goal

pub nodes-init : goal.nodes-init
nodes-init c = λ p at. copying_begins c.args.slots.now c.args.source.now p c.args.top c.requires.table c.requires.source at c.requires.bare c.requires.label

pub copy_next-requires-clause-to : goal.copy_next-requires-clause-to
copy_next-requires-clause-to c =
    let here = c.requires.here in
    let now = subst (IsCopying c.args.slots.now c.nodes.slots c.args.source.now here.0) c.in-Some.is (c.nodes.invariant here.0 here.1) in
    place_there c.nodes.slots now.table.forest (here.0 ++ now.at.0) c.in-Some.to now.at.2

pub copy_next-requires-clause-from : goal.copy_next-requires-clause-from
copy_next-requires-clause-from c =
    let here = c.requires.here in
    let now = subst (IsCopying c.args.slots.now c.nodes.slots c.args.source.now here.0) c.in-Some.is (c.nodes.invariant here.0 here.1) in
    place_there c.args.source.now c.requires.source.forest now.at.0 c.in-Some.from now.at.1

pub returns-in_err-next-clause-table : goal.returns-in_err-next-clause-table
returns-in_err-next-clause-table c =
    let here = c.requires.here in
    stopped_table c.args.slots.now c.nodes.slots c.copy_next.new.slots c.args.source.now here.0 c.nodes.next c.in-Some.to (c.nodes.invariant here.0 here.1) c.in_err-next.ensures.err

pub returns-in_err-next-clause-stays : goal.returns-in_err-next-clause-stays
returns-in_err-next-clause-stays c =
    let here = c.requires.here in
    stopped_stays c.args.slots.now c.nodes.slots c.copy_next.new.slots c.args.source.now here.0 c.nodes.next c.in-Some.to (c.nodes.invariant here.0 here.1) c.in_err-next.ensures.err

pub nodes-smaller : goal.nodes-smaller
nodes-smaller c =
    let here = c.requires.here in
    let start = c.args.slots.now in
    let source = c.args.source.now in
    let now = subst (IsCopying start c.nodes.slots source here.0) c.in-Some.is (c.nodes.invariant here.0 here.1) in
    let more = (copying_more start source here.0 c.args.top c.requires.table c.requires.source here.1 c.requires.room c.nodes.slots c.copy_next.new.slots c.in-Some.to c.in-Some.from c.in_ok-next.next now c.in_ok-next.ensures.ok).1 in
    subst (λ o. turns start c.copy_next.new.slots source c.in_ok-next.next < turns start c.nodes.slots source o) (sym c.in-Some.is) more

pub nodes-preserved : goal.nodes-preserved
nodes-preserved c = λ p at.
    let start = c.args.slots.now in
    let source = c.args.source.now in
    let now = subst (IsCopying start c.nodes.slots source p) c.in-Some.is (c.nodes.invariant p at) in
    (copying_more start source p c.args.top c.requires.table c.requires.source at c.requires.room c.nodes.slots c.copy_next.new.slots c.in-Some.to c.in-Some.from c.in_ok-next.next now c.in_ok-next.ensures.ok).0
