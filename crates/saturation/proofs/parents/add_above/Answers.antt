use Rattle.std.proofs.Common.{List, ◌++◌, take, sym, subst, ap, ◌∙◌}
use Rattle.std.proofs.lemmas.List.{take_all}
use Rattle.tp_base.proofs.Lists.{take_next}
use Rattle.pushdown_sym.specs.CellMap.{trees_in}
use Rattle.saturation.specs.Waking.{CellName, with_atom, AreAbove}
use Rattle.pushdown_sym.proofs.EndLemmas.{at_item}
use Rattle.saturation.proofs.WakingLemmas.{above_none, above_more}
use Rattle.saturation.proofs.parents.add_above.Goals as goal

pub loop-pair-init : goal.loop-pair-init
loop-pair-init c branches = above_none (trees_in branches c.args.now.now) c.args.count c.args.todo.now.items

pub loop-pair-preserved : goal.loop-pair-preserved
loop-pair-preserved c branches =
    let now = trees_in branches c.args.now.now in
    let pair = c.pair-item.result in
    subst (λ (done : List CellName). AreAbove now c.args.count done c.args.todo.now.items c.add_atom.new.todo.items)
    (sym (take_next c.args.pairs.now c.loop-pair.pair-index pair (at_item c.args.pairs.now c.loop-pair.pair-index pair c.loop-pair-test.true c.pair-item.is)))
    (above_more now c.args.count (take c.loop-pair.pair-index c.args.pairs.now) pair c.in_ok-makers.makers.items (c.in_ok-makers.ensures branches)
    c.args.todo.now.items c.loop-pair.todo.items c.add_atom.new.todo.items
    (c.in_ok-add_atom.ensures ∙ ap (λ ks. c.loop-pair.todo.items ++ with_atom pair.1 ks) c.deref.ensures.value) (c.loop-pair.invariant branches))

pub returns : goal.returns
returns c branches =
    subst (λ (done : List CellName). AreAbove (trees_in branches c.args.now.now) c.args.count done c.args.todo.now.items c.loop-pair.todo.items)
    (take_all c.loop-pair.pair-index c.args.pairs.now c.loop-pair-test.false) (c.loop-pair.invariant branches)
