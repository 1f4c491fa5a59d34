use Rattle.std.proofs.Common.{List, take, sym, subst}
use Rattle.tp_base.proofs.Lists.{take_next}
use Rattle.class_diagrams.specs.References.{Reference}
use Rattle.pushdown_sym.proofs.EndLemmas.{at_item}
use Rattle.saturation.specs.Tables.{noted_in}
use Rattle.saturation.specs.Waking.{CellName, by_rules, by_makers, AreAllMarked}
use Rattle.saturation.proofs.WakingLemmas.{each_of_more}
use Rattle.saturation.proofs.EndsLemmas.{all_marked_more}
use Rattle.saturation.proofs.waking.woken_by.Goals as goal

pub loop-change-preserved : goal.loop-change-preserved
loop-change-preserved c =
    let reads = c.args.reads.now in
    let item = c.change-item.result in
    let done = take c.loop-change.change-index c.args.changes.now in
    let at = at_item c.args.changes.now c.loop-change.change-index item c.loop-change-test.true c.change-item.is in (
      each_of_more (by_rules (noted_in reads.by_needs)) c.args.changes.now c.loop-change.change-index item c.loop-change.cells.items c.wake_one.new.cells.items at c.loop-change.invariant.0 c.in_ok-wake_one.ensures.cells,
      subst (λ (cs : List (CellName × Reference)). AreAllMarked c.args.count reads.looked cs c.wake_one.new.marks.items) (sym (take_next c.args.changes.now c.loop-change.change-index item at))
          (all_marked_more c.args.count reads.looked done item c.loop-change.marks.items c.wake_one.new.marks.items c.loop-change.invariant.1 c.in_ok-wake_one.ensures.marks),
      each_of_more (by_makers (noted_in reads.makers) (noted_in reads.by_child)) c.args.changes.now c.loop-change.change-index item c.loop-change.above.items c.wake_one.new.above.items at c.loop-change.invariant.2 c.in_ok-wake_one.ensures.above,
    )
