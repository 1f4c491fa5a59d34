use Rattle.std.proofs.Common.{◌≡◌, take}
use Rattle.saturation.specs.Tables.{noted_in}
use Rattle.saturation.specs.Waking.{by_rules, by_makers, of_each, AreAllMarked}
use Rattle.saturation.proofs.waking.woken_by.Given as goal

abbrev pub invariant-loop-change : goal.invariant-loop-change
invariant-loop-change l = (l.cells.items ≡ of_each (by_rules (noted_in l.reads.by_needs)) (take l.change-index l.changes))
    × AreAllMarked l.count l.reads.looked (take l.change-index l.changes) l.marks.items
    × (l.above.items ≡ of_each (by_makers (noted_in l.reads.makers) (noted_in l.reads.by_child)) (take l.change-index l.changes))
