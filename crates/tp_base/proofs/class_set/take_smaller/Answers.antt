use Rattle.std.proofs.Common.{Less, Equal, Greater}
use Rattle.std.specs.Cmp.{ranked}
use Rattle.tp_base.proofs.Walks.{union_of-left, union_of-less, union_of-same, union_of-more, rises_behind}
use Rattle.tp_base.proofs.class_set.take_smaller.Goals as goal

pub returns-in_err-x-clause-none : goal.returns-in_err-x-clause-none
returns-in_err-x-clause-none c = rw c.from_residual.ensures (union_of-left c.args.atoms.now c.args.others.now c.in_err-x.ensures.cases c.requires.others_rising)

pub returns-in-Less-clause-next : goal.returns-in-Less-clause-next
returns-in-Less-clause-next c =
    union_of-less c.args.atoms.now c.in_ok-x.x.now c.in_ok-x.left.now c.args.others.now c.in_ok-y.y.now c.in_ok-y.right.now
    c.in_ok-x.ensures.cases.0 c.in_ok-y.ensures.cases.0 c.requires.others_rising (ranked c.in_ok-x.x.now c.in_ok-y.y.now Less c.in-Less.ensures)

pub returns-in-Less-clause-left_rising : goal.returns-in-Less-clause-left_rising
returns-in-Less-clause-left_rising c = rises_behind c.args.atoms.now c.in_ok-x.x.now c.in_ok-x.left.now c.in_ok-x.ensures.cases.0 c.requires.rising

pub returns-in-Equal-clause-next : goal.returns-in-Equal-clause-next
returns-in-Equal-clause-next c =
    union_of-same c.args.atoms.now c.in_ok-x.x.now c.in_ok-x.left.now c.args.others.now c.in_ok-y.y.now c.in_ok-y.right.now
    c.in_ok-x.ensures.cases.0 c.in_ok-y.ensures.cases.0 c.requires.others_rising (ranked c.in_ok-x.x.now c.in_ok-y.y.now Equal c.in-Equal.ensures)

pub returns-in-Equal-clause-left_rising : goal.returns-in-Equal-clause-left_rising
returns-in-Equal-clause-left_rising c = rises_behind c.args.atoms.now c.in_ok-x.x.now c.in_ok-x.left.now c.in_ok-x.ensures.cases.0 c.requires.rising

pub returns-in-Equal-clause-right_rising : goal.returns-in-Equal-clause-right_rising
returns-in-Equal-clause-right_rising c = rises_behind c.args.others.now c.in_ok-y.y.now c.in_ok-y.right.now c.in_ok-y.ensures.cases.0 c.requires.others_rising

pub returns-in-Greater-clause-next : goal.returns-in-Greater-clause-next
returns-in-Greater-clause-next c =
    union_of-more c.args.atoms.now c.in_ok-x.x.now c.in_ok-x.left.now c.args.others.now c.in_ok-y.y.now c.in_ok-y.right.now
    c.in_ok-x.ensures.cases.0 c.in_ok-y.ensures.cases.0 c.requires.others_rising (ranked c.in_ok-x.x.now c.in_ok-y.y.now Greater c.in-Greater.ensures)

pub returns-in-Greater-clause-right_rising : goal.returns-in-Greater-clause-right_rising
returns-in-Greater-clause-right_rising c = rises_behind c.args.others.now c.in_ok-y.y.now c.in_ok-y.right.now c.in_ok-y.ensures.cases.0 c.requires.others_rising
