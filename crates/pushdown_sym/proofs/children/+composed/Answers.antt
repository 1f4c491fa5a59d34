use Rattle.std.proofs.Common.{arith}
use Rattle.pushdown_sym.proofs.AddLemmas.{cells_in}
use Rattle.pushdown_sym.proofs.SmallLemmas.{low_less, low_missed, high_there, high_less, high_missed, small_whole}
use Rattle.pushdown_sym.proofs.children.+composed.Goals as goal

pub composed-requires : goal.composed-requires
composed-requires t c =
    let less = low_less c.args.d.now c.args.now.now c.args.kind c.args.f c.in_Some-d.branch.0 c.in_Some-d.branch.1 c.in_Some-d.branch.2 c.requires.arena c.requires.inside c.in_Some-d.ensures.low c.in_Some-d.ensures.high c.in_Some-d.ensures.tree in
    (omega (arith, less, c.decreases), (c.requires.inside, (c.in_Some-d.ensures.low, (c.requires.arena, omega (arith, less, c.requires.small)))))

pub returns-in_err-by_low-in_Some-d : goal.returns-in_err-by_low-in_Some-d
returns-in_err-by_low-in_Some-d t c =
    low_missed c.args.d.now c.args.now.now c.args.kind c.args.f c.in_Some-d.branch.0 c.in_Some-d.branch.1 c.in_Some-d.branch.2 c.requires.arena c.requires.inside c.in_Some-d.ensures.low c.in_Some-d.ensures.high c.in_Some-d.ensures.tree
    c.composed.new.d c.from_residual.result c.in_err-by_low-in_Some-d.field-0.0 c.from_residual.ensures.1 c.in_err-by_low-in_Some-d.ensures

pub composed-requires-in_Some-d : goal.composed-requires-in_Some-d
composed-requires-in_Some-d t c =
    let less = high_less c.args.d.now c.args.now.now c.args.kind c.args.f c.in_Some-d.branch.0 c.in_Some-d.branch.1 c.in_Some-d.branch.2 c.requires.arena c.requires.inside c.in_Some-d.ensures.low c.in_Some-d.ensures.high c.in_Some-d.ensures.tree
    c.composed.new.d c.in_ok-by_low-in_Some-d.by_low c.in_ok-by_low-in_Some-d.ensures in
    let there = high_there c.args.d.now c.args.now.now c.args.kind c.args.f c.in_Some-d.branch.0 c.in_Some-d.branch.1 c.in_Some-d.branch.2 c.requires.arena c.requires.inside c.in_Some-d.ensures.low c.in_Some-d.ensures.high c.in_Some-d.ensures.tree
    c.composed.new.d c.in_ok-by_low-in_Some-d.by_low c.in_ok-by_low-in_Some-d.ensures in (
      omega (arith, less, c.decreases),
      (cells_in c.args.d.now.branches c.composed.new.d.branches c.args.now.now c.in_ok-by_low-in_Some-d.ensures.brings.stays c.requires.inside, (there, (c.in_ok-by_low-in_Some-d.ensures.brings.arena, omega (arith, less, c.requires.small)))),
    )

pub returns-in_err-by_high-in_Some-d : goal.returns-in_err-by_high-in_Some-d
returns-in_err-by_high-in_Some-d t c =
    high_missed c.args.d.now c.args.now.now c.args.kind c.args.f c.in_Some-d.branch.0 c.in_Some-d.branch.1 c.in_Some-d.branch.2 c.requires.arena c.requires.inside c.in_Some-d.ensures.low c.in_Some-d.ensures.high c.in_Some-d.ensures.tree
    c.composed.new.d c.in_ok-by_low-in_Some-d.by_low c.in_ok-by_low-in_Some-d.ensures
    c.composed-in_Some-d.new.d c.from_residual-in_err-by_high-in_Some-d.result c.in_err-by_high-in_Some-d.field-0.0 c.from_residual-in_err-by_high-in_Some-d.ensures.1 c.in_err-by_high-in_Some-d.ensures

pub returns-in_ok-by_high-in_Some-d : goal.returns-in_ok-by_high-in_Some-d
returns-in_ok-by_high-in_Some-d t c =
    small_whole c.args.d.now c.args.now.now c.args.kind c.args.f c.in_Some-d.branch.0 c.in_Some-d.branch.1 c.in_Some-d.branch.2 c.requires.arena c.requires.inside c.in_Some-d.ensures.low c.in_Some-d.ensures.high c.in_Some-d.ensures.tree
    c.composed.new.d c.in_ok-by_low-in_Some-d.by_low c.in_ok-by_low-in_Some-d.ensures
    c.composed-in_Some-d.new.d c.in_ok-by_high-in_Some-d.by_high c.in_ok-by_high-in_Some-d.ensures
    c.get-put.result c.get-put.ensures c.joined.new.d c.joined.result c.joined.ensures
