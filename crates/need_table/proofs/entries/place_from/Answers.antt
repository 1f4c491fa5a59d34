use Rattle.std.proofs.Common.{arith, length}
use Rattle.need_table.proofs.OrderLemmas.{order_before, place_before, place_behind, place_none}
use Rattle.need_table.proofs.entries.place_from.Goals as goal

pub last-preserved : goal.last-preserved
last-preserved c =
    let rest = c.last.rest.now in
    let others = c.in-Some.others.now in
    let last = c.in-Some.last.now in
    let split = c.in-Some.ensures.cases.0 in
    record {
      order = order_before rest others last split c.last.invariant.order;
      whole = λ m found. c.last.invariant.whole m (place_before rest others last c.args.round m split (omega (arith, c.if-last-round.false)) found);
    }

pub search-requires : goal.search-requires
search-requires c = order_before c.last.rest.now c.in-Some.others.now c.in-Some.last.now c.in-Some.ensures.cases.0 c.last.invariant.order

pub returns-then-last-round : goal.returns-then-last-round
returns-then-last-round c =
    let rest = c.last.rest.now in
    c.last.invariant.whole (length rest) (place_behind rest c.in-Some.others.now c.in-Some.last.now c.args.round c.in-Some.ensures.cases.0 c.last.invariant.order (omega (arith, c.if-last-round.true)))

pub returns-then-left-eq0 : goal.returns-then-left-eq0
returns-then-left-eq0 c =
    c.last.invariant.whole c.search.result (place_before c.last.rest.now c.in-Some.others.now c.in-Some.last.now c.args.round c.search.result c.in-Some.ensures.cases.0 (omega (arith, c.if-last-round.false)) c.search.ensures)

pub returns : goal.returns
returns c = c.last.invariant.whole 0 (place_none c.last.rest.now c.args.round c.in_default.ensures.cases)
