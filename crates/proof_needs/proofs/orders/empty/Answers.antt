use Rattle.std.proofs.Common.{arith}
use Rattle.proof_needs.proofs.OrderLemmas.{none_more}
use Rattle.proof_needs.proofs.orders.empty.Goals as goal

pub loop-preserved : goal.loop-preserved
loop-preserved c = record {
  none = none_more c.loop.triples.items c.push.new.self.items _ c.in_ok-push.ensures.items c.new.ensures.items c.loop.invariant.none;
  count = omega (arith, c.in_ok-push.ensures.len, c.loop.invariant.count);
}

pub returns : goal.returns
returns c = λ wants. record {
  page = c.new-2.ensures.items;
  each = c.loop.invariant.none;
  count_is = omega (arith, c.loop.invariant.count, c.loop-test.false, c.loop.auto.counter-end);
}
