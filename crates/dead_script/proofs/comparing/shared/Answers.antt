use Rattle.std.proofs.Common.{refl, arith}
use Rattle.dead_script.proofs.ComparingLemmas.{one_same}
use Rattle.dead_script.proofs.comparing.shared.Goals as goal

pub items-preserved : goal.items-preserved
items-preserved g c = record {
  in_first = omega (arith, c.items-test.true);
  in_second = omega (arith, c.if-count-second.true);
  same = one_same g.T.Compared.seen c.args.first.now c.args.second.now c.items.count c.index-first-count.result c.index-second-count.result (omega (arith, c.items-test.true)) (omega (arith, c.if-count-second.true)) c.index-first-count.is c.index-second-count.is (c.if-not-is_surely_same.ensures refl) c.items.invariant.same;
}
