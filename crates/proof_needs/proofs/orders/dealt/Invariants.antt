use Rattle.std.proofs.Common.{length, map, take}
use Rattle.proof_needs.specs.declared.orders.Rank.{Rank}
use Rattle.proof_needs.specs.Orders.{AreFrom}
use Rattle.proof_needs.proofs.orders.dealt.Given as goal

abbrev pub invariant-loop-rank : goal.invariant-loop-rank
invariant-loop-rank l = AreFrom l.needs.wants.keys (length l.needs.triples.keys) (map (λ (r : Rank). r.want) (take l.rank-index l.ranks)) l.orders
