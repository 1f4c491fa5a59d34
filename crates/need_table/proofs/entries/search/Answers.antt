use Rattle.std.proofs.Common.{nat_lt, rules, of_calls}
use Rattle.std.proofs.lemmas.Fn.{always_returns_same}
use Rattle.simple_core.specs.declared.summaries.First.{First}
use Rattle.need_table.proofs.OrderLemmas.{parted, place_found}
use Rattle.need_table.proofs.entries.search.Goals as goal

pub returns : goal.returns
returns c =
    place_found c.args.firsts.now c.args.round c.partition_point.result c.partition_point.ensures.bound
    (c.partition_point.ensures.partitioned (λ (f : First). nat_lt f.round c.args.round) (always_returns_same _ _ _ (λ a r f k. search (rules, of_calls))) (parted c.args.firsts.now c.args.round c.requires))
