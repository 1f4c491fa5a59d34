use Rattle.jq_exact.proofs.FirstLemmas.{least_none}
use Rattle.jq_exact.proofs.firsts.own.Goals as goal

pub returns : goal.returns
returns c = least_none c.args.tree.now c.in_ok-ranks.ranks c.count-of_none.result c.in_ok-ranks.ensures c.count-of_none.ensures
