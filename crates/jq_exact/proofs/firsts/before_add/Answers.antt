use Rattle.std.proofs.Common.{map}
use Rattle.sel_text.specs.Views.{selector_of}
use Rattle.jq_exact.proofs.FirstLemmas.{before_add}
use Rattle.jq_exact.proofs.firsts.before_add.Goals as goal

pub returns : goal.returns
returns c =
    before_add c.args.tree.now (map selector_of c.args.selectors.now) c.in_ok-matched.matched c.args.least.now.ranks c.in_ok-added.added c.in_ok-ranks.ranks c.args.least.now.of_none c.least_rank.result c.min-of_none.result
    c.in_ok-matched.ensures c.in_ok-added.ensures c.least_rank.ensures c.min-of_none.ensures c.in_ok-ranks.ensures
