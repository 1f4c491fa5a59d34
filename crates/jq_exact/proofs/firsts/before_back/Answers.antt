use Rattle.jq_stmts.specs.Views.{call_of}
use Rattle.jq_stmts.specs.SharpViews.{with_kind}
use Rattle.jq_exact.proofs.FirstLemmas.{before_back}
use Rattle.jq_exact.proofs.firsts.before_back.Goals as goal

pub returns : goal.returns
returns c =
    before_back c.args.tree.now (with_kind (call_of c.args.call.now) c.args.kind) c.args.least.now.ranks c.args.least.now.of_none c.in_ok-made.made c.in_ok-ranks.ranks c.requires c.in_ok-made.ensures c.in_ok-ranks.ensures
