use Rattle.std.proofs.Common.{IfOk, subst}
use Rattle.jq_stmts.specs.Sharp.{ExactCall}
use Rattle.jq_exact.specs.Firsts.{AreBefore}
use Rattle.jq_exact.proofs.BackLemmas.{add_kind, parted_back}
use Rattle.jq_exact.proofs.firsts.before_call.Goals as goal

pub returns-in-Add : goal.returns-in-Add
returns-in-Add c =
    subst (λ (x : ExactCall). IfOk c.before_add.result (λ m. AreBefore c.args.tree.now x c.args.least.now.ranks c.args.least.now.of_none m.ranks m.of_none))
    (add_kind c.args.call.now c.in-Add.selectors c.items.result.now c.items.ensures c.in-Add.is c.args.kind) c.before_add.ensures

pub before_back-requires : goal.before_back-requires
before_back-requires c = parted_back c.args.call.now c.args.kind c.in_default.not-Add c.requires
