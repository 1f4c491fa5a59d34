use Rattle.std.proofs.Common.{subst, sym}
use Rattle.prune_rows.proofs.FlagLemmas.{AreFlags, none_yet, one_flag, all_flags}
use Rattle.prune_rows.proofs.flags.flags_of.Goals as goal

pub items-init : goal.items-init
items-init c = subst (AreFlags c.args.items.now c.args.items.now) (sym c.new-flags.ensures.items) (none_yet c.args.items.now)

pub items-preserved : goal.items-preserved
items-preserved c = one_flag _ _ _ c.in-Some.item.now _ _ _ c.items.invariant c.in-Some.ensures.cases.0 c.is_unused-goes.ensures c.in_ok-push.ensures.items

pub returns-clause-count : goal.returns-clause-count
returns-clause-count c = (all_flags _ _ _ c.items.invariant c.in_default.ensures.cases).0

pub returns-clause-judged : goal.returns-clause-judged
returns-clause-judged c = (all_flags _ _ _ c.items.invariant c.in_default.ensures.cases).1
