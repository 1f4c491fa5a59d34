use Rattle.std.proofs.Common.{arith}
use Rattle.css_prune.proofs.GroupLemmas.{fate_told, all_fates}
use Rattle.css_prune.proofs.rules.fates_of.Goals as goal

pub rules-preserved : goal.rules-preserved
rules-preserved c =
    fate_told _ _ _ c.in-Some.range.now c.in-Some.later.now c.rules.items.now c.rules.flags.now c.rules.fates.gone.items c.rules.fates.cuts.items
    _ _ _ _ _ c.len.result c.leading_count-count.result _ _ c.rules.invariant c.in-Some.ensures.cases.0 c.leading_count-count.ensures.gives (omega (arith, c.len.ensures))
    c.split_at.ensures.front c.split_at.ensures.back c.split_at-in-Some.ensures.front c.split_at-in-Some.ensures.back c.in_ok-add_rule.ensures.gone c.in_ok-add_rule.ensures.cuts

pub returns-clause-gone : goal.returns-clause-gone
returns-clause-gone c = (all_fates _ _ _ _ _ _ _ _ c.rules.invariant c.in_default.ensures.cases).0

pub returns-clause-cuts : goal.returns-clause-cuts
returns-clause-cuts c = (all_fates _ _ _ _ _ _ _ _ c.rules.invariant c.in_default.ensures.cases).1
