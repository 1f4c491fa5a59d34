use Rattle.std.proofs.Common.{sym, ◌∙◌}
use Rattle.css_prune.proofs.ListLemmas.{rule_kept, list_kept}
use Rattle.css_prune.proofs.rules.Fates.add_rule.Goals as goal

pub returns-then-all_stay-clause-gone : goal.returns-then-all_stay-clause-gone
returns-then-all_stay-clause-gone c = rule_kept _ _ c.args.unused.now _ (sym c.all_stay.ensures ∙ c.if-all_stay.true) c.in_ok-keep_rule.ensures.gone

pub returns-then-all_stay-clause-cuts : goal.returns-then-all_stay-clause-cuts
returns-then-all_stay-clause-cuts c = list_kept _ _ _ c.args.unused.now _ (sym c.all_stay.ensures ∙ c.if-all_stay.true) c.in_ok-keep_rule.ensures.cuts
