use Rattle.std.proofs.Common.{sym, ◌∙◌}
use Rattle.css_prune.proofs.NoneLemmas.{none_goes}
use Rattle.css_prune.proofs.cuts.push_gone_holders.Goals as goal

pub returns-then-none_can_go : goal.returns-then-none_can_go
returns-then-none_can_go c = none_goes c.args.text.now c.args.rules.now _ (sym c.none_can_go.ensures ∙ c.if-none_can_go.true)
