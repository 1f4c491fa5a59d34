use Rattle.std.proofs.Common.{sym, ap, ◌∙◌}
use Rattle.css_prune.specs.Flags.{has_early_rule}
use Rattle.css_prune.proofs.PartLemmas.{early_begins, early_found, early_later, no_early}
use Rattle.css_prune.proofs.fixing.has_early_rule.Goals as goal

pub places-init : goal.places-init
places-init c = ap has_early_rule c.from_byte-rest.ensures.gives ∙ early_begins c.args.text.now

pub places-preserved : goal.places-preserved
places-preserved c =
    ap has_early_rule c.from_byte-next.ensures.gives
    ∙ early_later _ _ _ c.in-Some.ensures.cases.0 (sym c.begins_early_rule.ensures ∙ c.if-begins_early_rule.false)
    ∙ c.places.invariant

pub returns-then-begins_early_rule : goal.returns-then-begins_early_rule
returns-then-begins_early_rule c = sym (early_found _ _ _ c.in-Some.ensures.cases.0 (sym c.begins_early_rule.ensures ∙ c.if-begins_early_rule.true)) ∙ c.places.invariant

pub returns : goal.returns
returns c = sym (no_early _ c.in_default.ensures.cases) ∙ c.places.invariant
