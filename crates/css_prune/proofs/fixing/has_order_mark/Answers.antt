use Rattle.std.proofs.Common.{sym, ap, ◌∙◌}
use Rattle.css_read.specs.Pruned.{has_order_mark}
use Rattle.css_prune.proofs.PartLemmas.{mark_begins, mark_found, mark_later, no_mark}
use Rattle.css_prune.proofs.fixing.has_order_mark.Goals as goal

pub places-init : goal.places-init
places-init c = ap has_order_mark c.from_byte-rest.ensures.gives ∙ mark_begins c.args.text.now

pub places-preserved : goal.places-preserved
places-preserved c =
    ap has_order_mark c.from_byte-next.ensures.gives
    ∙ mark_later _ _ _ c.in-Some.ensures.cases.0 (sym c.begins_order_mark.ensures ∙ c.if-begins_order_mark.false)
    ∙ c.places.invariant

pub returns-then-begins_order_mark : goal.returns-then-begins_order_mark
returns-then-begins_order_mark c = sym (mark_found _ _ _ c.in-Some.ensures.cases.0 (sym c.begins_order_mark.ensures ∙ c.if-begins_order_mark.true)) ∙ c.places.invariant

pub returns : goal.returns
returns c = sym (no_mark _ c.in_default.ensures.cases) ∙ c.places.invariant
