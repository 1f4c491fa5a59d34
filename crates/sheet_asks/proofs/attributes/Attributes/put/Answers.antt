use Rattle.std.proofs.Common.{◌∙◌, ap, map}
use Rattle.sheet_asks.proofs.AttributeSteps.{seen_inserted, put_back}
use Rattle.sheet_asks.proofs.attributes.Attributes.put.Goals as goal

pub returns : goal.returns
returns c = put_back c.args.self.now c.taken.new.self _ _ c.args.text.now c.parts_of.result.0.now c.in_ok-values.values _ _
    c.in_ok-values.ensures.left c.in_ok-values.ensures.taken c.in_ok-put_value.ensures c.parts_of.ensures.name c.parts_of.ensures.value c.self.view_is
    (ap (map (λ e. (e.0.now, e.1))) c.in_ok-insert.ensures.entries ∙ seen_inserted (λ k. k.now) c.self.inside.sets.entries c.parts_of.result.0 _)
