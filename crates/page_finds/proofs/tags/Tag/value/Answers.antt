use Rattle.std.proofs.Common.{sym, ◌∙◌}
use Rattle.page_finds.proofs.TagLists.{value_here, value_none}
use Rattle.page_finds.proofs.tags.Tag.value.Goals as goal

pub returns-then-is_same_name : goal.returns-then-is_same_name
returns-then-is_same_name c =
    value_here c.args.name.now c.deref-placed-items.result.now c.args.self.now.attributes.items c.attributes.placed-index _ _ c.deref-placed-items.ensures.value c.attributes-test.true
    c.attributes.invariant (sym c.is_same_name.ensures ∙ c.if-is_same_name.true)

pub returns : goal.returns
returns c =
    value_none c.args.name.now c.deref-placed-items.result.now c.args.self.now.attributes.items c.attributes.placed-index _ c.deref-placed-items.ensures.value c.attributes-test.false
    c.attributes.invariant
