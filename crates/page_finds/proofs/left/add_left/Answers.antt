use Rattle.std.proofs.Common.{length, sym, ◌∙◌}
use Rattle.std.proofs.lemmas.Bool.{ltb-false}
use Rattle.html_table.specs.Views.{element_of}
use Rattle.page_finds.proofs.LeftSteps.{left_here, no_tag, tag_at}
use Rattle.page_finds.proofs.left.add_left.Goals as goal

pub returns-in_default-get : goal.returns-in_default-get
returns-in_default-get c =
    sym (no_tag c.elements.found.items c.args.by_end c.elements.index c.args.elements.now c.args.tags.now (ltb-false c.elements.index (length c.args.tags.now) (sym c.in_default-get.ensures.lookup.0)))
    ∙ c.elements.invariant

pub elements-preserved : goal.elements-preserved
elements-preserved c =
    left_here c.elements.found.items c.add_left_at.new.found.items c.args.by_end c.elements.index c.args.elements.now c.args.tags.now (element_of c.in-Some.element) c.in-Some-get.tag.now (sym c.in-Some.ensures)
    (tag_at c.args.tags.now c.elements.index c.in-Some-get.tag.now c.in-Some-get.ensures.lookup.0 c.in-Some-get.ensures.lookup.1) c.in_ok-add_left_at.ensures
    ∙ c.elements.invariant
