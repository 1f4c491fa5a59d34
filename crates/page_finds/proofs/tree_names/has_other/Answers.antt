use Rattle.std.proofs.Common.{◌≡◌, ◌<◌, ◌∙◌, true, false, length, sym, arith}
use Rattle.std.proofs.lemmas.Grind.{common_steps}
use Rattle.page_finds.proofs.TreeLists.{other_here, other_later}
use Rattle.page_finds.proofs.tree_names.has_other.Goals as goal

pub returns-then-not-is_among : goal.returns-then-not-is_among
returns-then-not-is_among c =
    let less : c.elements.index < length c.args.elements.now = omega (arith, c.elements-test.true, c.len.ensures.gives) in
    let other : c.is_among.result ≡ false = grind (arith, common_steps) in
    sym (other_here _ c.args.elements.now c.elements.index _ less (sym c.in-Some.ensures) (sym c.is_among.ensures ∙ other)) ∙ c.elements.invariant

pub elements-preserved : goal.elements-preserved
elements-preserved c =
    let less : c.elements.index < length c.args.elements.now = omega (arith, c.elements-test.true, c.len.ensures.gives) in
    let one : c.is_among.result ≡ true = grind (arith, common_steps) in
    sym (other_later _ c.args.elements.now c.elements.index _ less (sym c.in-Some.ensures) (sym c.is_among.ensures ∙ one)) ∙ c.elements.invariant
