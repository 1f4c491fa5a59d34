use Rattle.std.proofs.Common.{◌≡◌, [], true, false, refl, sym, ◌∙◌}
use Rattle.class_diagrams.proofs.ReferenceLemmas.{leaf_everywhere}
use Rattle.class_diagrams.proofs.diagrams.gate_before.Goals as goal

pub returns-then-is-clause-rest : goal.returns-then-is-clause-rest
returns-then-is-clause-rest c = c.if-is.ensures.0 refl ∙ leaf_everywhere c.leaf.result false (c.leaf.ensures.inside []) (c.leaf.ensures.tree [])

pub returns-else-is-clause-none : goal.returns-else-is-clause-none
returns-else-is-clause-none c = λ none same.
    let wrong : false ≡ true = c.if-is.ensures.1 (same ∙ sym (leaf_everywhere c.leaf.result false (c.leaf.ensures.inside []) (c.leaf.ensures.tree []))) in
    cc
