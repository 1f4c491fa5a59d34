use Rattle.std.proofs.Common.{rules, ◌∙◌, sym, ap, ℕ}
use Rattle.std.proofs.lemmas.List.Sorted.{answers_always}
use Rattle.class_diagrams.specs.References.{Reference}
use Rattle.class_diagrams.specs.Arena.{tree_at}
use Rattle.diagram_ops.proofs.SearchLemmas.{searched_ok, searched_err}
use Rattle.diagram_ops.proofs.composing.diagram_of.Goals as goal

-- the closure gives an entry's atom
pub returns-in-Ok-clause-tree : goal.returns-in-Ok-clause-tree
returns-in-Ok-clause-tree c = λ branches.
    let facts = c.in-Ok.ensures in
    let found = facts.position (λ (e : ℕ × Reference). e.0) (answers_always _ _ _ (λ f a r g called. search rules)) in
    ap (λ (e : ℕ × Reference). tree_at branches e.1) (sym c.index-by-place.is)
    ∙ sym (searched_ok c.args.by.now c.requires c.args.atom branches c.in-Ok.place c.index-by-place.result facts.bound found c.index-by-place.is)

pub returns-in-Err-clause-tree : goal.returns-in-Err-clause-tree
returns-in-Err-clause-tree c = λ branches.
    let missed = c.in-Err.ensures.position (λ (e : ℕ × Reference). e.0) (answers_always _ _ _ (λ f a r g called. search rules)) in
    c.leaf.ensures.tree branches ∙ sym (searched_err c.args.by.now c.requires c.args.atom branches c.in-Err.field-0 missed)

pub returns-in-Err-clause-inside : goal.returns-in-Err-clause-inside
returns-in-Err-clause-inside c = λ branches each. c.leaf.ensures.inside branches
