use Rattle.std.proofs.Common.{rules, ℕ}
use Rattle.std.proofs.lemmas.List.Sorted.{answers_always}
use Rattle.class_diagrams.specs.References.{Reference}
use Rattle.pushdown_sym.proofs.CellRowLemmas.{searched_ok, searched_err}
use Rattle.pushdown_sym.proofs.cell_rows.place_of.Goals as goal

pub returns-then-is_behind-clause-gap : goal.returns-then-is_behind-clause-gap
returns-then-is_behind-clause-gap c = c.is_behind.ensures c.if-is_behind.true

pub returns-then-is_at-clause-found : goal.returns-then-is_at-clause-found
returns-then-is_at-clause-found c = c.is_at.ensures c.if-is_at.true

-- the closure gives an entry's kind
pub returns-clause-found : goal.returns-clause-found
returns-clause-found c =
    searched_ok c.args.cells.now c.requires c.args.kind c.binary_search_by_key.result c.binary_search_by_key.ensures.bound
    (c.binary_search_by_key.ensures.position (λ (e : ℕ × Reference). e.0) (answers_always _ _ _ (λ f a r g called. search rules)))

pub returns-clause-gap : goal.returns-clause-gap
returns-clause-gap c =
    searched_err c.args.cells.now c.requires c.args.kind c.binary_search_by_key.result c.binary_search_by_key.ensures.bound
    (c.binary_search_by_key.ensures.position (λ (e : ℕ × Reference). e.0) (answers_always _ _ _ (λ f a r g called. search rules)))
