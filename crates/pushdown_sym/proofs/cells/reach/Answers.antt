use Rattle.std.proofs.Common.{[], ◌∷◌, ◌++◌, ap, ◌∙◌}
use Rattle.pushdown_sym.specs.CellRows.{KindRow, entries_of}
use Rattle.pushdown_sym.proofs.CellRowLemmas.{same_longer}
use Rattle.pushdown_sym.proofs.cells.reach.Goals as goal

pub rows-preserved : goal.rows-preserved
rows-preserved c =
    ap entries_of (c.in_ok-push.ensures.items ∙ ap (λ (row : KindRow). c.rows.rows.items ++ row ∷ []) c.new.ensures)
    ∙ same_longer c.rows.rows.items ∙ c.rows.invariant
