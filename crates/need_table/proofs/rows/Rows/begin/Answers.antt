use Rattle.std.proofs.Common.{ap, ◌∙◌, map}
use Rattle.need_table.specs.Rows.{row_in}
use Rattle.need_table.proofs.RowLemmas.{row_begun}
use Rattle.need_table.proofs.rows.Rows.begin.Goals as goal

pub rows-preserved : goal.rows-preserved
rows-preserved c = λ p.
    ap (λ z. row_in (map (λ v. v.items) z) p) c.in_ok-push.ensures.items ∙ row_begun c.rows.self-inside.rows.items c.in_ok-row.row p c.in_ok-row.ensures.items ∙ c.rows.invariant p
