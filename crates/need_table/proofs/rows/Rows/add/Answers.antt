use Rattle.std.proofs.Common.{◌≡◌, ◌<◌, length, sym, ap, ◌∙◌, arith}
use Rattle.std.proofs.lemmas.List.{length-map}
use Rattle.need_table.specs.Rows.{row_in}
use Rattle.need_table.proofs.RowLemmas.{row_here, row_other, row_read, added_of}
use Rattle.need_table.proofs.rows.Rows.add.Goals as goal

pub returns-clause-added : goal.returns-clause-added
returns-clause-added c =
    let rows = c.self.inside.rows in
    let less : c.args.q < length rows.items = omega (arith, c.in_ok-begin.ensures.begun, ap length c.self.view_is, length-map rows.items (λ v. v.items)) in
    let was : row_in c.begin.new.self c.args.q ≡ c.index_mut.result.now.items = ap (λ z. row_in z c.args.q) (sym c.self.view_is) ∙ row_read (λ v. v.items) rows.items c.args.q c.index_mut.result.now less c.index_mut.ensures.value in
    added_of (row_in c.args.self.now c.args.q) _ c.index_mut.result.now.items c.push_once.new.row.items c.args.place (sym was ∙ c.in_ok-begin.ensures.same c.args.q)
    (row_here (λ v. v.items) rows.items c.args.q c.push_once.new.row less) c.in_ok-push_once.ensures

pub returns-clause-others : goal.returns-clause-others
returns-clause-others c = λ p other.
    row_other (λ v. v.items) c.self.inside.rows.items c.args.q p c.push_once.new.row other ∙ ap (λ z. row_in z p) c.self.view_is ∙ c.in_ok-begin.ensures.same p
