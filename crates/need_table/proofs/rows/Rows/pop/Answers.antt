use Rattle.std.proofs.Common.{◌≡◌, ◌<◌, ◌-◌, ◌∷◌, [], length, sym, ap, ◌∙◌, arith, length-append}
use Rattle.need_table.specs.Rows.{row_in}
use Rattle.need_table.proofs.RowLemmas.{row_here, row_other, row_read, row_popped}
use Rattle.need_table.proofs.rows.Rows.pop.Goals as goal

pub returns-then-q-len-clause-popped : goal.returns-then-q-len-clause-popped
returns-then-q-len-clause-popped c = λ xs i is.
    let rows = c.self.inside.rows in
    let less : c.args.q < length rows.items = omega (arith, c.if-q-len.true, c.len.ensures, rows.ok.0) in
    let was : row_in c.args.self.now c.args.q ≡ c.index_mut.result.now.items = ap (λ z. row_in z c.args.q) (sym c.self.view_is) ∙ row_read (λ v. v.items) rows.items c.args.q c.index_mut.result.now less c.index_mut.ensures.value in
    row_here (λ v. v.items) rows.items c.args.q c.pop.new.self less
    ∙ row_popped c.index_mut.result.now.items c.pop.new.self.items xs i (c.index_mut.result.now.len - 1) c.pop.ensures.rest (omega (arith, ap length (sym was ∙ is), length-append xs (i ∷ []), c.index_mut.result.now.ok.0)) (sym was ∙ is)

pub returns-then-q-len-clause-others : goal.returns-then-q-len-clause-others
returns-then-q-len-clause-others c = λ p other.
    row_other (λ v. v.items) c.self.inside.rows.items c.args.q p c.pop.new.self other ∙ ap (λ z. row_in z p) c.self.view_is
