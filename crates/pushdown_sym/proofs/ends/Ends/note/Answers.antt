use Rattle.std.proofs.Common.{◌<◌, List, ℕ, [], length, sym, ap, subst, ◌∙◌}
use Rattle.std.proofs.lemmas.List.{get_or_default}
use Rattle.row_index.specs.Rows.{row_of}
use Rattle.pushdown_sym.proofs.EndLemmas.{end_noted, end_left, on_err}
use Rattle.pushdown_sym.proofs.ends.Ends.note.Goals as goal

pub returns-clause-ok : goal.returns-clause-ok
returns-clause-ok c =
    let mid = c.self.inside.rows.items in
    let row = c.index_mut-row.result.now in
    let less = subst (λ (z : List (List ℕ)). c.args.atom < length z) (sym c.self.view_is) c.in_ok-reach.ensures.there in
    end_noted c.args.self.now mid c.args.atom c.args.end row c.add.new.self
    (λ m. ap (λ (z : List (List ℕ)). row_of z m) c.self.view_is ∙ c.reach.ensures.same m) less
    (get_or_default mid c.args.atom [] row less ∙ sym c.index_mut-row.ensures.value) c.in_ok-add.ensures.ok

pub returns-in_err-add-clause-err : goal.returns-in_err-add-clause-err
returns-in_err-add-clause-err c =
    let mid = c.self.inside.rows.items in
    let row = c.index_mut-row.result.now in
    let less = subst (λ (z : List (List ℕ)). c.args.atom < length z) (sym c.self.view_is) c.in_ok-reach.ensures.there in
    on_err _ c.from_residual-in_err-add.result (end_left c.args.self.now mid c.args.atom row c.add.new.self
    (λ m. ap (λ (z : List (List ℕ)). row_of z m) c.self.view_is ∙ c.reach.ensures.same m) less
    (get_or_default mid c.args.atom [] row less ∙ sym c.index_mut-row.ensures.value) c.in_err-add.ensures.err)
