use Rattle.std.proofs.Common.{◌∙◌}
use Rattle.pushdown_sym.proofs.CellRowLemmas.{put_ok, row_is}
use Rattle.pushdown_sym.proofs.cells.Cells.replace.Goals as goal

pub returns-clause-before : goal.returns-clause-before
returns-clause-before c =
    c.in_ok-before.ensures.before
    ∙ row_is c.reach.new.rows.items c.args.self.now c.atom.inside.0 c.args.atom c.index_mut-row.result.now (c.reach.ensures.same ∙ c.self.view_is) c.atom.view_is
    c.in_ok-reach.ensures.there c.index_mut-row.ensures.value c.args.kind

pub returns-clause-ok : goal.returns-clause-ok
returns-clause-ok c =
    put_ok c.reach.new.rows.items c.args.self.now c.atom.inside.0 c.args.atom c.args.kind c.args.to c.index_mut-row.result.now c.replace.new.self
    (c.reach.ensures.same ∙ c.self.view_is) c.atom.view_is c.in_ok-reach.ensures.there c.index_mut-row.ensures.value c.in_ok-before.ensures.ok
