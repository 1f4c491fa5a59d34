use Rattle.std.proofs.Common.{sym, ap, ◌∙◌}
use Rattle.pushdown_sym.specs.CellRows.{entries_of}
use Rattle.pushdown_sym.proofs.CellRowLemmas.{row_read, row_past}
use Rattle.pushdown_sym.proofs.cells.Cells.kinds_with.Goals as goal

pub returns-in-Some : goal.returns-in-Some
returns-in-Some c = λ j some.
    c.kinds.ensures j (λ none. some
    (sym (row_read c.deref.result.now c.args.self.now c.atom.inside.0 c.args.atom c.in-Some.row.now (ap entries_of c.deref.ensures.value ∙ c.self.view_is) c.atom.view_is
    c.in-Some.ensures.lookup.0 c.in-Some.ensures.lookup.1 j) ∙ none))

pub returns-in-None : goal.returns-in-None
returns-in-None c = λ j some.
    absurd (some (sym (row_past c.deref.result.now c.args.self.now c.atom.inside.0 c.args.atom (ap entries_of c.deref.ensures.value ∙ c.self.view_is) c.atom.view_is c.in-None.ensures.lookup.0 j)))
