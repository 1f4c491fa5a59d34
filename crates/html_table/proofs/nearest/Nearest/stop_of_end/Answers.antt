use Rattle.std.proofs.Common.{◌≡◌, ap, sym, ◌∙◌}
use Rattle.html_table.specs.declared.nearest.Nearest.{Nearest}
use Rattle.html_table.specs.declared.scopes.Scope.TheVariants as within
use Rattle.html_table.specs.TreeTable.{end_scope}
use Rattle.html_table.specs.Outward.{nearest, up_to_stop}
use Rattle.html_table.proofs.EndLemmas.{no_stop, table_stop, other_scope}
use Rattle.html_table.proofs.nearest.Nearest.stop_of_end.Goals as goal

pub returns-in-Page : goal.returns-in-Page
returns-in-Page c = λ es is.
    let scope : within.Page ≡ end_scope c.args.ended = sym c.in-Page.is ∙ c.of_end.ensures in
    sym (no_stop es) ∙ ap (λ s. up_to_stop s es) scope

pub returns-in-Table : goal.returns-in-Table
unfolding nearest
returns-in-Table c = λ es is.
    let scope : within.Table ≡ end_scope c.args.ended = sym c.in-Table.is ∙ c.of_end.ensures in
    ap (λ (n : Nearest). n.table) is ∙ table_stop es ∙ ap (λ s. up_to_stop s es) scope

pub returns-in_default : goal.returns-in_default
unfolding nearest
returns-in_default c = λ es is.
    let scope : end_scope c.args.ended ≡ within.Cells = other_scope c.args.ended (λ e. c.in_default.not-Page (c.of_end.ensures ∙ e)) (λ e. c.in_default.not-Table (c.of_end.ensures ∙ e)) in
    ap (λ (n : Nearest). n.cells_end) is ∙ ap (λ s. up_to_stop s es) (sym scope)
