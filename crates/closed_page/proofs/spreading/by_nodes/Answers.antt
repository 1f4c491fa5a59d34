use Rattle.std.proofs.Common.{List, Option, ℕ, subst}
use Rattle.row_index.specs.Rows.{AreByNumber}
use Rattle.closed_page.proofs.SpreadLemmas.{by_node}
use Rattle.closed_page.proofs.spreading.by_nodes.Goals as goal

pub returns : goal.returns
returns c =
    by_node c.requires.nodes.0 c.args.labels.now.nodes c.args.notes.now c.in_ok-numbers.numbers.items c.in_ok-index.index c.requires.nodes.1 c.in_ok-numbers.ensures
    (subst (λ (z : List (Option ℕ)). AreByNumber z c.in_ok-index.index) c.deref.ensures.value c.in_ok-index.ensures)
