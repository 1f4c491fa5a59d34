use Rattle.std.proofs.Common.{List, ℕ, subst}
use Rattle.row_index.specs.Rows.{AreByNumber}
use Rattle.closed_page.specs.Numbered.{told}
use Rattle.closed_page.proofs.NodeLemmas.{paths_are, numbered}
use Rattle.closed_page.proofs.nodes.PageNodes.new.Goals as goal

pub invariant_of-result : goal.invariant_of-result
invariant_of-result c =
    let t = c.requires.0 in
    let is = c.requires.1.1 in
    let numbers = c.args.parents.items in
    numbered t numbers c.args.steps.items c.requires.1.0 is c.in_ok-kids.kids
    (subst (λ (z : List ℕ). AreByNumber (told z) c.in_ok-kids.kids) c.deref.ensures.value c.in_ok-kids.ensures)

pub returns : goal.returns
returns c = λ t columns.
    let is = columns.1 in
    let numbers = c.args.parents.items in
    paths_are t numbers c.args.steps.items columns.0 is
