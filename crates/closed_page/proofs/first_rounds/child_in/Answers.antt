use Rattle.std.proofs.Common.{get_or}
use Rattle.std.proofs.lemmas.List.{get_or_default}
use Rattle.closed_page.specs.declared.first_rows.Run.{Run}
use Rattle.closed_page.proofs.RunLemmas.{no_child, child_here}
use Rattle.closed_page.proofs.first_rounds.child_in.Goals as goal

pub returns-then-run-parent : goal.returns-then-run-parent
returns-then-run-parent c =
    let row = c.args.row.now in
    let none : Run = record { parent = 0; first = 0; last = 0; round = 0 } in
    let x = get_or row c.children.i none in
    no_child row c.requires c.args.parent c.args.round c.children.i c.children.invariant x (λ less. (get_or_default row c.children.i none x less, c.if-run-parent.true))

pub returns-then-run-round : goal.returns-then-run-round
returns-then-run-round c =
    let row = c.args.row.now in
    let none : Run = record { parent = 0; first = 0; last = 0; round = 0 } in
    let x = get_or row c.children.i none in
    child_here row c.requires c.args.parent c.args.round c.children.i c.children.invariant x c.children-test.true (get_or_default row c.children.i none x c.children-test.true) c.if-run-parent.false c.if-run-round.true
