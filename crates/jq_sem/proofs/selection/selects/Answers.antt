use Rattle.jq_stmts.specs.Views.{statement_of}
use Rattle.jq_sem.proofs.TogetherLemmas.{selected_at}
use Rattle.jq_sem.proofs.SelectionLemmas.{Selected-node}
use Rattle.jq_sem.proofs.selection.selects.Goals as goal

pub returns-clause-selected : goal.returns-clause-selected
returns-clause-selected c =
    selected_at c.args.tree.now c.in_ok-numbered.numbered (statement_of c.args.s.now) c.in_ok-marks.marks c.has.result c.args.at.now c.in_ok-numbered.ensures c.has.ensures c.in_ok-marks.ensures

pub returns-clause-node : goal.returns-clause-node
returns-clause-node c on =
    let same = selected_at c.args.tree.now c.in_ok-numbered.numbered (statement_of c.args.s.now) c.in_ok-marks.marks c.has.result c.args.at.now c.in_ok-numbered.ensures c.has.ensures c.in_ok-marks.ensures in
    Selected-node c.args.tree.now (statement_of c.args.s.now) c.args.at.now (same.0 on)
