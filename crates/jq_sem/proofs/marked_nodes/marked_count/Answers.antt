use Rattle.std.proofs.Common.{sym, ap, ◌∙◌, arith}
use Rattle.jq_sem.specs.Runs.{one_if}
use Rattle.jq_sem.proofs.RunLemmas.{count_next}
use Rattle.jq_sem.proofs.marked_nodes.marked_count.Goals as goal
use Rattle.jq_sem.proofs.marked_nodes.marked_count.Goals.{then-marked, else-marked}

pub loop-number-preserved : goal.loop-number-preserved
loop-number-preserved c =
    let before = c.loop-number.invariant in
    let counted = before.counted in
    let few = before.few in
    let behind = before.behind in
    let next = count_next c.args.marks.now c.args.from c.loop-number.number behind in
    let at = c.at-marked.ensures in
    elim c.if-marked.branch [
      | then-marked w ↦ let one = ap one_if (sym at ∙ w.if-marked.true) in let is = w.count-is in record { counted = omega (arith, next, counted, one, is); few = omega (arith, few, is); behind = omega (arith, behind) }
      | else-marked w ↦ let one = ap one_if (sym at ∙ w.if-marked.false) in let is = w.count-is in record { counted = omega (arith, next, counted, one, is); few = omega (arith, few, is); behind = omega (arith, behind) }
    ]
