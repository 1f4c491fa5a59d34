use Rattle.std.proofs.Common.{◌≡◌, ◌↔◌, ℕ, List, sym, ◌∙◌, subst, arith, add-one}
use Rattle.tree_sem.specs.Trees.{count_of}
use Rattle.node_marks.specs.Marks.{IsMarked}
use Rattle.jq_exact.specs.Together.{stood, FromNodes}
use Rattle.jq_exact.proofs.TogetherLemmas.{no_nodes_yet, one_node_more, no_node_more}
use Rattle.jq_exact.proofs.evaluation.of_each.Goals.{then-at+in_ok-made-2, else-at}
use Rattle.jq_exact.proofs.evaluation.of_each.Goals as goal

pub nodes-init : goal.nodes-init
nodes-init c = no_nodes_yet c.args.tree.now (stood c.args.calls.now.sharp.now c.args.calls.now.handler c.args.calls.now.calls.now c.args.numbers.now) c.args.marks.now c.in_ok-made.made c.in_ok-made.ensures

pub nodes-preserved : goal.nodes-preserved
nodes-preserved c =
    let t = c.args.tree.now in
    let calls = stood c.args.calls.now.sharp.now c.args.calls.now.handler c.args.calls.now.calls.now c.args.numbers.now in
    elim c.if-at.branch [
      | then-at+in_ok-made-2 w ↦
          rw (w.made-is, add-one)
          (one_node_more t calls c.args.marks.now c.nodes.made w.in_ok-made-2.made c.nodes.number (sym c.at.ensures ∙ w.if-at.true) c.nodes.invariant w.in_ok-made-2.ensures)
      | else-at w ↦ rw (w.made-is, add-one) (no_node_more t calls c.args.marks.now c.nodes.made c.nodes.number (sym c.at.ensures ∙ w.if-at.false) c.nodes.invariant)
    ]

pub returns : goal.returns
returns c =
    let t = c.args.tree.now in
    let count = c.count-number-end.ensures in
    let over = c.nodes-test.false in
    let within = c.nodes.auto.number-end in
    let all : c.nodes.number ≡ count_of t = omega (arith, count, over, within) in
    subst (λ n. (v : List ℕ) → IsMarked t c.nodes.made v ↔ FromNodes t c.args.marks.now (stood c.args.calls.now.sharp.now c.args.calls.now.handler c.args.calls.now.calls.now c.args.numbers.now) n v) all c.nodes.invariant
