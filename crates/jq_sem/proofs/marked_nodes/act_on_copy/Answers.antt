use Rattle.std.proofs.Common.{◌+◌, Bool, ℕ, List, sym, ap, ◌∙◌, subst, arith}
use Rattle.tree_sem.specs.Nodes.{IsNode}
use Rattle.tree_sem.specs.Trees.{LabelTree}
use Rattle.tree_sem.specs.declared.tree_fault.TheConstants.{MOST_NODES}
use Rattle.jq_sem.specs.Runs.{run_at, if_marked}
use Rattle.jq_sem.proofs.RunLemmas.{acted_node, acted_on, acted_fits, all_acted, passed_on, passed_last, moved_on, stopped}
use Rattle.jq_sem.proofs.marked_nodes.act_on_copy.Goals as goal

pub act_if-requires-clause-node : goal.act_if-requires-clause-node
act_if-requires-clause-node c =
    let at = c.nodes.tour.at in
    let there = subst (λ (z : LabelTree). IsNode z at) c.nodes.invariant.tree c.path.ensures.there in
    subst (IsNode c.nodes.made) (sym c.path.ensures.path) (acted_node c.args.tree.now c.args.action.now c.args.marks.now c.nodes.number at c.nodes.made there c.nodes.invariant.acted)

pub act_if-requires-clause-room : goal.act_if-requires-clause-room
act_if-requires-clause-room c =
    let passed = c.nodes.invariant.here (omega (arith, c.count-nodes.ensures.count)) in
    rw (c.path.ensures.path, c.at-marked.ensures)
    (acted_fits c.args.tree.now c.args.action.now c.args.marks.now c.nodes.number c.nodes.tour.at c.nodes.made MOST_NODES passed c.nodes.invariant.acted c.requires.room)

pub nodes-preserved : goal.nodes-preserved
nodes-preserved c =
    let t = c.args.tree.now in
    let n = c.nodes.number in
    let at = c.nodes.tour.at in
    let passed = c.nodes.invariant.here (omega (arith, c.count-nodes.ensures.count)) in
    let change = λ (b : Bool) (v : List ℕ). run_at c.args.action.now (if_marked b v) c.nodes.made in
    record {
      tree = c.in_ok-more.ensures.tree ∙ c.nodes.invariant.tree;
      acted = c.in_ok-act_if.ensures ∙ ap (change c.at-marked.result) c.path.ensures.path ∙ ap (λ b. change b at) c.at-marked.ensures ∙ acted_on t c.args.action.now c.args.marks.now n at c.nodes.made passed c.nodes.invariant.acted;
      here = λ within. passed_on t c.nodes.tour.tree c.nodes.invariant.tree n at passed c.go_on.new.self.at (moved_on c.in_ok-more.more _ _ c.in_ok-more.ensures.next c.if-not-more.false);
    }

pub returns-then-not-more : goal.returns-then-not-more
returns-then-not-more c =
    let t = c.args.tree.now in
    let n = c.nodes.number in
    let at = c.nodes.tour.at in
    let passed = c.nodes.invariant.here (omega (arith, c.count-nodes.ensures.count)) in
    let change = λ (b : Bool) (v : List ℕ). run_at c.args.action.now (if_marked b v) c.nodes.made in
    let acted = c.in_ok-act_if.ensures ∙ ap (change c.at-marked.result) c.path.ensures.path ∙ ap (λ b. change b at) c.at-marked.ensures ∙ acted_on t c.args.action.now c.args.marks.now n at c.nodes.made passed c.nodes.invariant.acted in
    let none = stopped c.in_ok-more.more _ _ c.in_ok-more.ensures.next c.if-not-more.true in
    all_acted t c.args.action.now c.args.marks.now (n + 1) c.act_if.new.made (sym (passed_last t c.nodes.tour.tree c.nodes.invariant.tree n at passed none.0)) acted

pub returns : goal.returns
returns c = all_acted c.args.tree.now c.args.action.now c.args.marks.now c.nodes.number c.nodes.made (omega (arith, c.count-nodes.ensures.count)) c.nodes.invariant.acted
