use Rattle.std.proofs.Common.{◌+◌, sym, ◌∙◌, arith}
use Rattle.jq_sem.proofs.RunLemmas.{passed_on, passed_last, moved_on, stopped}
use Rattle.run_trace.proofs.MatchLemmas.{none_more, first_here, none_at_all}
use Rattle.run_trace.proofs.matches.first_marked.Goals as goal

pub nodes-preserved : goal.nodes-preserved
nodes-preserved c =
    let n = c.nodes.number in
    let passed = c.nodes.invariant.here (omega (arith, c.count-nodes.ensures.count)) in
    record {
      tree = c.in_ok-go_on.ensures.tree ∙ c.nodes.invariant.tree;
      none = none_more c.args.marks.now n c.nodes.invariant.none (sym c.at-marked.ensures ∙ c.if-marked.false);
      here = λ within. passed_on c.args.tree.now c.nodes.tour.tree c.nodes.invariant.tree n c.nodes.tour.at passed c.go_on.new.self.at (moved_on c.in_ok-go_on.field-0 _ _ c.in_ok-go_on.ensures.next c.if-not-branch.false);
    }

pub returns-then-marked : goal.returns-then-marked
returns-then-marked c =
    let n = c.nodes.number in
    let passed = c.nodes.invariant.here (omega (arith, c.count-nodes.ensures.count)) in
    rw (c.in_ok-found.ensures, c.path.ensures.path)
    (first_here c.args.tree.now c.args.marks.now n c.nodes.tour.at passed c.nodes.invariant.none (sym c.at-marked.ensures ∙ c.if-marked.true))

pub returns-then-not-branch : goal.returns-then-not-branch
returns-then-not-branch c =
    let n = c.nodes.number in
    let passed = c.nodes.invariant.here (omega (arith, c.count-nodes.ensures.count)) in
    let last = stopped c.in_ok-go_on.field-0 _ _ c.in_ok-go_on.ensures.next c.if-not-branch.true in
    none_at_all c.args.tree.now c.args.marks.now (n + 1) (omega (arith, passed_last c.args.tree.now c.nodes.tour.tree c.nodes.invariant.tree n c.nodes.tour.at passed last.0)) (none_more c.args.marks.now n c.nodes.invariant.none (sym c.at-marked.ensures ∙ c.if-marked.false))

pub returns : goal.returns
returns c = none_at_all c.args.tree.now c.args.marks.now c.nodes.number (omega (arith, c.count-nodes.ensures.count)) c.nodes.invariant.none
