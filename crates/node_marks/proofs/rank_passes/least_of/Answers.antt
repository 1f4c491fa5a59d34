use Rattle.std.proofs.Common.{◌≡◌, ◌↔◌, ◌<◌, ◌≤◌, ℕ, subst, arith}
use Rattle.node_marks.specs.Ranks.{rank}
use Rattle.node_marks.proofs.RankLemmas.{least_more}
use Rattle.node_marks.proofs.rank_passes.least_of.Goals as goal

pub nodes-preserved : goal.nodes-preserved
nodes-preserved c = least_more c.args.ranks.now c.args.len c.nodes.i c.nodes.found c.rank_at.result c.least-found.result c.rank_at.ensures c.least-found.ensures c.nodes.invariant

pub returns : goal.returns
returns c =
    let over = c.nodes-test.false in
    let within = c.nodes.auto.i-end in
    let all : c.nodes.i ≡ c.args.len = omega (arith, over, within) in
    subst (λ n. (k : ℕ) → k ≤ c.args.len → (c.nodes.found < k) ↔ ((i : ℕ) × (i < n) × (rank c.args.ranks.now c.args.len i < k))) all c.nodes.invariant
