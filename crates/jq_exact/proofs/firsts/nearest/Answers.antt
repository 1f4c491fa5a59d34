use Rattle.tree_sem.specs.Nodes.{IsNode}
use Rattle.node_marks.specs.Marks.{IsMarked}
use Rattle.node_marks.specs.Ranks.{IsUnder, HasNearestIn}
use Rattle.jq_sem.specs.Statements.{FitsOne}
use Rattle.jq_stmts.specs.Views.{atoms_of}
use Rattle.jq_exact.proofs.BackLemmas.{ok_ranked_same, nearest_same}
use Rattle.jq_exact.proofs.firsts.nearest.Goals as goal

pub returns : goal.returns
returns c =
    let t = c.args.tree.now in
    let ranks = c.args.ranks.now in
    let fit = c.in_ok-fit.fit in
    let fits = FitsOne t (atoms_of c.args.compounds.now) in
    ok_ranked_same t (λ k v. IsNode t v × HasNearestIn (IsMarked t fit) (IsUnder t k ranks) v) (λ k v. IsNode t v × HasNearestIn fits (IsUnder t k ranks) v)
    (λ k. nearest_same (IsNode t) (IsMarked t fit) fits (IsUnder t k ranks) c.in_ok-fit.ensures) c.nearest_ranks.result c.nearest_ranks.ensures
