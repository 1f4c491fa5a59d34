use Rattle.node_marks.specs.Marks.{IsMarked, HasDescendantIn}
use Rattle.node_marks.specs.Ranks.{IsUnder}
use Rattle.jq_sem.specs.Statements.{FitsOne}
use Rattle.jq_stmts.specs.Views.{atoms_of}
use Rattle.jq_exact.proofs.BackLemmas.{ok_ranked_same, over_same}
use Rattle.jq_exact.proofs.firsts.over_ranks.Goals as goal

pub returns : goal.returns
returns c =
    let t = c.args.tree.now in
    let ranks = c.args.ranks.now in
    let fits = FitsOne t (atoms_of c.args.compounds.now) in
    ok_ranked_same t (λ k v. IsMarked t c.in_ok-over.over v × IsUnder t k ranks v) (λ k v. HasDescendantIn fits v × IsUnder t k ranks v)
    (λ k. over_same (IsMarked t c.in_ok-over.over) (IsMarked t c.in_ok-fit.fit) (IsUnder t k ranks) fits c.in_ok-over.ensures c.in_ok-fit.ensures) c.ranks_in.result c.ranks_in.ensures
