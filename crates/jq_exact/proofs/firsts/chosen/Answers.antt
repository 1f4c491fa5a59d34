use Rattle.node_marks.specs.Marks.{IsMarked}
use Rattle.node_marks.specs.Ranks.{IsUnder}
use Rattle.jq_sem.specs.Statements.{FitsOne}
use Rattle.jq_stmts.specs.Views.{atoms_of}
use Rattle.jq_exact.proofs.BackLemmas.{ok_ranked_same, both_same}
use Rattle.jq_exact.proofs.firsts.chosen.Goals as goal

pub returns : goal.returns
returns c =
    let t = c.args.tree.now in
    let ranks = c.args.ranks.now in
    let fit = c.in_ok-fit.fit in
    ok_ranked_same t (λ k v. IsMarked t fit v × IsUnder t k ranks v) (λ k v. FitsOne t (atoms_of c.args.compounds.now) v × IsUnder t k ranks v)
    (λ k. both_same (IsMarked t fit) (FitsOne t (atoms_of c.args.compounds.now)) (IsUnder t k ranks) c.in_ok-fit.ensures) c.ranks_in.result c.ranks_in.ensures
