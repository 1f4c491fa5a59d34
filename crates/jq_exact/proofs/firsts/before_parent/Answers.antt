use Rattle.jq_stmts.specs.Views.{atoms_of}
use Rattle.jq_sem.proofs.SetLemmas.{on_ok}
use Rattle.jq_exact.proofs.BackLemmas.{before_parent}
use Rattle.jq_exact.proofs.firsts.before_parent.Goals as goal

pub returns : goal.returns
returns c =
    on_ok c.ranks_below.result _ _ (λ m made. before_parent c.args.tree.now c.args.ranks.now m (atoms_of c.args.compounds.now) c.in_ok-fit.fit c.in_ok-fit.ensures made) c.ranks_below.ensures
