use Rattle.jq_stmts.specs.Views.{atoms_of}
use Rattle.jq_sem.proofs.SetLemmas.{on_ok}
use Rattle.jq_exact.proofs.BackLemmas.{before_has}
use Rattle.jq_exact.proofs.firsts.before_has.Goals as goal

pub returns : goal.returns
returns c = on_ok c.over_ranks.result _ _ (λ m made. before_has c.args.tree.now c.args.ranks.now m (atoms_of c.args.compounds.now) made) c.over_ranks.ensures
