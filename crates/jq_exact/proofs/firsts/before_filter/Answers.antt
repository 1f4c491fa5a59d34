use Rattle.jq_stmts.specs.Views.{atoms_of}
use Rattle.jq_sem.proofs.SetLemmas.{on_ok}
use Rattle.jq_exact.proofs.BackLemmas.{before_filter}
use Rattle.jq_exact.proofs.firsts.before_filter.Goals as goal

pub returns : goal.returns
returns c = on_ok c.chosen.result _ _ (λ m made. before_filter c.args.tree.now c.args.ranks.now m (atoms_of c.args.compounds.now) made) c.chosen.ensures
