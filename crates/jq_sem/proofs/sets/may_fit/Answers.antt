use Rattle.std.proofs.Common.{rules, arith}
use Rattle.node_marks.specs.Marks.{IsMarked}
use Rattle.jq_sem.proofs.SetLemmas.{on_ok, may_fit_some}
use Rattle.jq_sem.proofs.sets.may_fit.Goals as goal

pub returns : goal.returns
returns c =
    on_ok c.fitting.result _ _ (λ m is. may_fit_some c.args.tree.now c.args.compounds.now (IsMarked c.args.tree.now m) (first_of (omega arith, search rules)) is) c.fitting.ensures
