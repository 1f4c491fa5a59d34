use Rattle.std.proofs.Common.{◌≡◌, refl, ap}
use Rattle.proof_needs.specs.Spots.{paths_in}
use Rattle.proof_needs.proofs.SetLemmas.{some_of, some_none}
use Rattle.proof_needs.proofs.TieLemmas.{on_err}
use Rattle.proof_needs.proofs.needs.want_at.Goals as goal

pub returns-in_err-number-clause-err : goal.returns-in_err-number-clause-err
returns-in_err-number-clause-err c =
    on_err _ c.from_residual.result (refl, some_none (λ v. v ≡ c.args.at.now) (paths_in c.args.nodes.now.keys) (paths_in c.node_number.new.nodes.keys) (ap (λ ks. paths_in ks) c.in_err-number.ensures.err))

pub returns-in_err-want-clause-err : goal.returns-in_err-want-clause-err
returns-in_err-want-clause-err c =
    on_err _ c.from_residual-in_err-want.result (c.in_err-want.ensures.err, some_of (λ v. v ≡ c.args.at.now) (paths_in c.args.nodes.now.keys) (paths_in c.node_number.new.nodes.keys) c.in_ok-number.ensures.nodes)
