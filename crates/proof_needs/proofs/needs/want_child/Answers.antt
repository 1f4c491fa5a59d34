use Rattle.std.proofs.Common.{◌≡◌, ◌++◌, ◌∷◌, [], refl, ap, ◌∙◌}
use Rattle.proof_needs.specs.Following.{IsChildOf}
use Rattle.proof_needs.specs.Spots.{paths_in}
use Rattle.proof_needs.proofs.SetLemmas.{some_none, some_such}
use Rattle.proof_needs.proofs.TieLemmas.{on_err}
use Rattle.proof_needs.proofs.needs.want_child.Goals as goal

pub returns-in_err-at-clause-err : goal.returns-in_err-at-clause-err
returns-in_err-at-clause-err c =
    let nodes = paths_in c.args.nodes.now.keys in
    on_err _ c.from_residual.result (refl, some_none (IsChildOf nodes c.args.n c.args.child) nodes nodes refl)

pub returns-in_err-push-clause-err : goal.returns-in_err-push-clause-err
returns-in_err-push-clause-err c =
    let nodes = paths_in c.args.nodes.now.keys in
    on_err _ c.from_residual-in_err-push.result (refl, some_none (IsChildOf nodes c.args.n c.args.child) nodes nodes refl)

pub returns-in_err-want_at-clause-err : goal.returns-in_err-want_at-clause-err
returns-in_err-want_at-clause-err c =
    let nodes = paths_in c.args.nodes.now.keys in
    on_err _ c.from_residual-in_err-want_at.result (
      c.in_err-want_at.ensures.err.0,
      some_such (λ u. u ≡ c.push.new.self) (IsChildOf nodes c.args.n c.args.child) nodes (paths_in c.want_at.new.nodes.keys)
          (λ u same v at. same ∙ c.in_ok-push.ensures.ok ∙ ap (λ z. z ++ c.args.child ∷ []) (c.in_ok-at.ensures v at)) c.in_err-want_at.ensures.err.1,
    )
