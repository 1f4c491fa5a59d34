use Rattle.std.proofs.Common.{◌≡◌, ◌++◌, ◌∷◌, [], refl, subst}
use Rattle.proof_needs.specs.Following.{IsAtNode, IsParentOf}
use Rattle.proof_needs.specs.Spots.{paths_in}
use Rattle.proof_needs.proofs.SetLemmas.{some_none, some_such}
use Rattle.proof_needs.proofs.TieLemmas.{parent_is, is_parent, last_step, on_err}
use Rattle.proof_needs.proofs.needs.want_parent.Goals as goal

pub returns-clause-parent : goal.returns-clause-parent
returns-clause-parent c = λ v p at is.
    subst (λ z. IsAtNode z c.args.from (paths_in c.args.nodes.now.keys) (paths_in c.want_at.new.nodes.keys) c.args.wants.now.keys c.want_at.new.wants.keys)
    (parent_is v p c.in_ok-above.above c.pop.new.self (c.in_ok-above.ensures v at) c.pop.ensures.rest is) c.in_ok-want_at.ensures.ok

pub returns-in_err-above-clause-err : goal.returns-in_err-above-clause-err
returns-in_err-above-clause-err c =
    let nodes = paths_in c.args.nodes.now.keys in
    on_err _ c.from_residual.result (refl, some_none (IsParentOf nodes c.args.n) nodes nodes refl)

pub returns-in_err-want_at-clause-err : goal.returns-in_err-want_at-clause-err
returns-in_err-want_at-clause-err c =
    let nodes = paths_in c.args.nodes.now.keys in
    let last = last_step c.pop.result c.is_none.result (λ k. c.in_ok-above.above ≡ c.pop.new.self ++ k ∷ []) c.is_none.ensures c.if-is_none.false c.pop.ensures.last in
    on_err _ c.from_residual-in_err-want_at.result (
      c.in_err-want_at.ensures.err.0,
      some_such (λ u. u ≡ c.pop.new.self) (IsParentOf nodes c.args.n) nodes (paths_in c.want_at.new.nodes.keys)
          (is_parent nodes c.args.n c.in_ok-above.above c.pop.new.self last.0 c.in_ok-above.ensures last.1) c.in_err-want_at.ensures.err.1,
    )
