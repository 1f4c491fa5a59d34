use Rattle.std.proofs.Common.{ℕ, arith}
use Rattle.proof_needs.proofs.SetLemmas.{each_start, each_next, each_some, each_whole}
use Rattle.proof_needs.proofs.TieLemmas.{on_err}
use Rattle.proof_needs.proofs.wants.want_each.Goals as goal

pub loop-i-init : goal.loop-i-init
loop-i-init c = each_start (λ (a : ℕ). record { spot = c.args.spot; atom = a }) c.args.atoms.now c.args.wants.now.keys

pub loop-i-preserved : goal.loop-i-preserved
loop-i-preserved c =
    each_next (λ (a : ℕ). record { spot = c.args.spot; atom = a }) c.args.atoms.now c.args.wants.now.keys c.loop-i.i c.at.result c.loop-i.wants.keys c.want.new.wants.keys
    c.at.ensures c.loop-i.invariant c.in_ok-want.ensures.ok

pub returns-clause-ok : goal.returns-clause-ok
returns-clause-ok c =
    each_whole (λ (a : ℕ). record { spot = c.args.spot; atom = a }) c.args.atoms.now c.args.wants.now.keys c.loop-i.i c.loop-i.wants.keys
    (omega (arith, c.loop-i-test.false)) c.loop-i.invariant

pub returns-in_err-want-clause-err : goal.returns-in_err-want-clause-err
returns-in_err-want-clause-err c =
    on_err _ c.from_residual.result
    (each_some (λ (a : ℕ). record { spot = c.args.spot; atom = a }) c.args.atoms.now c.args.wants.now.keys c.loop-i.i c.loop-i.wants.keys c.want.new.wants.keys c.loop-i.invariant c.in_err-want.ensures.err)
