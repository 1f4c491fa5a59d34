use Rattle.std.proofs.Common.{arith}
use Rattle.proof_needs.specs.declared.spots.Spot.{Spot}
use Rattle.proof_needs.proofs.SetLemmas.{each_start, each_more, each_some, each_whole}
use Rattle.proof_needs.proofs.TieLemmas.{on_err}
use Rattle.proof_needs.proofs.wants.want_at_each.Goals as goal

pub loop-spot-init : goal.loop-spot-init
loop-spot-init c = each_start (λ (p : Spot). record { spot = p; atom = c.args.atom }) c.args.spots.now c.args.wants.now.keys

pub loop-spot-preserved : goal.loop-spot-preserved
loop-spot-preserved c =
    each_more (λ (p : Spot). record { spot = p; atom = c.args.atom }) c.args.spots.now c.args.wants.now.keys c.loop-spot.spot-index _ c.loop-spot.wants.keys c.want.new.wants.keys
    (omega (arith, c.loop-spot-test.true)) c.loop-spot.invariant c.in_ok-want.ensures.ok

pub returns-clause-ok : goal.returns-clause-ok
returns-clause-ok c =
    each_whole (λ (p : Spot). record { spot = p; atom = c.args.atom }) c.args.spots.now c.args.wants.now.keys c.loop-spot.spot-index c.loop-spot.wants.keys
    (omega (arith, c.loop-spot-test.false)) c.loop-spot.invariant

pub returns-in_err-want-clause-err : goal.returns-in_err-want-clause-err
returns-in_err-want-clause-err c =
    on_err _ c.from_residual.result
    (each_some (λ (p : Spot). record { spot = p; atom = c.args.atom }) c.args.spots.now c.args.wants.now.keys c.loop-spot.spot-index c.loop-spot.wants.keys c.want.new.wants.keys c.loop-spot.invariant c.in_err-want.ensures.err)
