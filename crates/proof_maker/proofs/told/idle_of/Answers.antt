use Rattle.std.proofs.Common.{sym, arith}
use Rattle.simple_core.specs.Rounds.{grown}
use Rattle.proof_maker.proofs.WorldLemmas.{added_never}
use Rattle.proof_maker.proofs.IdleLemmas.{idle_next}
use Rattle.proof_maker.proofs.told.idle_of.Goals as goal

pub loop-c-preserved : goal.loop-c-preserved
loop-c-preserved g c =
    let s = g.S.Summaries.system c.args.sums.now in
    idle_next c.args.system.now (λ k. grown s k c.args.kind c.args.parent.now) c.loop-c.c c.items-spawns.result.now c.index-spawns-c.result c.loop-c.invariant c.items-spawns.ensures
    (omega (arith, c.loop-c-test.true)) c.index-spawns-c.is
    (λ k. sym (added_never s c.args.kind c.args.parent.now c.index-spawns-c.result.needs k (c.may_come.ensures c.if-may_come.false)))
