use Rattle.simple_core.specs.Rounds.{grown}
use Rattle.proof_maker.specs.Tellings.{AreIdle}
use Rattle.proof_maker.proofs.told.idle_of.Given as goal

abbrev pub invariant-loop-c : goal.invariant-loop-c
invariant-loop-c g l = AreIdle l.system (λ k. grown (g.S.Summaries.system l.sums) k l.kind l.parent) l.c
