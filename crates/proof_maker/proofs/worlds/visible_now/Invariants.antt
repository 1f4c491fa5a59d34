use Rattle.proof_maker.specs.Worlds.{labels_of}
use Rattle.proof_maker.proofs.WorldLemmas.{IsSeen}
use Rattle.proof_maker.proofs.worlds.visible_now.Given as goal

abbrev pub invariant-loop-i : goal.invariant-loop-i
invariant-loop-i g l = IsSeen l.world.system.now.visible (labels_of l.world.system.now l.world.page.now l.place l.round) l.label l.i
