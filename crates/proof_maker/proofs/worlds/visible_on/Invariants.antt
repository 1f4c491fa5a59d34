use Rattle.simple_core.specs.Labels.{visible_in}
use Rattle.simple_core.specs.Pages.{page_round}
use Rattle.proof_maker.proofs.WorldLemmas.{IsSeen}
use Rattle.proof_maker.proofs.worlds.visible_on.Given as goal

abbrev pub invariant-loop-i : goal.invariant-loop-i
invariant-loop-i g l = IsSeen l.own (visible_in l.world.system.now (page_round l.world.system.now l.world.page.now l.round l.at)) l.label l.i
