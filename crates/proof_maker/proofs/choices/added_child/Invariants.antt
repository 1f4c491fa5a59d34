use Rattle.std.proofs.Common.{◌≡◌, ℕ, ◌<◌, false}
use Rattle.proof_maker.specs.Worlds.{spawn_has}
use Rattle.proof_maker.proofs.choices.added_child.Given as goal

abbrev pub invariant-loop-c : goal.invariant-loop-c
invariant-loop-c g l = (k : ℕ) → k < l.c → spawn_has l.world l.scene.place.now l.scene.round l.from k ≡ false
