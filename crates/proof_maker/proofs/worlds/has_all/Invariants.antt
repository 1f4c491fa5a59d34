use Rattle.std.proofs.Common.{◌≡◌, drop}
use Rattle.std.specs.List.{list_all}
use Rattle.tp_base.specs.Classes.{has_class}
use Rattle.proof_maker.specs.Worlds.{labels_of}
use Rattle.proof_maker.proofs.worlds.has_all.Given as goal

abbrev pub invariant-loop-i : goal.invariant-loop-i
invariant-loop-i g l =
    list_all (λ x. has_class x (labels_of l.world.system.now l.world.page.now l.place l.round)) l.atoms
    ≡ list_all (λ x. has_class x (labels_of l.world.system.now l.world.page.now l.place l.round)) (drop l.i l.atoms)
