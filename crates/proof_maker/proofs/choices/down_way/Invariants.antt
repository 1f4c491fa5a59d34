use Rattle.std.proofs.Common.{◌≡◌, drop, find}
use Rattle.std.specs.List.{flat_map}
use Rattle.proof_needs.specs.Choices.{ways_down}
use Rattle.proof_maker.specs.Worlds.{setting_of, path_of, stands_at}
use Rattle.proof_maker.proofs.choices.down_way.Given as goal

abbrev pub invariant-loop-link : goal.invariant-loop-link
invariant-loop-link g l =
    find (stands_at l.world l.place l.round) (flat_map (ways_down l.world.system.now (setting_of l.world.system.now l.world.page.now l.place) (path_of l.place)) l.links)
    ≡ find (stands_at l.world l.place l.round) (flat_map (ways_down l.world.system.now (setting_of l.world.system.now l.world.page.now l.place) (path_of l.place)) (drop l.link-index l.links))
