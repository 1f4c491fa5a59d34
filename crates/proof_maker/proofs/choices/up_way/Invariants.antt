use Rattle.std.proofs.Common.{◌≡◌, drop, find}
use Rattle.proof_needs.specs.Choices.{by_up}
use Rattle.proof_maker.specs.Worlds.{stands_at}
use Rattle.proof_maker.proofs.choices.up_way.Given as goal

abbrev pub invariant-loop-link : goal.invariant-loop-link
invariant-loop-link g l =
    find (λ x. stands_at l.world l.place l.round (by_up x)) l.links ≡ find (λ x. stands_at l.world l.place l.round (by_up x)) (drop l.link-index l.links)
