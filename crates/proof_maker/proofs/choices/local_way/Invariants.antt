use Rattle.std.proofs.Common.{◌≡◌, drop, find}
use Rattle.proof_needs.specs.Choices.{by_local}
use Rattle.proof_maker.specs.Worlds.{stands_at}
use Rattle.proof_maker.proofs.choices.local_way.Given as goal

abbrev pub invariant-loop-rule : goal.invariant-loop-rule
invariant-loop-rule g l =
    find (λ x. stands_at l.world l.place l.round (by_local x)) l.rules ≡ find (λ x. stands_at l.world l.place l.round (by_local x)) (drop l.rule-index l.rules)
