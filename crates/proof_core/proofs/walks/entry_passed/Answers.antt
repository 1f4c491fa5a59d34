use Rattle.std.proofs.Common.{List, length, ap, arith}
use Rattle.proof_core.specs.Trails.{progress_of}
use Rattle.proof_check.specs.Unfolding.{Progress, Passed}
use Rattle.proof_core.proofs.WalkLemmas.{rest_longer}
use Rattle.proof_core.proofs.walks.entry_passed.Goals as goal

pub turn-requires : goal.turn-requires
turn-requires c =
    let s = c.args.world.now.system.now in
    let es = c.args.world.now.entries.now in
    let longer = rest_longer s es c.turns.walk (progress_of c.turns.trail) c.args.at in
    let same = ap (λ (r : Progress × List Passed). length r.0.steps) c.turns.invariant.whole in
    record { short = omega (arith, longer, same, c.requires.short) }
