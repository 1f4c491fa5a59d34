use Rattle.std.proofs.Common.{sym, ◌∙◌, arith, rules}
use Rattle.saturation.proofs.GrowthLemmas.{between_lower, between_upper, first_met, none_met}
use Rattle.saturation.proofs.histories.first_round_under.Goals as goal

pub halves-preserved-then-satisfies : goal.halves-preserved-then-satisfies
halves-preserved-then-satisfies g c =
    between_lower _ _ _ c.args.changes.now (search rules) c.requires.growing c.halves.low c.halves.high _ c.halves.invariant (omega arith) (omega (arith, c.halves-test.true)) _
    (sym c.satisfies.ensures ∙ c.if-satisfies.true)

pub halves-preserved : goal.halves-preserved
halves-preserved g c =
    between_upper _ _ _ c.args.changes.now (search rules) c.requires.growing c.halves.low c.halves.high _ c.halves.invariant (omega arith) (omega (arith, c.halves-test.true)) _
    (sym c.satisfies.ensures ∙ c.if-satisfies.false)

pub returns-then-low-changes : goal.returns-then-low-changes
returns-then-low-changes g c = first_met _ _ _ c.args.changes.now (search rules) c.halves.low c.halves.high c.halves.invariant c.halves-test.false _ c.if-low-changes.true

pub returns-else-low-changes : goal.returns-else-low-changes
returns-else-low-changes g c = none_met _ _ _ c.args.changes.now (search rules) c.halves.low c.halves.high c.halves.invariant c.halves-test.false c.if-low-changes.false
