use Rattle.std.proofs.Common.{length, refl}
use Rattle.saturation.proofs.DoneLemmas.{none_if, some_if}
use Rattle.saturation.proofs.saturating.are_none.Goals as goal

pub returns-clause-none : goal.returns-clause-none
returns-clause-none c none = none_if c.args.changes.now (length c.args.changes.now) refl none

pub returns-clause-some : goal.returns-clause-some
returns-clause-some c some = some_if c.args.changes.now (length c.args.changes.now) refl some
