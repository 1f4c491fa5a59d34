use Rattle.std.proofs.Common.{arith}
use Rattle.css_read.proofs.SkipPlaces.{skipped_at}
use Rattle.css_read.proofs.reading.Draft.read_item.Goals.{in-Ok, in-Err-Skipped}
use Rattle.css_read.proofs.reading.Draft.read_item.Goals as goal

pub returns-clause-placed : goal.returns-clause-placed
returns-clause-placed c =
    elim c.match-read_selector.branch [
      | in-Ok w ↦ rw w.outcome-is (record { order = c.requires.from; within = c.requires.to; cause = tt })
      | in-Err-Skipped w ↦ rw w.outcome-is (record { order = c.requires.from; within = c.requires.to; cause = omega (arith, c.requires.to, skipped_at _ _ _ _ _ _ _ _ w.in-Err-Skipped.field-0-is w.in-Err-Skipped.ensures.reads) })
    ]

pub returns-clause-readable : goal.returns-clause-readable
returns-clause-readable c =
    elim c.match-read_selector.branch [
      | in-Ok w ↦ rw w.outcome-is w.in-Ok.ensures.readable
      | in-Err-Skipped w ↦ rw w.outcome-is tt
    ]
