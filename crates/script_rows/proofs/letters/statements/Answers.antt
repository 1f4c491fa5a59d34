use Rattle.script_rows.proofs.Counts.{three_counted}
use Rattle.script_rows.proofs.letters.statements.Goals as goal

pub returns : goal.returns
returns c = record { counted = λ text. three_counted text _ _ _ _ c.in_ok-all.ensures.items (c.acting-first.ensures.counted text) (c.acting-second.ensures.counted text) (c.acting-third.ensures.counted text) }
