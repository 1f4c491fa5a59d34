use Rattle.std.proofs.Common.{sym, ◌∙◌}
use Rattle.judge.proofs.answering.by_atom.Goals as goal

pub for_seen-requires-clause-has : goal.for_seen-requires-clause-has
for_seen-requires-clause-has g c = sym c.is_seen.ensures ∙ c.if-is_seen.true
