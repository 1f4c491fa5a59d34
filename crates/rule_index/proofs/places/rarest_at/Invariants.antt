use Rattle.std.proofs.Common.{take}
use Rattle.rule_index.specs.Indexes.{AreRareAt}
use Rattle.rule_index.proofs.places.rarest_at.Given as goal

abbrev pub invariant-loop-i : goal.invariant-loop-i
invariant-loop-i l = AreRareAt (take l.i l.rules) l.rare
