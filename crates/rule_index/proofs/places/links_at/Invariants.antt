use Rattle.std.proofs.Common.{take}
use Rattle.rule_index.specs.Indexes.{AreLinksAt}
use Rattle.rule_index.proofs.places.links_at.Given as goal

abbrev pub invariant-loop-i : goal.invariant-loop-i
invariant-loop-i l = AreLinksAt (take l.i l.links) l.index
