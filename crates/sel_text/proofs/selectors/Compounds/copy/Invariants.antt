use Rattle.std.proofs.Common.{◌≡◌, take}
use Rattle.sel_text.proofs.selectors.Compounds.copy.Given as goal

abbrev pub invariant-loop-compound : goal.invariant-loop-compound
invariant-loop-compound l = l.copies.items ≡ take l.compound-index l.compound-items
