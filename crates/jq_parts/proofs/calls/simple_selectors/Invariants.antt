use Rattle.std.proofs.Common.{◌≡◌, map, take}
use Rattle.sel_text.specs.Selectors.{simple}
use Rattle.sel_text.specs.Views.{selector_of}
use Rattle.jq_stmts.specs.Views.{atoms_of}
use Rattle.jq_parts.proofs.calls.simple_selectors.Given as goal

abbrev pub invariant-loop-compound : goal.invariant-loop-compound
invariant-loop-compound l = map simple (atoms_of (take l.compound-index l.compounds)) ≡ map selector_of l.found.items
