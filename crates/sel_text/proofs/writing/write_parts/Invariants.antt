use Rattle.std.proofs.Common.{◌≡◌, ◌++◌}
use Rattle.sel_text.proofs.WriteLemmas.{front_text}
use Rattle.sel_text.proofs.writing.write_parts.Given as goal

abbrev pub invariant-parts : goal.invariant-parts
invariant-parts l = l.text.items ≡ l.fn.text.items ++ front_text l.atoms l.parts l.joins l.i
