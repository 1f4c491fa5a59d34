use Rattle.std.proofs.Common.{◌≡◌, ◌++◌, take}
use Rattle.sel_text.proofs.WriteLemmas.{atoms_text}
use Rattle.sel_text.proofs.writing.write_atoms.Given as goal

abbrev pub invariant-loop-atom : goal.invariant-loop-atom
invariant-loop-atom l = l.text.items ≡ l.initial.text.items ++ atoms_text l.atoms (take l.atom-index l.items)
