-- What a fault of the table of names is to a reader of selectors.
use Rattle.tp_base.specs.declared.atom_table.AtomFault.{AtomFault}
use Rattle.tp_base.specs.declared.atom_table.AtomFault.TheVariants as atom
use Rattle.sel_text.specs.declared.faults.SelFault.{SelFault}
use Rattle.sel_text.specs.declared.faults.SelFault.TheVariants as sel

abbrev pub sel_fault_of : AtomFault → SelFault
sel_fault_of atom.TooManyAtoms = sel.TooManyAtoms
sel_fault_of atom.Memory = sel.Memory
