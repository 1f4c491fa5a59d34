-- The cache of element names.
use Rattle.std.specs.Prelude.{◌≡◌, ℕ, List, slice_get, Some}
use Rattle.tp_base.specs.Names.{Named}
use Rattle.tp_base.specs.declared.atoms.AtomKind.TheVariants as kind
use Rattle.html_tokens.specs.Bytes.{lowered}
use Rattle.html_table.specs.declared.name_notes.NameNotes.{NameNotes}
use Rattle.html_table.specs.NameNotes.{IsNoted}

-- the atom of each noted name is that of the element
abbrev pub AreRight : NameNotes ℕ → List Named → Type 0
AreRight notes table = (q : List ℕ) (a : ℕ) → IsNoted notes q a → slice_get table a ≡ Some (kind.Element, lowered q)
