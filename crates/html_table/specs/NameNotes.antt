-- The cache of names as they are written.
use Rattle.std.specs.Prelude.{◌≡◌, ℕ, List, slice_get, Some}
use Rattle.html_table.specs.declared.name_notes.Note.{Note}
use Rattle.html_table.specs.declared.name_notes.NameNotes.{NameNotes}

-- this value is noted of the name
pub record IsNoted {V : Type 0} (n : NameNotes V) (q : List ℕ) (v : V) : Type 0 where
  pub place : ℕ
  pub note : Note V
  pub there : slice_get n.notes.items place ≡ Some (Some note)
  pub name : note.name.items ≡ q
  pub value : note.value ≡ v
