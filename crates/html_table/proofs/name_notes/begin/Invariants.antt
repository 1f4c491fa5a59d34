use Rattle.std.proofs.Common.{◌≡◌, ℕ, suc, ◌-◌, length, slice_get, Some}
use Rattle.html_table.specs.declared.name_notes.Note.{Note}
use Rattle.html_table.proofs.name_notes.begin.Given as goal

abbrev pub invariant-notes : goal.invariant-notes
invariant-notes g l = (i : ℕ) (m : Note g.row.V.Denot) → slice_get l.notes.items i ≡ Some (Some m) → slice_get l.initial.notes.items i ≡ Some (Some m)

abbrev pub decreases-notes : goal.decreases-notes
decreases-notes g l = suc l.place - length l.notes.items
