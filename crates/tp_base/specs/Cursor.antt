-- A cursor in a text.
use Rattle.std.specs.Prelude.{◌≡◌, ◌≤◌, ◌+◌, ℕ, List, length}
use Rattle.tp_base.specs.Places.{line_of, column_of}
use Rattle.tp_base.specs.declared.cursor.Cursor.{Cursor}

-- the cursor knows the place of its offset
pub record IsAt (text : List ℕ) (c : Cursor) : Type 0 where
  pub in_text : c.offset ≤ length text
  pub line : c.place.line ≡ line_of text c.offset
  pub column : c.place.column ≡ column_of text c.offset
  pub line_bound : c.place.line ≤ 1 + c.offset
  pub column_bound : c.place.column ≤ 1 + c.offset
