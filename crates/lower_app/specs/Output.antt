-- The line of an entry, in its file.
use Rattle.std.specs.Prelude.{ℕ, List, drop}
use Rattle.tp_base.specs.Places.{place_at}
use Rattle.tp_base.specs.declared.places.Place.{Place}
use Rattle.lower_app.specs.declared.given.Entry.{Entry}
use Rattle.lower_app.specs.declared.given.Form.{Form}
use Rattle.lower_app.specs.declared.given.Form.TheVariants.{Assumed, Given}
use Rattle.lower_app.specs.Files.{File}
use Rattle.lower_app.specs.Lines.{assumption_line, statement_line}

-- by its file's word, its place, what begins there, and its key
abbrev pub line_by : List ℕ → Place → List ℕ → List ℕ → Form → List ℕ
line_by word place rest key (Assumed kind) = assumption_line word place rest kind
line_by word place rest key (Given any) = statement_line word place key any

abbrev pub line_in : File → Entry → List ℕ
line_in f e = line_by f.word (place_at f.text e.origin.at) (drop e.origin.at f.text) e.key e.form
