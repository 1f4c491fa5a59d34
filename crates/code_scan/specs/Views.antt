-- How what the code reads stands to what the definitions give.
use Rattle.std.specs.Prelude.{ℕ, List, take}
use Rattle.js_scan.specs.Views.{bytes_of}
use Rattle.js_scan.specs.Views.{meant}
use Rattle.code_scan.specs.declared.escapes.Escape.{Escape}
use Rattle.code_scan.specs.declared.state.State as code_state
use Rattle.code_scan.specs.declared.texts.Next.{Next}
use Rattle.code_scan.specs.declared.texts.Quoted as code_quoted
use Rattle.code_scan.specs.Escapes.{Part}
use Rattle.code_scan.specs.States.{State}
use Rattle.code_scan.specs.Texts.{Quoted}

abbrev pub part_of_escape : Escape → Part
part_of_escape e = record { letters = bytes_of e.meaning; len = e.len; sure = e.sure }

-- of a front that begins with these bytes
abbrev pub part_in : List ℕ → Next → Part
part_in bs n = record { letters = meant n.meaning (take n.len bs); len = n.len; sure = n.sure }

abbrev pub quoted_of : code_quoted.Quoted → Quoted
quoted_of q = record { letters = q.letters; rest = q.rest.now; ending = q.ending; sure = q.sure }

abbrev pub state_of : code_state.State → State
state_of s = record { before = s.before; new_line = s.new_line; brackets = s.brackets }
