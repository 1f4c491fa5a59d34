use Rattle.std.proofs.Common.{◌≡◌, ◌++◌, map, take}
use Rattle.lower_app.specs.Lines.{shown_byte}
use Rattle.lower_app.proofs.lines.push_word.Given as goal

abbrev pub invariant-bytes : goal.invariant-bytes
invariant-bytes l = l.line.items ≡ l.fn.line.items ++ map shown_byte (take l.byte-index l.word)
