use Rattle.std.proofs.Common.{◌≡◌, ◌++◌, flat_map, take}
use Rattle.lower_app.specs.Quoting.{in_quotes}
use Rattle.lower_app.proofs.quoting.push_bytes.Given as goal

abbrev pub invariant-bytes : goal.invariant-bytes
invariant-bytes l = l.line.items ≡ l.fn.line.items ++ flat_map in_quotes (take l.byte-index l.text)
