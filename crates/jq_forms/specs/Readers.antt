-- What a reader of a script lets a list of expressions hold.
use Rattle.std.specs.Prelude.{ℕ, Bool, map}
use Rattle.jq_words.specs.FreeLists.{Rules}
use Rattle.jq_cursor.specs.declared.readers.Reader.{Reader}

abbrev pub rules_from : Reader → Bool → Bool → ℕ → Rules
rules_from r has_this braces room = record { exact = r.exact; declared = map (λ k. k.now) r.declared.now; has_this = has_this; braces = braces; room = room }
